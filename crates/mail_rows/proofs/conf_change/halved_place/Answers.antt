use Rattle.std.proofs.Common.{rules}
use Rattle.std.proofs.lemmas.List.Sorted.{IsPartitionPoint-from_clause}
use Rattle.verb_core.specs.declared.conf.Alias.{Alias}
use Rattle.mail_rows.specs.Confs.{stands_before}
use Rattle.mail_rows.proofs.AliasOrder.{parted, place_counted}
use Rattle.mail_rows.proofs.conf_change.halved_place.Goals as goal

-- what stands before the alias stands at the front
pub returns : goal.returns
returns c =
    let facts = c.partition_point.ensures in
    let test = stands_before c.args.local.now in
    place_counted test c.args.aliases.now c.partition_point.result facts.bound
    (IsPartitionPoint-from_clause test c.args.aliases.now c.partition_point.result facts.partitioned (parted (λ (a : Alias). a.local) c.args.local.now c.args.aliases.now c.requires) (λ a r f called. search rules))
