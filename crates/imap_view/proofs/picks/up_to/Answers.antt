use Rattle.std.proofs.Common.{nat_le, rules}
use Rattle.std.proofs.lemmas.List.Sorted.{IsPartitionPoint-from_clause, IsPartitionedBy-leb}
use Rattle.imap_view.specs.declared.messages.Known.{Known}
use Rattle.imap_view.proofs.Order.{nondecreasing}
use Rattle.imap_view.proofs.Picked.{ends_with}
use Rattle.imap_view.proofs.picks.up_to.Goals as goal

pub returns-clause-point : goal.returns-clause-point
returns-clause-point c =
    let parted = IsPartitionedBy-leb (λ (k : Known). k.uid) c.args.view.now c.args.number (nondecreasing (λ (k : Known). k.uid) c.args.view.now c.requires) in
    ends_with c.args.view.now c.args.number c.partition_point.result c.partition_point.ensures.bound
    (IsPartitionPoint-from_clause (λ (k : Known). nat_le k.uid c.args.number) c.args.view.now _ c.partition_point.ensures.partitioned parted (λ a r q k. search rules))
