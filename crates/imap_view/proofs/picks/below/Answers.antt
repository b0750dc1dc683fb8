use Rattle.std.proofs.Common.{nat_lt, rules}
use Rattle.std.proofs.lemmas.List.Sorted.{IsPartitionPoint-from_clause, IsPartitionedBy-ltb}
use Rattle.imap_view.specs.declared.messages.Known.{Known}
use Rattle.imap_view.proofs.Order.{nondecreasing}
use Rattle.imap_view.proofs.Picked.{ends_below}
use Rattle.imap_view.proofs.picks.below.Goals as goal

pub returns-clause-point : goal.returns-clause-point
returns-clause-point c =
    let parted = IsPartitionedBy-ltb (λ (k : Known). k.uid) c.args.view.now c.args.number (nondecreasing (λ (k : Known). k.uid) c.args.view.now c.requires) in
    ends_below c.args.view.now c.args.number c.partition_point.result c.partition_point.ensures.bound
    (IsPartitionPoint-from_clause (λ (k : Known). nat_lt k.uid c.args.number) c.args.view.now _ c.partition_point.ensures.partitioned parted (λ a r q k. search rules))
