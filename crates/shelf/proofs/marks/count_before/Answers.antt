use Rattle.std.proofs.Common.{ℕ, nat_lt, rules}
use Rattle.std.proofs.lemmas.List.Sorted.{IsPartitionedBy-ltb, IsPartitionPoint-from_clause}
use Rattle.seal_log.specs.declared.place.Place.{Place}
use Rattle.shelf.proofs.MarkLemmas.{parted_front, parted_rest, rise_along}
use Rattle.shelf.proofs.marks.count_before.Goals as goal

-- the test passes along a front
pub returns : goal.returns
returns c =
    let facts = c.partition_point.ensures in
    let test = λ (m : ℕ × Place). nat_lt m.0 c.args.position in
    let parted =
    IsPartitionPoint-from_clause test c.args.marks.now c.partition_point.result facts.partitioned
    (IsPartitionedBy-ltb (λ (m : ℕ × Place). m.0) c.args.marks.now c.args.position (rise_along c.args.marks.now c.requires))
    (λ a r f called. search rules) in
    record {
      bound = facts.bound;
      front = parted_front test c.args.marks.now c.partition_point.result facts.bound parted;
      rest = parted_rest test c.args.marks.now c.partition_point.result facts.bound parted;
    }
