use Rattle.std.proofs.Common.{ℕ, nat_le, rules}
use Rattle.std.proofs.lemmas.List.Sorted.{IsPartitionedBy-leb, IsPartitionPoint-from_clause}
use Rattle.seal_log.specs.declared.place.Place.{Place}
use Rattle.shelf.proofs.MarkLemmas.{parted_front, rise_along}
use Rattle.shelf.proofs.marks.count_to.Goals as goal

-- the test passes along a front
pub returns-clause-front : goal.returns-clause-front
returns-clause-front c =
    let facts = c.partition_point.ensures in
    let test = λ (m : ℕ × Place). nat_le m.0 c.args.position in
    parted_front test c.args.marks.now c.partition_point.result facts.bound
    (IsPartitionPoint-from_clause test c.args.marks.now c.partition_point.result facts.partitioned
    (IsPartitionedBy-leb (λ (m : ℕ × Place). m.0) c.args.marks.now c.args.position (rise_along c.args.marks.now c.requires))
    (λ a r f called. search rules))
