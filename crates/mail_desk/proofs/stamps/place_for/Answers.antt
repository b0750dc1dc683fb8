use Rattle.std.proofs.Common.{rules}
use Rattle.std.proofs.lemmas.List.Sorted.{IsPartitionPoint-from_clause}
use Rattle.verb_core.specs.Boxes.{box_of}
use Rattle.mail_desk.specs.Stamping.{stands_before}
use Rattle.mail_desk.proofs.RowPlaces.{parted, place_counted}
use Rattle.mail_desk.proofs.stamps.place_for.Goals as goal

-- what stands before the row stands at the front
pub returns : goal.returns
returns c =
    let facts = c.partition_point.ensures in
    let id = box_of c.args.user c.args.name.now in
    place_counted (stands_before id) c.args.rows.now c.partition_point.result facts.bound
    (IsPartitionPoint-from_clause (stands_before id) c.args.rows.now c.partition_point.result facts.partitioned (parted id c.args.rows.now c.requires) (λ a r f called. search rules))
