use Rattle.std.proofs.Common.{rules}
use Rattle.std.proofs.lemmas.List.Sorted.{IsPartitionPoint-from_clause}
use Rattle.mail_rows.specs.Confs.{comes_behind, id_at}
use Rattle.mail_rows.proofs.AliasOrder.{parted, place_counted}
use Rattle.mail_rows.proofs.filter_order.rank_of.Goals as goal

pub returns : goal.returns
returns c =
    let facts = c.partition_point.ensures in
    let test = comes_behind c.args.id.now c.args.filters.now in
    place_counted test c.args.order.now c.partition_point.result facts.bound
    (IsPartitionPoint-from_clause test c.args.order.now c.partition_point.result facts.partitioned (parted (id_at c.args.filters.now) c.args.id.now c.args.order.now c.requires) (λ a r f called. search rules))
