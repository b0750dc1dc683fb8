use Rattle.std.proofs.Common.{sym, ◌∙◌}
use Rattle.mail_rows.proofs.FilterOrder.{ranked_first, ranked_none}
use Rattle.mail_rows.proofs.filter_order.ordered_place.Goals as goal

pub returns-then-is_ranked : goal.returns-then-is_ranked
returns-then-is_ranked c = ranked_first c.args.id.now c.args.filters.now c.args.order.now c.requires.order c.rank_of-rank.result c.rank_of-rank.ensures 0 c.requires.all (sym c.is_ranked.ensures ∙ c.if-is_ranked.true)

pub returns-else-is_ranked : goal.returns-else-is_ranked
returns-else-is_ranked c = ranked_none c.args.id.now c.args.filters.now c.args.order.now c.requires.order c.rank_of-rank.result c.rank_of-rank.ensures c.requires.all (sym c.is_ranked.ensures ∙ c.if-is_ranked.false)
