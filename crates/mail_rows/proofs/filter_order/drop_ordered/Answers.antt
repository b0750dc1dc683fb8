use Rattle.std.proofs.Common.{◌∙◌, List, ℕ, length, remove, take_while, subst, sym}
use Rattle.verb_core.specs.declared.conf.Filter.{Filter}
use Rattle.mail_rows.specs.Confs.{IsOrder, comes_behind, is_ranked}
use Rattle.mail_rows.proofs.FilterOrder.{filter_gone, order_left, none_gone}
use Rattle.mail_rows.proofs.filter_order.drop_ordered.Goals as goal

pub returns-then-is_ranked-clause-list : goal.returns-then-is_ranked-clause-list
returns-then-is_ranked-clause-list c =
    c.take_out.ensures
    ∙ filter_gone c.args.id.now c.args.list.now.items c.args.order.now.items c.requires.order c.rank_of-rank.result
    (c.rank_of-rank.ensures ∙ (λ j. length (take_while (comes_behind c.args.id.now (c.as_slice-2.ensures.value j)) (c.as_slice.ensures.value j)))) c.requires.all
    ((λ j. is_ranked c.args.id.now (sym c.as_slice-4.ensures.value j) (sym c.as_slice-3.ensures.value j) c.rank_of-rank.result) ∙ sym c.is_ranked.ensures ∙ c.if-is_ranked.true)
    c.take_rank-place.result c.take_rank-place.ensures.place

pub returns-then-is_ranked-clause-order : goal.returns-then-is_ranked-clause-order
returns-then-is_ranked-clause-order c =
    subst (λ (list : List Filter). IsOrder c.take_rank-place.new.order.items list) (sym c.take_out.ensures)
    (subst (λ (order : List ℕ). IsOrder order (remove c.args.list.now.items c.take_rank-place.result)) (sym c.take_rank-place.ensures.order)
    (order_left c.args.id.now c.args.list.now.items c.args.order.now.items c.requires.order c.rank_of-rank.result
    (c.rank_of-rank.ensures ∙ (λ j. length (take_while (comes_behind c.args.id.now (c.as_slice-2.ensures.value j)) (c.as_slice.ensures.value j)))) c.requires.all
    ((λ j. is_ranked c.args.id.now (sym c.as_slice-4.ensures.value j) (sym c.as_slice-3.ensures.value j) c.rank_of-rank.result) ∙ sym c.is_ranked.ensures ∙ c.if-is_ranked.true)
    c.take_rank-place.result c.take_rank-place.ensures.place))

pub returns-else-is_ranked-clause-list : goal.returns-else-is_ranked-clause-list
returns-else-is_ranked-clause-list c =
    none_gone c.args.id.now c.args.list.now.items c.args.order.now.items c.requires.order c.rank_of-rank.result
    (c.rank_of-rank.ensures ∙ (λ j. length (take_while (comes_behind c.args.id.now (c.as_slice-2.ensures.value j)) (c.as_slice.ensures.value j)))) c.requires.all
    ((λ j. is_ranked c.args.id.now (sym c.as_slice-4.ensures.value j) (sym c.as_slice-3.ensures.value j) c.rank_of-rank.result) ∙ sym c.is_ranked.ensures ∙ c.if-is_ranked.false)
