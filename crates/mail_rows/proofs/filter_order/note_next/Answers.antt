use Rattle.std.proofs.Common.{◌∙◌, ◌≡◌, List, ℕ, insert, length, take_while, subst, sym, ap, arith}
use Rattle.mail_rows.specs.Confs.{IsOrder, comes_behind, id_at, is_ranked}
use Rattle.mail_rows.proofs.FilterOrder.{noted}
use Rattle.mail_rows.proofs.filter_order.note_next.Goals as goal

-- the next filter's place is put where its rank is
pub returns : goal.returns
returns c =
    let last : c.len-place.result ≡ length c.args.order.now.items = omega (arith, c.len-place.ensures, c.args.order.now.ok.0) in
    let name : c.id_at-id.result.now ≡ id_at c.args.filters.now (length c.args.order.now.items) = c.id_at-id.ensures ∙ ap (id_at c.args.filters.now) last in
    subst (λ (order : List ℕ). IsOrder order c.args.filters.now) (sym (c.in_ok-insert.ensures.items ∙ ap (insert c.args.order.now.items c.rank_of-rank.result) last))
    (noted c.args.filters.now c.args.order.now.items c.requires c.rank_of-rank.result
    (c.rank_of-rank.ensures ∙ (λ j. length (take_while (comes_behind (name j) c.args.filters.now) (c.as_slice.ensures.value j))))
    (omega (arith, c.if-len-filters.false, c.len.ensures, c.len-else-len-filters.ensures, c.args.order.now.ok.0))
    ((λ j. is_ranked (sym name j) c.args.filters.now (sym c.as_slice-2.ensures.value j) c.rank_of-rank.result) ∙ sym c.is_ranked.ensures ∙ c.if-is_ranked.false))
