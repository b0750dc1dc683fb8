use Rattle.std.proofs.Common.{◌≡◌, ◌<◌, ℕ, List, [], ◌∷◌, ◌++◌, length, sym, subst, ◌∙◌, arith}
use Rattle.std.specs.List.{AllByRecursion}
use Rattle.verb_core.specs.declared.item.Item.{Item}
use Rattle.mail_desk.specs.Places.{IsIndex, Placed}
use Rattle.mail_desk.proofs.Indexes.{index_on}
use Rattle.mail_desk.proofs.numbered.Numbered.push.Goals as goal

pub invariant_of-self : goal.invariant_of-self
invariant_of-self c =
    let d = c.self.inside in
    let item = c.args.item in
    let place : c.len.result ≡ length d.items.items = omega (arith, c.len.ensures, d.items.ok.0) in
    let lower = subst (λ (p : Placed). AllByRecursion (λ (i : Item). i.number < item.number) p.items) (sym c.self.view_is) c.requires.higher in
    let rows : c.push_reserved.new.self.items ≡ d.places.items ++ (item.number, length d.items.items) ∷ [] = c.push_reserved.ensures.items ∙ (λ j. d.places.items ++ (c.number_of.ensures j, place j) ∷ []) in
    subst (λ (rs : List (ℕ × ℕ)). IsIndex rs c.push_reserved-2.new.self.items) (sym rows)
    (subst (λ (t : List Item). IsIndex (d.places.items ++ (item.number, length d.items.items) ∷ []) t) (sym c.push_reserved-2.ensures.items)
    (index_on d.places.items d.items.items item c.self.invariant lower))
