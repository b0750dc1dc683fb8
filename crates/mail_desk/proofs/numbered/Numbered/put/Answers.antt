use Rattle.std.proofs.Common.{◌≡◌, ℕ, List, [], ◌∷◌, ◌++◌, arith, length, subst, sym, ◌∙◌}
use Rattle.std.specs.List.{insert}
use Rattle.verb_core.specs.declared.item.Item.{Item}
use Rattle.mail_desk.specs.Places.{IsIndex, IsPlaceAmong}
use Rattle.mail_desk.proofs.Indexes.{index_put}
use Rattle.mail_desk.proofs.numbered.Numbered.put.Goals as goal

pub invariant_of-self : goal.invariant_of-self
invariant_of-self c =
    let d = c.self.inside in
    let item = c.args.item in
    let at = c.place_of-place.result in
    let place : c.len.result ≡ length d.items.items = omega (arith, c.len.ensures, d.items.ok.0) in
    let among : IsPlaceAmong item.number d.places.items at =
    subst (λ (number : ℕ). IsPlaceAmong number d.places.items at) c.number_of.ensures (subst (λ (rows : List (ℕ × ℕ)). IsPlaceAmong c.number_of.result rows at) c.as_slice.ensures.value c.place_of-place.ensures) in
    let rows : c.insert_within.new.list.items ≡ insert d.places.items at (item.number, length d.items.items) = c.insert_within.ensures.items ∙ (λ j. insert d.places.items at (c.number_of.ensures j, place j)) in
    subst (λ (rs : List (ℕ × ℕ)). IsIndex rs c.push_reserved.new.self.items) (sym rows)
    (subst (λ (t : List Item). IsIndex (insert d.places.items at (item.number, length d.items.items)) t) (sym c.push_reserved.ensures.items) (index_put d.places.items d.items.items item at c.self.invariant among))
