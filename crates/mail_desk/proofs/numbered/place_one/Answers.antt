use Rattle.std.proofs.Common.{◌≡◌, ◌∙◌, ℕ, List, [], ◌∷◌, ◌++◌, length, arith, subst, sym}
use Rattle.verb_core.specs.declared.item.Item.{Item}
use Rattle.mail_desk.specs.Places.{HasPlaces}
use Rattle.mail_desk.proofs.Indexes.{place_last}
use Rattle.mail_desk.proofs.numbered.place_one.Goals as goal

pub returns-clause-places : goal.returns-clause-places
returns-clause-places c = λ has.
    let items = c.args.items.now in
    let item = c.args.item in
    let place : c.len.result ≡ length items.items = omega (arith, c.len.ensures, items.ok.0) in
    let rows : c.push_reserved.new.self.items ≡ c.args.places.now.items ++ (item.number, length items.items) ∷ [] = c.push_reserved.ensures.items ∙ (λ j. c.args.places.now.items ++ (c.number_of.ensures j, place j) ∷ []) in
    subst (λ (rs : List (ℕ × ℕ)). HasPlaces rs c.push_reserved-2.new.self.items (length c.push_reserved-2.new.self.items)) (sym rows)
    (subst (λ (t : List Item). HasPlaces (c.args.places.now.items ++ (item.number, length items.items) ∷ []) t (length t)) (sym c.push_reserved-2.ensures.items)
    (place_last c.args.places.now.items items.items item has))
