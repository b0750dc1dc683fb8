use Rattle.std.proofs.Common.{◌≡◌, ◌∙◌, ℕ, List, Option, Bool, true, not, ◌&&◌, ap, get_or, is_some, subst, sym}
use Rattle.verb_core.specs.declared.mailbox.Body.{Body}
use Rattle.store_kept.specs.Founding.{has_text_of}
use Rattle.store_kept.specs.Naming.{NamedTexts, are_rising, texts_come}
use Rattle.store_kept.proofs.Named.{row_has, row_named}
use Rattle.store_kept.proofs.texts.BaseTexts.wants.Goals as goal

pub returns-in-Ok : goal.returns-in-Ok
returns-in-Ok c =
    let row : Body × Option (List ℕ) = c.index.result.now in
    let text : Option (List ℕ) = (get_or c.args.self.now c.in-Ok.place row).1 in
    let here : row ≡ get_or c.args.self.now c.in-Ok.place row = c.index.ensures ∙ ap (λ (named : NamedTexts). get_or named c.in-Ok.place row) c.self.view_is in
    let rising : are_rising c.args.self.now ≡ true = subst (λ (named : NamedTexts). are_rising named ≡ true) c.self.view_is c.self.invariant in
    ap not (c.has_come.ensures ∙ ap (λ (r : Body × Option (List ℕ)). is_some r.1) here ∙ sym (row_has c.args.body c.args.self.now text rising (c.in-Ok.ensures.there.found row)))
    ∙ sym (ap (λ (b : Bool). b && not (has_text_of (texts_come c.args.self.now) c.args.body)) (row_named c.args.body c.args.self.now text (c.in-Ok.ensures.there.found row)))
