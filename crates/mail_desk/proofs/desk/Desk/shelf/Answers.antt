use Rattle.std.proofs.Common.{◌≡◌, ◌∙◌, ◌++◌, ℕ, List, Option, Some, None, IsTrue, ap, is_some, length, option_map, refl, subst}
use Rattle.verb_core.specs.declared.mailbox.Body.{Body}
use Rattle.shelf.specs.Notes.{size_of}
use Rattle.store_kept.specs.Kept.{store_of}
use Rattle.store_kept.specs.Texts.{has_text_with, items_behind, text_with}
use Rattle.store_kept.proofs.Known.{bodies_weaker}
use Rattle.mail_desk.specs.Held.{Held}
use Rattle.mail_desk.specs.Timeline.{has_sizes}
use Rattle.mail_desk.proofs.BodyTexts.{text_ahead, with_weaker}
use Rattle.mail_desk.proofs.desk.Desk.shelf.Goals as goal

-- a text has a length
measured : (o : Option (List ℕ)) → is_some (option_map length o) ≡ is_some o
measured None = refl
measured (Some text) = refl

pub returns-clause-known : goal.returns-clause-known
returns-clause-known c =
    let d = c.self.inside in
    subst (λ (h : Held). IsTrue (has_sizes d.shelf.notes (store_of h.kept).boxes)) c.self.view_is
    (bodies_weaker (has_text_with d.base.texts d.timeline.items) (λ (body : Body). is_some (size_of d.shelf.notes body)) d.store.store.boxes
    (λ body has. ap is_some (c.self.invariant.sizes body) ∙ measured (text_with d.base.texts (d.timeline.items ++ items_behind d.undone) body)
    ∙ with_weaker d.base.texts d.timeline.items (d.timeline.items ++ items_behind d.undone) body (text_ahead d.timeline.items (items_behind d.undone) body) has) c.self.invariant.desk.texts)
