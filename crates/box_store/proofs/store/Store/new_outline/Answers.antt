use Rattle.std.proofs.Common.{◌∙◌, List, IsTrue, ap, sym, subst}
use Rattle.verb_core.specs.declared.mailbox.BoxId.{BoxId}
use Rattle.verb_core.specs.declared.mailbox.Mailbox.{Mailbox}
use Rattle.verb_core.specs.Boxes.{is_rising}
use Rattle.box_store.specs.Outline.{outlined}
use Rattle.box_store.proofs.Outlines.{rising_outlined}
use Rattle.box_store.proofs.store.Store.new_outline.Goals as goal

pub invariant_of-result : goal.invariant_of-result
invariant_of-result c =
    subst (λ (rows : List (BoxId × Mailbox)). IsTrue (is_rising rows)) (sym (c.in_ok-rows.ensures ∙ ap outlined c.as_slice.ensures.value))
    (rising_outlined c.self.inside.rows.items ∙ c.self.invariant)
