use Rattle.std.proofs.Common.{◌∙◌, List, Some, None, subst, sym}
use Rattle.verb_core.specs.declared.mailbox.Entry.{Entry}
use Rattle.mail_rows.specs.Indexed.{IsKeyPlace}
use Rattle.mail_rows.proofs.Gone.{none_goes, goes}
use Rattle.mail_rows.proofs.mail.left_by_halves.Goals as goal

pub returns-in-None : goal.returns-in-None
returns-in-None c =
    c.from_parts.ensures
    ∙ sym (none_goes c.args.key c.args.list.items (subst (λ (es : List Entry). IsKeyPlace c.args.key es None) c.as_slice.ensures.value c.in-None.ensures))

pub returns-in-Some : goal.returns-in-Some
returns-in-Some c =
    c.without_place.ensures
    ∙ goes c.args.list.items c.args.key c.in-Some.place c.requires (subst (λ (es : List Entry). IsKeyPlace c.args.key es (Some c.in-Some.place)) c.as_slice.ensures.value c.in-Some.ensures)
