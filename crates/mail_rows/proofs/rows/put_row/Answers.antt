use Rattle.std.proofs.Common.{List, ℕ, subst}
use Rattle.verb_core.specs.declared.mailbox.BoxId.{BoxId}
use Rattle.verb_core.specs.declared.mailbox.Mailbox.{Mailbox}
use Rattle.verb_core.specs.Boxes.{box_of}
use Rattle.mail_rows.specs.Places.{IsPlace}
use Rattle.mail_rows.proofs.PlaceLaws.{put_placed}
use Rattle.mail_rows.proofs.rows.put_row.Goals as goal

pub returns-in-Ok-clause-rows : goal.returns-in-Ok-clause-rows
returns-in-Ok-clause-rows c =
    put_placed c.args.id c.args.rows.now.items c.in-Ok.place
    (subst (λ (rs : List (BoxId × Mailbox)). IsPlace c.args.id rs c.in-Ok.place) c.as_slice.ensures.value
    (subst (λ (n : List ℕ). IsPlace (box_of c.args.id.user n) c.as_slice.result.now c.in-Ok.place) c.bytes.ensures.value c.in-Ok.ensures.found))
    c.args.mailbox
