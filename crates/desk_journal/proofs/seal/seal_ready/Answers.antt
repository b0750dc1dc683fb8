use Rattle.std.proofs.Common.{◌+◌, length, arith, refl, subst}
use Rattle.verb_core.specs.Items.{text_in}
use Rattle.seal_log.specs.declared.place.Place.{Place}
use Rattle.mail_desk.specs.Timeline.{NotesText, body_of}
use Rattle.desk_journal.proofs.Holding.{asked_below, entered_notes}
use Rattle.desk_journal.proofs.Noting.{recorded_is}
use Rattle.desk_journal.proofs.seal.seal_ready.Goals as goal

-- its text is noted where it lies in the record
pub returns-in-Ok-clause-noted : goal.returns-in-Ok-clause-noted
returns-in-Ok-clause-noted g c =
    let old = c.args.desk.now in
    let item = c.args.found.ready.item in
    let bytes = c.args.found.bytes in
    let place : Place = record { gate = c.args.journal.now.gate; length = length bytes } in
    entered_notes (place.gate + 5 + length bytes) place bytes c.args.found.from old c.enter.new.self item (omega arith) refl
    (λ text own. let lies = c.requires.lies text (recorded_is old.kept.first item text own) in (lies.within, lies.is))
    (asked_below old.kept item c.requires.ready.number c.stands.ensures.below c.stands.ensures.undone)
    (c.stands.ensures.base.beyond item.number (omega (arith, c.requires.ready.number))).unnamed
    c.enter.ensures.kept
    (subst (λ (p : Place). NotesText (text_in item.deed) (body_of item) p c.args.found.from old.notes c.enter.new.self.notes) c.next_place-place.ensures c.enter.ensures.notes)
