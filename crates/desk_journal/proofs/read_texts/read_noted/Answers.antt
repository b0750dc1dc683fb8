use Rattle.std.proofs.Common.{sym}
use Rattle.shelf.specs.Notes.{noted_text}
use Rattle.store_kept.specs.Texts.{text_at_hand}
use Rattle.desk_journal.specs.Stored.{IsStored}
use Rattle.desk_journal.proofs.Telling.{noted_text_is, read_text}
use Rattle.desk_journal.proofs.read_texts.read_noted.Goals as goal

-- what is read is the text at hand
pub returns-clause-text : goal.returns-clause-text
returns-clause-text g c = λ holds.
    let held = c.args.desk.now in
    let note = c.in-Some.note in
    let told = noted_text_is (IsStored holds.0) held c.args.body note holds.1.lie (sym (c.in-Some.ensures c.args.past.now.end c.requires)) in
    read_text c.read.result (text_at_hand held.kept c.args.body) (noted_text note told.2.payload) told.0
    (c.read.ensures.payload holds.0 told.2.payload holds.1.held told.2.lies) told.2.bytes told.1
