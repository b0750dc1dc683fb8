use Rattle.std.proofs.lemmas.Result.{err_from_is_err_and}
use Rattle.verb_bytes.specs.declared.journal.JournalRecord.TheVariants.{Verb}
use Rattle.verb_bytes.proofs.Puts.{spells, spells_none}
use Rattle.verb_bytes.proofs.encode.spell_item.Goals as goal

pub returns-in_err-put_verb : goal.returns-in_err-put_verb
returns-in_err-put_verb c =
    let p = err_from_is_err_and c.from_residual.result c.from_residual.ensures.1 in
    rw (p.1, p.2) (spells_none (Verb c.args.item.now) c.text_with_room-out.result c.put_verb.new.out c.in_err-put_verb.field-0.0 c.text_with_room-out.ensures c.in_err-put_verb.ensures)

pub returns : goal.returns
returns c = spells (Verb c.args.item.now) c.text_with_room-out.result c.put_verb.new.out c.text_with_room-out.ensures c.in_ok-put_verb.ensures
