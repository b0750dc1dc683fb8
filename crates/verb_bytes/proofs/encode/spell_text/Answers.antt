use Rattle.std.proofs.lemmas.Result.{err_from_is_err_and}
use Rattle.verb_bytes.specs.declared.journal.JournalRecord.TheVariants.{Text}
use Rattle.verb_bytes.proofs.Puts.{spells, spells_none}
use Rattle.verb_bytes.proofs.encode.spell_text.Goals as goal

pub returns-in_err-put_text_record : goal.returns-in_err-put_text_record
returns-in_err-put_text_record c =
    let p = err_from_is_err_and c.from_residual.result c.from_residual.ensures.1 in
    rw (p.1, p.2) (spells_none (Text c.args.body c.args.text.now) c.new-out.result c.put_text_record.new.out c.in_err-put_text_record.field-0.0 c.new-out.ensures c.in_err-put_text_record.ensures)

pub returns : goal.returns
returns c = spells (Text c.args.body c.args.text.now) c.new-out.result c.put_text_record.new.out c.new-out.ensures c.in_ok-put_text_record.ensures
