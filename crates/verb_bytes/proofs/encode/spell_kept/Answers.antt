use Rattle.std.proofs.lemmas.Result.{err_from_is_err_and}
use Rattle.verb_bytes.specs.declared.journal.JournalRecord.TheVariants.{Kept}
use Rattle.verb_bytes.proofs.Puts.{spells, spells_none}
use Rattle.verb_bytes.proofs.encode.spell_kept.Goals as goal

pub returns-in_err-put_kept_record : goal.returns-in_err-put_kept_record
returns-in_err-put_kept_record c =
    let p = err_from_is_err_and c.from_residual.result c.from_residual.ensures.1 in
    rw (p.1, p.2) (spells_none (Kept c.args.item.now) c.new-out.result c.put_kept_record.new.out c.in_err-put_kept_record.field-0.0 c.new-out.ensures c.in_err-put_kept_record.ensures)

pub returns : goal.returns
returns c = spells (Kept c.args.item.now) c.new-out.result c.put_kept_record.new.out c.new-out.ensures c.in_ok-put_kept_record.ensures
