use Rattle.std.proofs.lemmas.Result.{err_from_is_err_and}
use Rattle.verb_bytes.specs.declared.journal.JournalRecord.TheVariants.{Base}
use Rattle.verb_bytes.proofs.Puts.{spells, spells_none}
use Rattle.verb_bytes.proofs.encode.spell_base.Goals as goal

pub returns-in_err-put_base : goal.returns-in_err-put_base
returns-in_err-put_base c =
    let p = err_from_is_err_and c.from_residual.result c.from_residual.ensures.1 in
    rw (p.1, p.2) (spells_none (Base c.args.next c.args.deep c.args.conf.now c.args.rows.now c.args.stamps.now c.args.reports.now) c.new-out.result c.put_base.new.out c.in_err-put_base.field-0.0 c.new-out.ensures c.in_err-put_base.ensures)

pub returns : goal.returns
returns c = spells (Base c.args.next c.args.deep c.args.conf.now c.args.rows.now c.args.stamps.now c.args.reports.now) c.new-out.result c.put_base.new.out c.new-out.ensures c.in_ok-put_base.ensures
