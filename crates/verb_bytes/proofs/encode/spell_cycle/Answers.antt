use Rattle.std.proofs.lemmas.Result.{err_from_is_err_and}
use Rattle.verb_bytes.specs.declared.journal.JournalRecord.TheVariants.{Cycle}
use Rattle.verb_bytes.proofs.Puts.{spells, spells_none}
use Rattle.verb_bytes.proofs.encode.spell_cycle.Goals as goal

pub returns-in_err-put_cycle : goal.returns-in_err-put_cycle
returns-in_err-put_cycle c =
    let p = err_from_is_err_and c.from_residual.result c.from_residual.ensures.1 in
    rw (p.1, p.2) (spells_none (Cycle c.args.number c.args.at c.args.ask.now) c.new-out.result c.put_cycle.new.out c.in_err-put_cycle.field-0.0 c.new-out.ensures c.in_err-put_cycle.ensures)

pub returns : goal.returns
returns c = spells (Cycle c.args.number c.args.at c.args.ask.now) c.new-out.result c.put_cycle.new.out c.new-out.ensures c.in_ok-put_cycle.ensures
