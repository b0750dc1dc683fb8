use Rattle.std.proofs.lemmas.Result.{err_from_is_err_and}
use Rattle.verb_bytes.specs.declared.journal.JournalRecord.TheVariants.{Operator}
use Rattle.verb_bytes.proofs.Puts.{spells, spells_none}
use Rattle.verb_bytes.proofs.encode.spell_act.Goals as goal

pub returns-in_err-put_operator : goal.returns-in_err-put_operator
returns-in_err-put_operator c =
    let p = err_from_is_err_and c.from_residual.result c.from_residual.ensures.1 in
    rw (p.1, p.2) (spells_none (Operator c.args.number c.args.at c.args.act.now) c.new-out.result c.put_operator.new.out c.in_err-put_operator.field-0.0 c.new-out.ensures c.in_err-put_operator.ensures)

pub returns : goal.returns
returns c = spells (Operator c.args.number c.args.at c.args.act.now) c.new-out.result c.put_operator.new.out c.new-out.ensures c.in_ok-put_operator.ensures
