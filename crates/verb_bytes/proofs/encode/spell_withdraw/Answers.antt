use Rattle.std.proofs.lemmas.Result.{err_from_is_err_and}
use Rattle.verb_bytes.specs.declared.journal.JournalRecord.TheVariants.{Withdraw}
use Rattle.verb_bytes.proofs.Puts.{spells, spells_none}
use Rattle.verb_bytes.proofs.encode.spell_withdraw.Goals as goal

pub returns-in_err-put_withdraw : goal.returns-in_err-put_withdraw
returns-in_err-put_withdraw c =
    let p = err_from_is_err_and c.from_residual.result c.from_residual.ensures.1 in
    rw (p.1, p.2) (spells_none (Withdraw c.args.number c.args.at c.args.key.now c.args.of) c.new-out.result c.put_withdraw.new.out c.in_err-put_withdraw.field-0.0 c.new-out.ensures c.in_err-put_withdraw.ensures)

pub returns : goal.returns
returns c = spells (Withdraw c.args.number c.args.at c.args.key.now c.args.of) c.new-out.result c.put_withdraw.new.out c.new-out.ensures c.in_ok-put_withdraw.ensures
