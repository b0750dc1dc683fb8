use Rattle.std.proofs.lemmas.Result.{err_from_is_err_and}
use Rattle.verb_bytes.specs.declared.journal.JournalRecord.TheVariants.{Upgrade}
use Rattle.verb_bytes.proofs.Puts.{spells, spells_none}
use Rattle.verb_bytes.proofs.encode.spell_upgrade.Goals as goal

pub returns-in_err-put_upgrade : goal.returns-in_err-put_upgrade
returns-in_err-put_upgrade c =
    let p = err_from_is_err_and c.from_residual.result c.from_residual.ensures.1 in
    rw (p.1, p.2) (spells_none (Upgrade c.args.at) c.new-out.result c.put_upgrade.new.out c.in_err-put_upgrade.field-0.0 c.new-out.ensures c.in_err-put_upgrade.ensures)

pub returns : goal.returns
returns c = spells (Upgrade c.args.at) c.new-out.result c.put_upgrade.new.out c.new-out.ensures c.in_ok-put_upgrade.ensures
