use Rattle.std.proofs.lemmas.Result.{err_from_is_err_and}
use Rattle.verb_bytes.specs.declared.journal.JournalRecord.TheVariants.{Snapshot}
use Rattle.verb_bytes.proofs.Puts.{spells, spells_none}
use Rattle.verb_bytes.proofs.encode.spell_snapshot.Goals as goal

pub returns-in_err-put_snapshot : goal.returns-in_err-put_snapshot
returns-in_err-put_snapshot c =
    let p = err_from_is_err_and c.from_residual.result c.from_residual.ensures.1 in
    rw (p.1, p.2) (spells_none (Snapshot c.args.items c.args.conf.now c.args.rows.now) c.new-out.result c.put_snapshot.new.out c.in_err-put_snapshot.field-0.0 c.new-out.ensures c.in_err-put_snapshot.ensures)

pub returns : goal.returns
returns c = spells (Snapshot c.args.items c.args.conf.now c.args.rows.now) c.new-out.result c.put_snapshot.new.out c.new-out.ensures c.in_ok-put_snapshot.ensures
