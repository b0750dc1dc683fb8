use Rattle.std.proofs.Common.{inl}
use Rattle.mail_loop.proofs.serve.serve_events.Goals as goal

-- what the desk sealed lets UIDs last
pub returns-clause-uids : goal.returns-clause-uids
returns-clause-uids g c holds =
    let (steps, notes, over, (added, seals, read), through) = c.serve_each.ensures.serves in
    c.records_let_uids_last.ensures.lasts c.args.desk.now.kept c.serve_each.new.desk.kept added (c.stands.ensures.sound holds.texts.runs)
    holds.texts.revs holds.texts.back (seals.kept (inl holds))

-- and texts, where no withdrawal was among it
pub returns-clause-stays : goal.returns-clause-stays
returns-clause-stays g c = λ added failed seals holds none.
    c.records_let_uids_last.ensures.stays c.args.desk.now.kept c.serve_each.new.desk.kept added (c.stands.ensures.sound holds.texts.runs) (seals.kept (inl holds)) none

-- and what the disk holds says what the store is
pub returns-clause-runs : goal.returns-clause-runs
returns-clause-runs g c holds =
    let (steps, notes, over, (added, seals, read), through) = c.serve_each.ensures.serves in
    (seals.texts holds).texts.runs
