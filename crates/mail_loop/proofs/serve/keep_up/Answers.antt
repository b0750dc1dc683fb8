use Rattle.std.proofs.Common.{sym, ◌∙◌}
use Rattle.mail_loop.specs.Machine.{IsKept, IsPassed}
use Rattle.mail_loop.proofs.Sealed.{due_since, few_since, none_due, none_shut, snapshot_keeps, snapshot_passed}
use Rattle.mail_loop.proofs.serve.keep_up.Goals as goal

pub returns-then-closed-clause-keeps : goal.returns-then-closed-clause-keeps
returns-then-closed-clause-keeps g c =
    let desk = c.args.desk.now in
    (IsPassed, none_due g.D.Disk.told c.seals_join.ensures.nothing IsPassed desk (none_shut desk (sym c.closed.ensures ∙ c.if-closed.true)))

pub returns-then-since_snapshot-lt-SNAPSHOT_AFTER-clause-keeps : goal.returns-then-since_snapshot-lt-SNAPSHOT_AFTER-clause-keeps
returns-then-since_snapshot-lt-SNAPSHOT_AFTER-clause-keeps g c =
    let desk = c.args.desk.now in
    (IsPassed, none_due g.D.Disk.told c.seals_join.ensures.nothing IsPassed desk (few_since desk c.since_snapshot.result c.since_snapshot.ensures c.if-since_snapshot-lt-SNAPSHOT_AFTER.true))

pub returns-in-Ok-clause-keeps : goal.returns-in-Ok-clause-keeps
returns-in-Ok-clause-keeps g c =
    (IsKept, snapshot_keeps g.D.Disk.told c.args.desk.now c.snapshot.new.self (due_since c.args.desk.now c.since_snapshot.result (sym c.closed.ensures ∙ c.if-closed.false) c.since_snapshot.ensures c.if-since_snapshot-lt-SNAPSHOT_AFTER.false) c.in-Ok.ensures.ok c.in-Ok.ensures.sealed c.snapshot.ensures.reads c.in-Ok.ensures.wants.ok)

pub returns-in-Err-clause-keeps : goal.returns-in-Err-clause-keeps
returns-in-Err-clause-keeps g c =
    snapshot_passed g.D.Disk.told c.args.desk.now c.snapshot.new.self c.in-Err.field-0 (due_since c.args.desk.now c.since_snapshot.result (sym c.closed.ensures ∙ c.if-closed.false) c.since_snapshot.ensures c.if-since_snapshot-lt-SNAPSHOT_AFTER.false) c.in-Err.ensures.err c.in-Err.ensures.why c.snapshot.ensures.reads c.in-Err.ensures.wants
