use Rattle.std.proofs.Common.{◌≡◌, Bool, None, Some, refl, subst, sym}
use Rattle.std.proofs.lemmas.Result.{err_from_is_err_and}
use Rattle.desk_journal.specs.Records.{after_record}
use Rattle.time_desk.specs.Standing.{FailsReading, Performs, ReadCounts}
use Rattle.desk_journal.proofs.Staying.{holds_on}
use Rattle.time_desk.proofs.Standings.{if_err_from, unread_counts, unread_fails}
use Rattle.time_desk.proofs.start.performed.Goals as goal

pub returns-then-stood-clause-next : goal.returns-then-stood-clause-next
returns-then-stood-clause-next g c payloads texts =
    subst (λ (b : Bool). Performs (after_record c.args.desk.now.kept c.args.what) b c.follow.new.desk.kept) c.if-stood.true (c.in_ok-stood.ensures.performed payloads texts)

pub returns-then-stood-clause-texts : goal.returns-then-stood-clause-texts
returns-then-stood-clause-texts g c payloads texts lies =
    let next : after_record c.args.desk.now.kept c.args.what ≡ Some c.follow.new.desk.kept =
    subst (λ (b : Bool). Performs (after_record c.args.desk.now.kept c.args.what) b c.follow.new.desk.kept) c.if-stood.true (c.in_ok-stood.ensures.performed payloads texts) in
    record {
      held = holds_on (g.D.Disk.told c.args.past.now.disk) (g.D.Disk.told c.follow.new.past.disk) payloads c.follow.ensures.still.reads texts.held;
      lie = c.in_ok-stood.ensures.texts payloads texts lies c.if-stood.true;
      revs = c.revs_stay.ensures.revs c.args.what c.follow.new.desk.kept texts.runs texts.revs texts.back next;
      back = c.revs_stay.ensures.back c.args.what c.follow.new.desk.kept texts.runs texts.revs texts.back next;
      runs = c.revs_stay.ensures.runs c.args.what c.follow.new.desk.kept texts.runs next;
      marks = c.in_ok-stood.ensures.marks payloads texts lies c.if-stood.true;
    }

pub returns-clause-bad : goal.returns-clause-bad
returns-clause-bad g c payloads texts =
    (subst (λ (b : Bool). Performs (after_record c.args.desk.now.kept c.args.what) b c.follow.new.desk.kept) c.if-stood.false (c.in_ok-stood.ensures.performed payloads texts), refl)

pub returns-in_err-stood-clause-bad : goal.returns-in_err-stood-clause-bad
returns-in_err-stood-clause-bad g c payloads texts =
    let p = err_from_is_err_and c.from_residual.result c.from_residual.ensures.1 in
    if_err_from c.from_residual.result (FailsReading (after_record c.args.desk.now.kept c.args.what ≡ None) c.args.place.gate) p.0 _ p.1 p.2 (unread_fails (after_record c.args.desk.now.kept c.args.what ≡ None) c.args.place.gate c.in_err-stood.field-0.0)

pub returns-in_err-stood-clause-fault : goal.returns-in_err-stood-clause-fault
returns-in_err-stood-clause-fault g c =
    let p = err_from_is_err_and c.from_residual.result c.from_residual.ensures.1 in
    if_err_from c.from_residual.result (ReadCounts (g.D.Disk.told c.args.past.now.disk) (g.D.Disk.told c.follow.new.past.disk)) p.0 _ p.1 p.2
    (unread_counts (g.D.Disk.told c.args.past.now.disk) (g.D.Disk.told c.follow.new.past.disk) c.in_err-stood.field-0.0 c.in_err-stood.ensures.cause)
