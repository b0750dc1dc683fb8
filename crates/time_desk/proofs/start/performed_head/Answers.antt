use Rattle.std.proofs.Common.{◌≡◌, ℕ, Bool, Some, refl, subst, sym}
use Rattle.desk_journal.specs.Records.{after_record}
use Rattle.desk_journal.specs.Stored.{AreNoted, MarkedBefore, TextsNoted}
use Rattle.time_desk.specs.Heads.{headed}
use Rattle.time_desk.specs.Standing.{Performs}
use Rattle.time_desk.proofs.start.performed_head.Goals as goal

pub returns-then-stood-clause-next : goal.returns-then-stood-clause-next
returns-then-stood-clause-next g c =
    subst (λ (b : Bool). Performs (after_record c.args.desk.now.kept (headed c.args.head)) b c.follow_head.new.desk.kept) c.if-stood.true c.in-Ok.ensures.entered

pub returns-then-stood-clause-texts : goal.returns-then-stood-clause-texts
returns-then-stood-clause-texts g c payloads texts lies =
    let what = headed c.args.head in
    let next : after_record c.args.desk.now.kept what ≡ Some c.follow_head.new.desk.kept =
    subst (λ (b : Bool). Performs (after_record c.args.desk.now.kept what) b c.follow_head.new.desk.kept) c.if-stood.true c.in-Ok.ensures.entered in
    record {
      held = texts.held;
      lie = (c.in-Ok.ensures.noted c.if-stood.true).lie payloads lies texts.lie;
      revs = c.revs_stay.ensures.revs what c.follow_head.new.desk.kept texts.runs texts.revs texts.back next;
      back = c.revs_stay.ensures.back what c.follow_head.new.desk.kept texts.runs texts.revs texts.back next;
      runs = c.revs_stay.ensures.runs what c.follow_head.new.desk.kept texts.runs next;
      marks = (c.in-Ok.ensures.marked c.if-stood.true).lie payloads lies texts.runs texts.marks;
    }

pub returns-then-stood-clause-noted : goal.returns-then-stood-clause-noted
returns-then-stood-clause-noted g c =
    subst (λ (n : ℕ). AreNoted n c.follow_head.new.desk) c.end.ensures (record {
      noted = (c.in-Ok.ensures.noted c.if-stood.true).before (subst (λ (n : ℕ). TextsNoted n c.args.desk.now.notes c.args.desk.now.kept) (sym c.end.ensures) c.requires.noted.noted);
      marked = (c.in-Ok.ensures.marked c.if-stood.true).before (subst (λ (n : ℕ). MarkedBefore n c.args.desk.now.marks) (sym c.end.ensures) c.requires.noted.marked);
    })

pub returns-else-stood-clause-bad : goal.returns-else-stood-clause-bad
returns-else-stood-clause-bad g c =
    (subst (λ (b : Bool). Performs (after_record c.args.desk.now.kept (headed c.args.head)) b c.follow_head.new.desk.kept) c.if-stood.false c.in-Ok.ensures.entered, refl)
