-- How many records a console's request seals.
use Rattle.std.proofs.Common.{◌≡◌, ℕ, ◌+◌, ◌≤◌, arith, inl, Bool, true, false, List, length, min, nat_lt, if◌then◌else◌, Option, None, Some, Result, Ok, Err, refl, ap, sym, subst}
use Rattle.undo_outside.specs.Disk.{DiskTold}
use Rattle.undo_outside.specs.declared.event.What.{What}
use Rattle.undo_outside.specs.declared.event.What.TheVariants.{Bytes}
use Rattle.undo_base.specs.declared.limits.TheConstants.{END_OF_NUMBERS, LAST_MOMENT}
use Rattle.paradox.specs.declared.reports.Report.{Report}
use Rattle.verb_core.specs.Deeds.{act_item}
use Rattle.verb_core.specs.declared.item.Act.{Act}
use Rattle.verb_bytes.specs.declared.journal.CycleAsk.{CycleAsk}
use Rattle.verb_bytes.specs.declared.journal.JournalRecord.{JournalRecord}
use Rattle.verb_bytes.specs.declared.journal.JournalRecord.TheVariants.{Cycle, Operator, Upgrade, Withdraw}
use Rattle.withdraw.specs.declared.undone.UndoneBehind.{UndoneBehind}
use Rattle.store_kept.specs.Kept.{Kept, performed, report_of, snapshotted, undone_of, upgraded}
use Rattle.repair_desk.specs.Repairs.{position}
use Rattle.cycle_rules.specs.Asking.{Due, Repeats, NoPoint, NoNumbers, Rewinds, after_cycle, cycle_due, due_anew, due_at, due_by}
use Rattle.cycle_rules.specs.Cycles.{Cycled, cycled_at, leaves_numbers}
use Rattle.cycle_rules.specs.Repairing.{leaves_numbers_for}
use Rattle.cycle_rules.specs.Withdrawals.{after_withdrawal, withdraw_due, withdraw_due_at, withdrawn_at}
use Rattle.desk_journal.specs.Lasting.{Lasting}
use Rattle.desk_journal.specs.Records.{after_records, snapshot_record}
use Rattle.desk_journal.specs.Stored.{HoldsTexts}
use Rattle.time_desk.specs.Replaying.{cycle_reads, plan_reads, withdrawal_reads}
use Rattle.console_head.specs.Request.{Stage}
use Rattle.console_http.specs.declared.request.Asked.{Asked}
use Rattle.console_http.specs.declared.request.Asked.TheVariants.{NotYet, Whole}
use Rattle.console_http.specs.declared.request.HttpRefused.{HttpRefused}
use Rattle.console_http.specs.declared.request.Route.{Route}
use Rattle.console_http.specs.declared.request.Route.TheVariants as route
use Rattle.console_replies.specs.Bodies.{upgraded_data}
use Rattle.console_session.specs.declared.reply.After.TheVariants.{Closes}
use Rattle.console_session.specs.Answers.{Answer, answer, body_found, is_text_recorded, pointless, refused, uncycled}
use Rattle.console_session.specs.ConsoleTurn.{ConsoleTurn, asked_of, done, failed, kept_as_it_is, numberless, reported, rewound, routed, tells, upgrade_done}
use Rattle.console_session.specs.Hindrance as console
use Rattle.console_session.specs.Hindrance.{found_under, gone_back_under, read_under, rewound_under, routed_under, sealed_under, told_under, tried_under, where_read}
use Rattle.mail_loop.specs.Acknowledged.{Stretch, Went, turned}
use Rattle.mail_loop.specs.ConsoleTurn.{console_turn, of_console}
use Rattle.mail_loop.specs.Hindrance.{Hindrance, first_hindrance}
use Rattle.mail_loop.specs.Machine.{Answered, answers, heard_if_fed, hears_at, seat_at}
use Rattle.mail_loop.specs.State.{Seat, Http, State}
use Rattle.mail_loop.specs.Turns.{hears_console}
use Rattle.cost_laws.proofs.Records.{one_if, progress, records_further}
use Rattle.cost_laws.proofs.Rewinding.{AtMostOne, cycle_alone, withdrawal_alone}

-- ---- where nothing is done, or what goes one further

no_further : (a n : ℕ) → a + n ≤ a → n ≤ 1
no_further a n le = omega (arith, le)

one_further : (a b n : ℕ) → a + n ≤ b → b ≡ a + 1 → n ≤ 1
one_further a b n le same = omega (arith, le, same)

nothing : (kept : Kept) → AtMostOne kept kept
nothing kept = λ records e. no_further (progress kept) (length records) (records_further kept kept records e)

by_one : (kept new : Kept) → progress new ≡ progress kept + 1 → AtMostOne kept new
by_one kept new same = λ records e. one_further (progress kept) (progress new) (length records) (records_further kept new records e) same

drawn : (n t d : ℕ) → (n + 1) + t + d ≡ (n + t + d) + 1
drawn n t d = omega arith

taken : (n t d : ℕ) → n + (t + 1) + d ≡ (n + t + d) + 1
taken n t d = omega arith

deepened : (n t d : ℕ) → d ≡ 0 → n + t + 1 ≡ (n + t + d) + 1
deepened n t d none = omega (arith, none)

-- ---- a turn

-- No two records lead where this turn leads, unless it was given another text than was stored.
abbrev pub Alone : Kept → ConsoleTurn → Type 0
Alone kept t = t.reads.wrong ≡ 0 → AtMostOne kept t.kept

-- nothing is done
abbrev IsStill : Kept → ConsoleTurn → Type 0
IsStill kept t = t.kept ≡ kept

still : (kept : Kept) (t : ConsoleTurn) → IsStill kept t → Alone kept t
still kept t same = λ right. subst (λ (k : Kept). AtMostOne kept k) (sym same) (nothing kept)

told_still : (h : console.Hindrance) (kept : Kept) (t : ConsoleTurn) → IsStill kept t → IsStill kept (told_under h kept t)
told_still console.Clear kept t same = same
told_still console.Refused kept t same = refl
told_still console.Unheard kept t same = refl
told_still console.Unanswered kept t same = same
told_still console.Unsealed kept t same = same
told_still console.Untold kept t same = same
told_still console.Unwritten kept t same = same
told_still console.UnwrittenUnheard kept t same = same
told_still console.Unread kept t same = same
told_still console.UnreadRefused kept t same = same
told_still console.UnreadUnheard kept t same = same
told_still (console.Misread said left) kept t same = same

read_still : (h : console.Hindrance) (kept : Kept) (t : ConsoleTurn) → IsStill kept t → IsStill kept (read_under h kept t)
read_still console.Clear kept t same = same
read_still console.Refused kept t same = refl
read_still console.Unheard kept t same = refl
read_still console.Unanswered kept t same = same
read_still console.Unsealed kept t same = same
read_still console.Untold kept t same = same
read_still console.Unwritten kept t same = same
read_still console.UnwrittenUnheard kept t same = same
read_still console.Unread kept t same = refl
read_still console.UnreadRefused kept t same = refl
read_still console.UnreadUnheard kept t same = refl
read_still (console.Misread said left) kept t same = refl

unchanged : (h : console.Hindrance) (kept : Kept) (t : ConsoleTurn) → IsStill kept t → Alone kept (told_under h kept t)
unchanged h kept t same = still kept (told_under h kept t) (told_still h kept t same)

found_alone : {A : Type 0} (some : Bool) (h : console.Hindrance) (kept : Kept) (o : Option A) (t : ConsoleTurn) → IsStill kept t → Alone kept (found_under some h kept o t)
found_alone some h kept None t same = unchanged h kept t same
found_alone some h kept (Some x) t same = still kept (read_under (where_read some h) kept t) (read_still (where_read some h) kept t same)

-- a turn that seals, where it is done and where it can't be
sealed_alone : (h : console.Hindrance) (kept : Kept) (done unsealed : ConsoleTurn) → AtMostOne kept done.kept → IsStill kept unsealed → Alone kept (sealed_under h kept done unsealed)
sealed_alone console.Clear kept done unsealed one same = λ right. one
sealed_alone console.Refused kept done unsealed one same = λ right. nothing kept
sealed_alone console.Unheard kept done unsealed one same = λ right. nothing kept
sealed_alone console.Unanswered kept done unsealed one same = λ right. one
sealed_alone console.Unsealed kept done unsealed one same = still kept unsealed same
sealed_alone console.Untold kept done unsealed one same = still kept unsealed same
sealed_alone console.Unwritten kept done unsealed one same = λ right. nothing kept
sealed_alone console.UnwrittenUnheard kept done unsealed one same = λ right. nothing kept
sealed_alone console.Unread kept done unsealed one same = λ right. one
sealed_alone console.UnreadRefused kept done unsealed one same = λ right. one
sealed_alone console.UnreadUnheard kept done unsealed one same = λ right. one
sealed_alone (console.Misread said left) kept done unsealed one same = λ right. one

-- one is not none
not_right : (n : ℕ) → ◌≡◌ {A = ℕ} 1 0 → n ≤ 1
not_right n e = omega (arith, e)

rewound_alone : (h : console.Hindrance) (kept : Kept) (done unsealed : ConsoleTurn) → AtMostOne kept done.kept → IsStill kept unsealed → Alone kept (rewound_under h kept done unsealed)
rewound_alone console.Clear kept done unsealed one same = λ right. one
rewound_alone console.Refused kept done unsealed one same = λ right. nothing kept
rewound_alone console.Unheard kept done unsealed one same = λ right. nothing kept
rewound_alone console.Unanswered kept done unsealed one same = λ right. one
rewound_alone console.Unsealed kept done unsealed one same = still kept unsealed same
rewound_alone console.Untold kept done unsealed one same = still kept unsealed same
rewound_alone console.Unwritten kept done unsealed one same = λ right. nothing kept
rewound_alone console.UnwrittenUnheard kept done unsealed one same = λ right. nothing kept
rewound_alone console.Unread kept done unsealed one same = λ right. nothing kept
rewound_alone console.UnreadRefused kept done unsealed one same = λ right. nothing kept
rewound_alone console.UnreadUnheard kept done unsealed one same = λ right. nothing kept
rewound_alone (console.Misread said left) kept done unsealed one same = λ right records e. not_right (length records) right

-- ---- what is asked

-- where a request for a cycle or a withdrawal leads, where it is due
abbrev IsAlone : Kept → (Cycled → Kept) → Due → Type 0
IsAlone kept left (Repeats report) = Unit {0}
IsAlone kept left NoPoint = Unit {0}
IsAlone kept left NoNumbers = Unit {0}
IsAlone kept left (Rewinds due) = AtMostOne kept (left due)

gone_back_alone : (some : Bool) (h : console.Hindrance) (kept : Kept) (missing : Answer) (what : JournalRecord) (left : Cycled → Kept) (due : Due) → IsAlone kept left due
    → Alone kept (gone_back_under some h kept missing what left due)
gone_back_alone some h kept missing what left (Repeats report) one = unchanged h kept (reported kept report) refl
gone_back_alone some h kept missing what left NoPoint one = unchanged h kept (tells missing Closes kept) refl
gone_back_alone some h kept missing what left NoNumbers one = unchanged h kept (numberless kept) refl
gone_back_alone some h kept missing what left (Rewinds due) one = rewound_alone (where_read some h) kept (rewound kept what left due) (failed kept what) one refl

if_numbers : (kept : Kept) (left : Cycled → Kept) (b : Bool) (due : Cycled) → AtMostOne kept (left due) → IsAlone kept left (if b then Rewinds due else NoNumbers)
if_numbers kept left true due one = one
if_numbers kept left false due one = tt

if_new : (kept : Kept) (left : Cycled → Kept) (o : Option Report) (due : Due) → (o ≡ None → IsAlone kept left due) → IsAlone kept left (due_by o due)
if_new kept left None due one = one refl
if_new kept left (Some report) due one = tt

cycle_at : (kept : Kept) (at : ℕ) (ask : CycleAsk) (place : Option ℕ) → report_of kept.reports ask.key ≡ None → IsAlone kept (after_cycle kept ask) (due_at kept at ask place)
cycle_at kept at ask None none = tt
cycle_at kept at ask (Some place) none = if_numbers kept (after_cycle kept ask) (leaves_numbers kept ask) (cycled_at kept at ask place) (cycle_alone kept at ask place none)

withdrawal_at : (kept : Kept) (at : ℕ) (key : List ℕ) (last : Option UndoneBehind) → report_of kept.reports key ≡ None → IsAlone kept (after_withdrawal kept key) (withdraw_due_at kept at last)
withdrawal_at kept at key None none = tt
withdrawal_at kept at key (Some last) none = if_numbers kept (after_withdrawal kept key) (leaves_numbers_for kept 0) (withdrawn_at kept at last) (withdrawal_alone kept at key last none)

act_alone : (b : Bool) (h : console.Hindrance) (at : ℕ) (kept : Kept) (act : Act) (none : ConsoleTurn) → IsStill kept none
    → Alone kept (if b then sealed_under h kept (done at kept act) (failed kept (Operator kept.next at act)) else told_under h kept none)
act_alone true h at kept act none same =
    sealed_alone h kept (done at kept act) (failed kept (Operator kept.next at act))
    (by_one kept (performed kept (act_item kept.next at act)) (drawn kept.next kept.marks.taken (one_if kept.deep))) refl
act_alone false h at kept act none same = unchanged h kept none same

tried_alone : (some : Bool) (h : console.Hindrance) (kept : Kept) (ask : CycleAsk) (due : Due) → Alone kept (tried_under some h kept ask due)
tried_alone some h kept ask (Repeats report) = unchanged h kept (reported kept report) refl
tried_alone some h kept ask NoPoint = unchanged h kept (tells (pointless ask.point) Closes kept) refl
tried_alone some h kept ask NoNumbers = unchanged h kept (numberless kept) refl
tried_alone some h kept ask (Rewinds due) = still kept (read_under (where_read some h) kept (reported kept due.report)) (read_still (where_read some h) kept (reported kept due.report) refl)

shallow : (deep : Bool) → deep ≡ false → one_if deep ≡ 0
shallow deep e = ap one_if e

upgrade_alone : (deep : Bool) (h : console.Hindrance) (at : ℕ) (kept : Kept) (told : ConsoleTurn) → kept.deep ≡ deep → IsStill kept told
    → Alone kept (if deep then told_under h kept told else sealed_under h kept (upgrade_done at kept) (failed kept (Upgrade at)))
upgrade_alone true h at kept told is same = unchanged h kept told same
upgrade_alone false h at kept told is same =
    sealed_alone h kept (upgrade_done at kept) (failed kept (Upgrade at)) (by_one kept (upgraded kept) (deepened kept.next kept.marks.taken (one_if kept.deep) (shallow kept.deep is))) refl

routed_alone : (h : console.Hindrance) (at : ℕ) (kept : Kept) (r : Route) → Alone kept (routed_under h at kept r)
routed_alone h at kept route.Status = unchanged h kept (routed at kept route.Status) refl
routed_alone h at kept (route.Timeline start) = unchanged h kept (routed at kept (route.Timeline start)) refl
routed_alone h at kept (route.Box user name) = unchanged h kept (routed at kept (route.Box user name)) refl
routed_alone h at kept (route.Body number) = found_alone (is_text_recorded kept number) h kept (body_found kept.timeline number) (routed at kept (route.Body number)) refl
routed_alone h at kept route.Conf = unchanged h kept (routed at kept route.Conf) refl
routed_alone h at kept (route.Plan point) = found_alone (plan_reads kept point) h kept (position kept.timeline point) (routed at kept (route.Plan point)) refl
routed_alone h at kept (route.Act act) = act_alone (nat_lt kept.next END_OF_NUMBERS) h at kept act (numberless kept) refl
routed_alone h at kept (route.Cycle ask) =
    gone_back_alone (cycle_reads kept at ask) h kept (pointless ask.point) (Cycle kept.next at ask) (after_cycle kept ask) (cycle_due kept at ask)
    (if_new kept (after_cycle kept ask) (report_of kept.reports ask.key) (due_anew kept at ask) (cycle_at kept at ask (position kept.timeline ask.point)))
routed_alone h at kept (route.Try ask) = tried_alone (cycle_reads kept at ask) h kept ask (due_anew kept at ask)
routed_alone h at kept route.Snapshot =
    sealed_alone h kept (kept_as_it_is kept) (failed kept (snapshot_record kept)) (by_one kept (snapshotted kept) (taken kept.next kept.marks.taken (one_if kept.deep))) refl
routed_alone h at kept route.Stop = unchanged h kept (routed at kept route.Stop) refl
routed_alone h at kept route.Upgrade = upgrade_alone kept.deep h at kept (tells (answer 200 upgraded_data) Closes kept) refl refl
routed_alone h at kept (route.Withdraw key of) =
    gone_back_alone (withdrawal_reads kept of) h kept (uncycled of) (Withdraw kept.next at key of) (after_withdrawal kept key) (withdraw_due kept at key of)
    (if_new kept (after_withdrawal kept key) (report_of kept.reports key) (withdraw_due_at kept at (undone_of kept of)) (withdrawal_at kept at key (undone_of kept of)))

asked_alone : (h : console.Hindrance) (at : ℕ) (kept : Kept) (asked : Result Asked HttpRefused) → Alone kept (console.hindered h at kept asked)
asked_alone h at kept (Ok NotYet) = λ right. nothing kept
asked_alone h at kept (Ok (Whole r)) = routed_alone h at kept r
asked_alone h at kept (Err why) = unchanged h kept (tells (refused why) Closes kept) refl

pub turn_alone : (h : Hindrance) (at : ℕ) (kept : Kept) (stage : Stage) → Alone kept (console_turn h at kept stage)
turn_alone h at kept stage = asked_alone (of_console h) at kept (asked_of kept.house stage)

-- ---- an event

-- the same of what an event leaves
abbrev LeavesOne : Kept → Answered → Type 0
LeavesOne kept a = a.counts.reads.wrong ≡ 0 → AtMostOne kept a.state.kept

fed_alone : (unfed : Bool) (hs : List Hindrance) (stage : Stage) (at : ℕ) (s : State) (conn : ℕ) (bytes : List ℕ) → LeavesOne s.kept (heard_if_fed unfed conn s (hears_console hs stage at s bytes))
fed_alone true hs stage at s conn bytes = λ right. nothing s.kept
fed_alone false hs stage at s conn bytes = turn_alone (first_hindrance hs) at s.kept stage

answered_alone : (what : What) (unfed : Bool) (hs : List Hindrance) (stage : Stage) (at : ℕ) (s : State) (conn : ℕ) (came bytes : List ℕ) → what ≡ Bytes bytes → seat_at conn s.seats ≡ Some (Http came)
    → LeavesOne s.kept (answers what unfed hs stage at s conn)
answered_alone what unfed hs stage at s conn came bytes is there =
    subst (λ (w : What). LeavesOne s.kept (answers w unfed hs stage at s conn)) (sym is)
    (subst (λ (o : Option Seat). LeavesOne s.kept (hears_at o unfed hs stage at s conn bytes)) (sym there) (fed_alone unfed hs stage at s conn _))

module _ {D : Type 0} (told : D → DiskTold) (s : State) (old : Lasting D) (w : Stretch D) (went : Went told s old w) (same : old.kept ≡ s.kept) (holds : HoldsTexts told old) where
  pub request_sealed : (came bytes : List ℕ) → w.step.event.what ≡ Bytes bytes → seat_at w.step.event.conn s.seats ≡ Some (Http came) → length w.sealed ≤ 1
  request_sealed came bytes is there =
      let h = w.step.hindrances in
      let one : LeavesOne s.kept (turned s w.step) = answered_alone w.step.event.what h.unfed h.turns h.stage (min w.step.event.at LAST_MOMENT) s w.step.event.conn came bytes is there in
      one (went.read.honest holds) w.sealed
      (subst (λ (k : Kept). after_records k w.sealed ≡ Some (turned s w.step).state.kept) same
      (subst (λ (k : Kept). after_records old.kept w.sealed ≡ Some k) went.telling_is (went.turns.kept (inl holds))))
