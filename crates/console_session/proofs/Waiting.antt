-- A connection stays open only while its bytes are not yet a request.
use Rattle.std.proofs.Common.{◌≡◌, ◌<◌, ℕ, true, false, Bool, List, ◌++◌, Option, None, Some, Ok, Err, length, refl, sym, ap, subst, ◌∙◌}
use Rattle.std.specs.Prelude.{nat_lt, if◌then◌else◌}
use Rattle.undo_outside.specs.Disk.{DiskTold}
use Rattle.verb_core.specs.declared.conf.House.{House}
use Rattle.verb_core.specs.declared.item.Act.{Act}
use Rattle.verb_bytes.specs.declared.journal.CycleAsk.{CycleAsk}
use Rattle.verb_bytes.specs.declared.journal.JournalRecord.{JournalRecord}
use Rattle.verb_bytes.specs.declared.journal.JournalRecord.TheVariants.{Operator, Cycle, Upgrade, Withdraw}
use Rattle.store_kept.specs.Kept.{Kept}
use Rattle.cycle_rules.specs.Asking.{Due, Repeats, NoPoint, NoNumbers, Rewinds, after_cycle, cycle_due, due_anew}
use Rattle.cycle_rules.specs.Cycles.{Cycled}
use Rattle.cycle_rules.specs.Withdrawals.{after_withdrawal, withdraw_due}
use Rattle.repair_desk.specs.Repairs.{position}
use Rattle.desk_journal.specs.Lasting.{Lasting}
use Rattle.console_head.specs.Request.{Says, Stage}
use Rattle.console_http.specs.declared.request.Route.{Route}
use Rattle.console_http.specs.declared.request.Route.TheVariants as route
use Rattle.console_http.specs.Routes.{Choice, route_of}
use Rattle.time_desk.specs.Replaying.{cycle_reads, plan_reads, withdrawal_reads}
use Rattle.console_session.specs.declared.reply.After.TheVariants.{Closes, Fails, Rewinds as IsRewound, Stops, Upgrades, Waits}
use Rattle.console_session.specs.declared.reply.Reply.{Reply}
use Rattle.console_replies.specs.Bodies.{upgraded_data}
use Rattle.console_session.specs.Answers.{Answer, answer, body_found, is_text_recorded, pointless, uncycled}
use Rattle.console_session.specs.Hearing.{Hears, AreServed, IsUnfed}
use Rattle.console_session.specs.ConsoleTurn.{ConsoleTurn, asked_of, chosen, done, failed, numberless, tells, upgrade_done}
use Rattle.console_session.specs.Hindrance.{Hindrance, Clear, Refused, Unheard, Unanswered, Unsealed, Untold, Unwritten, UnwrittenUnheard, Unread, UnreadRefused, UnreadUnheard, Misread, acted_under, found_under, gone_back_under, hindered, read_under, rewound_under, routed_under, sealed_under, told_under, tried_under, upgraded_under, where_read}

-- what follows is not that more bytes are waited for
abbrev WaitsNoMore : ConsoleTurn → Type 0
WaitsNoMore t = t.after ≡ Waits → ⊥

closing : Closes ≡ Waits → ⊥
closing e = cc e

failing : Fails ≡ Waits → ⊥
failing e = cc e

stopping : Stops ≡ Waits → ⊥
stopping e = cc e

rewinding : IsRewound ≡ Waits → ⊥
rewinding e = cc e

upgrading : Upgrades ≡ Waits → ⊥
upgrading e = cc e

told_ends : (h : Hindrance) (kept : Kept) (t : ConsoleTurn) → WaitsNoMore t → WaitsNoMore (told_under h kept t)
told_ends Clear kept t ends = ends
told_ends Refused kept t ends = closing
told_ends Unheard kept t ends = closing
told_ends Unanswered kept t ends = ends
told_ends Unsealed kept t ends = ends
told_ends Untold kept t ends = ends
told_ends Unwritten kept t ends = ends
told_ends UnwrittenUnheard kept t ends = ends
told_ends Unread kept t ends = ends
told_ends UnreadRefused kept t ends = ends
told_ends UnreadUnheard kept t ends = ends
told_ends (Misread said left) kept t ends = ends

read_ends : (h : Hindrance) (kept : Kept) (t : ConsoleTurn) → WaitsNoMore t → WaitsNoMore (read_under h kept t)
read_ends Clear kept t ends = ends
read_ends Refused kept t ends = closing
read_ends Unheard kept t ends = closing
read_ends Unanswered kept t ends = ends
read_ends Unsealed kept t ends = ends
read_ends Untold kept t ends = ends
read_ends Unwritten kept t ends = ends
read_ends UnwrittenUnheard kept t ends = ends
read_ends Unread kept t ends = closing
read_ends UnreadRefused kept t ends = closing
read_ends UnreadUnheard kept t ends = closing
read_ends (Misread said left) kept t ends = ends

sealed_ends : (h : Hindrance) (kept : Kept) (t u : ConsoleTurn) → WaitsNoMore t → WaitsNoMore u → WaitsNoMore (sealed_under h kept t u)
sealed_ends Clear kept t u done_ends failed_ends = done_ends
sealed_ends Refused kept t u done_ends failed_ends = closing
sealed_ends Unheard kept t u done_ends failed_ends = closing
sealed_ends Unanswered kept t u done_ends failed_ends = done_ends
sealed_ends Unsealed kept t u done_ends failed_ends = failed_ends
sealed_ends Untold kept t u done_ends failed_ends = failed_ends
sealed_ends Unwritten kept t u done_ends failed_ends = closing
sealed_ends UnwrittenUnheard kept t u done_ends failed_ends = closing
sealed_ends Unread kept t u done_ends failed_ends = done_ends
sealed_ends UnreadRefused kept t u done_ends failed_ends = done_ends
sealed_ends UnreadUnheard kept t u done_ends failed_ends = done_ends
sealed_ends (Misread said left) kept t u done_ends failed_ends = done_ends

rewound_ends : (h : Hindrance) (kept : Kept) (t u : ConsoleTurn) → WaitsNoMore t → WaitsNoMore u → WaitsNoMore (rewound_under h kept t u)
rewound_ends Clear kept t u done_ends failed_ends = done_ends
rewound_ends Refused kept t u done_ends failed_ends = closing
rewound_ends Unheard kept t u done_ends failed_ends = closing
rewound_ends Unanswered kept t u done_ends failed_ends = done_ends
rewound_ends Unsealed kept t u done_ends failed_ends = failed_ends
rewound_ends Untold kept t u done_ends failed_ends = failed_ends
rewound_ends Unwritten kept t u done_ends failed_ends = closing
rewound_ends UnwrittenUnheard kept t u done_ends failed_ends = closing
rewound_ends Unread kept t u done_ends failed_ends = closing
rewound_ends UnreadRefused kept t u done_ends failed_ends = closing
rewound_ends UnreadUnheard kept t u done_ends failed_ends = closing
rewound_ends (Misread said left) kept t u done_ends failed_ends = done_ends

found_ends : {A : Type 0} (some : Bool) (h : Hindrance) (kept : Kept) (o : Option A) (t : ConsoleTurn) → WaitsNoMore t → WaitsNoMore (found_under some h kept o t)
found_ends some h kept None t ends = told_ends h kept t ends
found_ends some h kept (Some x) t ends = read_ends (where_read some h) kept t ends

act_ends : (h : Hindrance) (at : ℕ) (kept : Kept) (act : Act) → WaitsNoMore (acted_under h at kept act)
act_ends h at kept act = by_left (nat_lt kept.next 4194304)
  where
    by_left : (left : Bool) → WaitsNoMore (if left then sealed_under h kept (done at kept act) (failed kept (Operator kept.next at act)) else told_under h kept (numberless kept))
    by_left true = sealed_ends h kept (done at kept act) (failed kept (Operator kept.next at act)) closing failing
    by_left false = told_ends h kept (numberless kept) closing

back_ends : (some : Bool) (h : Hindrance) (kept : Kept) (missing : Answer) (what : JournalRecord) (left : Cycled → Kept) (due : Due) → WaitsNoMore (gone_back_under some h kept missing what left due)
back_ends some h kept missing what left (Repeats report) = told_ends h kept _ closing
back_ends some h kept missing what left NoPoint = told_ends h kept _ closing
back_ends some h kept missing what left NoNumbers = told_ends h kept _ closing
back_ends some h kept missing what left (Rewinds due) = rewound_ends (where_read some h) kept _ _ rewinding failing

try_ends : (some : Bool) (h : Hindrance) (kept : Kept) (ask : CycleAsk) (due : Due) → WaitsNoMore (tried_under some h kept ask due)
try_ends some h kept ask (Repeats report) = told_ends h kept _ closing
try_ends some h kept ask NoPoint = told_ends h kept _ closing
try_ends some h kept ask NoNumbers = told_ends h kept _ closing
try_ends some h kept ask (Rewinds due) = read_ends (where_read some h) kept _ closing

upgrade_ends : (h : Hindrance) (at : ℕ) (kept : Kept) → WaitsNoMore (upgraded_under h at kept)
upgrade_ends h at kept = by_deep kept.deep
  where
    by_deep : (deep : Bool) → WaitsNoMore (if deep then told_under h kept (tells (answer 200 upgraded_data) Closes kept) else sealed_under h kept (upgrade_done at kept) (failed kept (Upgrade at)))
    by_deep true = told_ends h kept _ closing
    by_deep false = sealed_ends h kept _ _ upgrading failing

route_ends : (h : Hindrance) (at : ℕ) (kept : Kept) (r : Route) → WaitsNoMore (routed_under h at kept r)
route_ends h at kept route.Status = told_ends h kept _ closing
route_ends h at kept (route.Timeline start) = told_ends h kept _ closing
route_ends h at kept (route.Box user name) = told_ends h kept _ closing
route_ends h at kept (route.Body number) = found_ends (is_text_recorded kept number) h kept (body_found kept.timeline number) _ closing
route_ends h at kept route.Conf = told_ends h kept _ closing
route_ends h at kept (route.Plan point) = found_ends (plan_reads kept point) h kept (position kept.timeline point) _ closing
route_ends h at kept (route.Act act) = act_ends h at kept act
route_ends h at kept (route.Cycle ask) = back_ends (cycle_reads kept at ask) h kept (pointless ask.point) (Cycle kept.next at ask) (after_cycle kept ask) (cycle_due kept at ask)
route_ends h at kept (route.Try ask) = try_ends (cycle_reads kept at ask) h kept ask (due_anew kept at ask)
route_ends h at kept route.Snapshot = sealed_ends h kept _ _ closing failing
route_ends h at kept route.Stop = told_ends h kept _ stopping
route_ends h at kept route.Upgrade = upgrade_ends h at kept
route_ends h at kept (route.Withdraw key of) = back_ends (withdrawal_reads kept of) h kept (uncycled of) (Withdraw kept.next at key of) (after_withdrawal kept key) (withdraw_due kept at key of)

-- a turn behind which more bytes are waited for is that of bytes that are not yet a request
pub waits_for_more : (house : House) (h : Hindrance) (at : ℕ) (kept : Kept) (stage : Stage) → (hindered h at kept (asked_of house stage)).after ≡ Waits → stage ≡ Ok None
waits_for_more house h at kept (Ok None) waits = refl
waits_for_more house h at kept (Ok (Some request)) waits = absurd (by_choice (route_of house request) waits)
  where
    by_choice : (c : Choice) → WaitsNoMore (hindered h at kept (chosen c))
    by_choice (Ok r) = route_ends h at kept r
    by_choice (Err why) = told_ends h kept _ closing
waits_for_more house h at kept (Err why) waits = absurd (told_ends h kept _ closing waits)

module _ {D : Type 0} (told : D → DiskTold) where
  -- what is kept of a connection that stays open is bounded
  pub few_wait : ((bytes : List ℕ) → Says bytes (Ok None) → length bytes < 4210688) → (at : ℕ) (unserved bytes : List ℕ) (old new : Lasting D) (r : Reply) → Hears told at unserved bytes old new r → r.after ≡ Waits
      → length (unserved ++ bytes) < 4210688
  few_wait bound at unserved bytes old new r (IsUnfed is same) waits = absurd (closing (sym (ap (λ (x : Reply). x.after) is) ∙ waits))
  few_wait bound at unserved bytes old new r (AreServed stage says s) waits =
      bound (unserved ++ bytes) (subst (Says (unserved ++ bytes)) (waits_for_more old.kept.house s.hindrance at old.kept stage (sym (ap (λ (x : Reply). x.after) s.turn_is.reply_is) ∙ waits)) says)
