-- What is asked is served, whatever it is, and the desk is closed exactly where that ends serving.
use Rattle.std.proofs.Common.{◌≡◌, ◌||◌, ℕ, Bool, true, false, not, List, ◌++◌, Option, Some, None, refl, sym, ap, ◌∙◌, subst}
use Rattle.std.specs.Prelude.{nat_lt, Result, Ok, Err, if◌then◌else◌}
use Rattle.undo_outside.specs.Disk.{DiskTold}
use Rattle.verb_core.specs.declared.item.Act.{Act}
use Rattle.verb_core.specs.Names.{is_empty}
use Rattle.verb_bytes.specs.declared.journal.CycleAsk.{CycleAsk}
use Rattle.verb_bytes.specs.declared.journal.JournalRecord.{JournalRecord}
use Rattle.verb_bytes.specs.declared.journal.JournalRecord.TheVariants.{Operator, Cycle, Upgrade, Withdraw}
use Rattle.store_kept.specs.Kept.{Kept}
use Rattle.repair_desk.specs.Repairs.{position}
use Rattle.cycle_rules.specs.Asking.{Due, Repeats, NoPoint, NoNumbers, Rewinds as IsDue, after_cycle, cycle_due, due_anew}
use Rattle.cycle_rules.specs.Cycles.{Cycled}
use Rattle.cycle_rules.specs.Withdrawals.{after_withdrawal, withdraw_due}
use Rattle.desk_journal.specs.Lasting.{Lasting}
use Rattle.desk_journal.specs.Reading.{IsStill}
use Rattle.console_head.specs.declared.request.HeadRefused.TheVariants.{Head as BadHead, Size as TooLarge}
use Rattle.console_http.specs.declared.request.Asked.{Asked}
use Rattle.console_http.specs.declared.request.Asked.TheVariants.{NotYet, Whole}
use Rattle.console_http.specs.declared.request.HttpRefused.{HttpRefused}
use Rattle.console_http.specs.declared.request.HttpRefused.TheVariants.{Head, Size, Route, Json, NoMemory}
use Rattle.console_http.specs.declared.request.Route.{Route as Taken}
use Rattle.console_http.specs.declared.request.Route.TheVariants as route
use Rattle.console_http.specs.Requests.{Asks}
use Rattle.console_http.specs.Routes.{Choice, route_of}
use Rattle.console_replies.specs.Bodies.{upgraded_data}
use Rattle.time_desk.specs.Replaying.{cycle_reads, plan_reads, withdrawal_reads}
use Rattle.console_session.specs.declared.reply.After.TheVariants.{Closes}
use Rattle.console_session.specs.declared.reply.Reply.{Reply}
use Rattle.console_session.specs.Answers.{Answer, answer, body_found, is_text_recorded, pointless, uncycled}
use Rattle.console_session.specs.ConsoleTurn.{ConsoleTurn, chosen, done, failed, numberless, tells, upgrade_done}
use Rattle.console_session.specs.Hindrance.{Hindrance, Clear, Refused, Unheard, Unanswered, Unsealed, Untold, Unwritten, UnwrittenUnheard, Unread, UnreadRefused, UnreadUnheard, Misread, acted_under, found_under, gone_back_under, hindered, lost, read_under, rewound_under, routed_under, sealed_under, out_of_memory, told_under, tried_under, upgraded_under, where_read}
use Rattle.console_session.specs.Hearing.{Hears, AreServed, IsTurn, AnswersRequest, is_failure}
use Rattle.console_session.proofs.Turns.{turn_at}

-- ---- want of memory before anything is sealed, whatever is chosen

out_of_memory_back : (some : Bool) (kept : Kept) (missing : Answer) (what : JournalRecord) (left : Cycled → Kept) (due : Due) → gone_back_under some Refused kept missing what left due ≡ out_of_memory kept
out_of_memory_back some kept missing what left (Repeats report) = refl
out_of_memory_back some kept missing what left NoPoint = refl
out_of_memory_back some kept missing what left NoNumbers = refl
out_of_memory_back true kept missing what left (IsDue due) = refl
out_of_memory_back false kept missing what left (IsDue due) = refl

out_of_memory_try : (some : Bool) (kept : Kept) (ask : CycleAsk) (due : Due) → tried_under some Refused kept ask due ≡ out_of_memory kept
out_of_memory_try some kept ask (Repeats report) = refl
out_of_memory_try some kept ask NoPoint = refl
out_of_memory_try some kept ask NoNumbers = refl
out_of_memory_try true kept ask (IsDue due) = refl
out_of_memory_try false kept ask (IsDue due) = refl

out_of_memory_found : {A : Type 0} → (some : Bool) (kept : Kept) (o : Option A) (t : ConsoleTurn) → found_under some Refused kept o t ≡ out_of_memory kept
out_of_memory_found some kept None t = refl
out_of_memory_found true kept (Some x) t = refl
out_of_memory_found false kept (Some x) t = refl

lost_back : (some : Bool) (kept : Kept) (missing : Answer) (what : JournalRecord) (left : Cycled → Kept) (due : Due) → gone_back_under some Unheard kept missing what left due ≡ lost kept
lost_back some kept missing what left (Repeats report) = refl
lost_back some kept missing what left NoPoint = refl
lost_back some kept missing what left NoNumbers = refl
lost_back true kept missing what left (IsDue due) = refl
lost_back false kept missing what left (IsDue due) = refl

lost_try : (some : Bool) (kept : Kept) (ask : CycleAsk) (due : Due) → tried_under some Unheard kept ask due ≡ lost kept
lost_try some kept ask (Repeats report) = refl
lost_try some kept ask NoPoint = refl
lost_try some kept ask NoNumbers = refl
lost_try true kept ask (IsDue due) = refl
lost_try false kept ask (IsDue due) = refl

lost_found : {A : Type 0} → (some : Bool) (kept : Kept) (o : Option A) (t : ConsoleTurn) → found_under some Unheard kept o t ≡ lost kept
lost_found some kept None t = refl
lost_found true kept (Some x) t = refl
lost_found false kept (Some x) t = refl

out_of_memory_route : (at : ℕ) (kept : Kept) (t : Taken) → routed_under Refused at kept t ≡ out_of_memory kept
out_of_memory_route at kept route.Status = refl
out_of_memory_route at kept (route.Timeline start) = refl
out_of_memory_route at kept (route.Box user name) = refl
out_of_memory_route at kept (route.Body number) = out_of_memory_found (is_text_recorded kept number) kept (body_found kept.timeline number) _
out_of_memory_route at kept route.Conf = refl
out_of_memory_route at kept (route.Plan point) = out_of_memory_found (plan_reads kept point) kept (position kept.timeline point) _
out_of_memory_route at kept (route.Act act) = elim (nat_lt kept.next 4194304) as (λ b. (if b then out_of_memory kept else out_of_memory kept) ≡ out_of_memory kept) [ true ↦ refl | false ↦ refl ]
out_of_memory_route at kept (route.Cycle ask) = out_of_memory_back (cycle_reads kept at ask) kept (pointless ask.point) (Cycle kept.next at ask) (after_cycle kept ask) (cycle_due kept at ask)
out_of_memory_route at kept (route.Try ask) = out_of_memory_try (cycle_reads kept at ask) kept ask (due_anew kept at ask)
out_of_memory_route at kept route.Snapshot = refl
out_of_memory_route at kept route.Stop = refl
out_of_memory_route at kept route.Upgrade = elim kept.deep as (λ b. (if b then out_of_memory kept else out_of_memory kept) ≡ out_of_memory kept) [ true ↦ refl | false ↦ refl ]
out_of_memory_route at kept (route.Withdraw key of) = out_of_memory_back (withdrawal_reads kept of) kept (uncycled of) (Withdraw kept.next at key of) (after_withdrawal kept key) (withdraw_due kept at key of)

lost_route : (at : ℕ) (kept : Kept) (t : Taken) → routed_under Unheard at kept t ≡ lost kept
lost_route at kept route.Status = refl
lost_route at kept (route.Timeline start) = refl
lost_route at kept (route.Box user name) = refl
lost_route at kept (route.Body number) = lost_found (is_text_recorded kept number) kept (body_found kept.timeline number) _
lost_route at kept route.Conf = refl
lost_route at kept (route.Plan point) = lost_found (plan_reads kept point) kept (position kept.timeline point) _
lost_route at kept (route.Act act) = elim (nat_lt kept.next 4194304) as (λ b. (if b then lost kept else lost kept) ≡ lost kept) [ true ↦ refl | false ↦ refl ]
lost_route at kept (route.Cycle ask) = lost_back (cycle_reads kept at ask) kept (pointless ask.point) (Cycle kept.next at ask) (after_cycle kept ask) (cycle_due kept at ask)
lost_route at kept (route.Try ask) = lost_try (cycle_reads kept at ask) kept ask (due_anew kept at ask)
lost_route at kept route.Snapshot = refl
lost_route at kept route.Stop = refl
lost_route at kept route.Upgrade = elim kept.deep as (λ b. (if b then lost kept else lost kept) ≡ lost kept) [ true ↦ refl | false ↦ refl ]
lost_route at kept (route.Withdraw key of) = lost_back (withdrawal_reads kept of) kept (uncycled of) (Withdraw kept.next at key of) (after_withdrawal kept key) (withdraw_due kept at key of)

out_of_memory_choice : (at : ℕ) (kept : Kept) (c : Choice) → hindered Refused at kept (chosen c) ≡ out_of_memory kept
out_of_memory_choice at kept (Ok t) = out_of_memory_route at kept t
out_of_memory_choice at kept (Err e) = refl

lost_choice : (at : ℕ) (kept : Kept) (c : Choice) → hindered Unheard at kept (chosen c) ≡ lost kept
lost_choice at kept (Ok t) = lost_route at kept t
lost_choice at kept (Err e) = refl

-- ---- failures: serving ends exactly where there is a record that could not be sealed

abbrev EndsSo : ConsoleTurn → Type 0
EndsSo t = is_failure t.after ≡ not (is_empty t.unsealed)

ends_told : (h : Hindrance) (kept : Kept) (t : ConsoleTurn) → EndsSo t → EndsSo (told_under h kept t)
ends_told Clear kept t e = e
ends_told Refused kept t e = refl
ends_told Unheard kept t e = refl
ends_told Unanswered kept t e = e
ends_told Unsealed kept t e = e
ends_told Untold kept t e = e
ends_told Unwritten kept t e = e
ends_told UnwrittenUnheard kept t e = e
ends_told Unread kept t e = e
ends_told UnreadRefused kept t e = e
ends_told UnreadUnheard kept t e = e
ends_told (Misread said left) kept t e = e

ends_read : (h : Hindrance) (kept : Kept) (t : ConsoleTurn) → EndsSo t → EndsSo (read_under h kept t)
ends_read Clear kept t e = e
ends_read Refused kept t e = refl
ends_read Unheard kept t e = refl
ends_read Unanswered kept t e = e
ends_read Unsealed kept t e = e
ends_read Untold kept t e = e
ends_read Unwritten kept t e = e
ends_read UnwrittenUnheard kept t e = e
ends_read Unread kept t e = refl
ends_read UnreadRefused kept t e = refl
ends_read UnreadUnheard kept t e = refl
ends_read (Misread said left) kept t e = e

ends_found : {A : Type 0} → (some : Bool) (h : Hindrance) (kept : Kept) (o : Option A) (t : ConsoleTurn) → EndsSo t → EndsSo (found_under some h kept o t)
ends_found some h kept None t e = ends_told h kept t e
ends_found some h kept (Some x) t e = ends_read (where_read some h) kept t e

ends_sealed : (h : Hindrance) (kept : Kept) (t u : ConsoleTurn) → EndsSo t → EndsSo u → EndsSo (sealed_under h kept t u)
ends_sealed Clear kept t u e f = e
ends_sealed Refused kept t u e f = refl
ends_sealed Unheard kept t u e f = refl
ends_sealed Unanswered kept t u e f = e
ends_sealed Unsealed kept t u e f = f
ends_sealed Untold kept t u e f = f
ends_sealed Unwritten kept t u e f = refl
ends_sealed UnwrittenUnheard kept t u e f = refl
ends_sealed Unread kept t u e f = e
ends_sealed UnreadRefused kept t u e f = e
ends_sealed UnreadUnheard kept t u e f = e
ends_sealed (Misread said left) kept t u e f = e

ends_rewound : (h : Hindrance) (kept : Kept) (t u : ConsoleTurn) → EndsSo t → EndsSo u → EndsSo (rewound_under h kept t u)
ends_rewound Clear kept t u e f = e
ends_rewound Refused kept t u e f = refl
ends_rewound Unheard kept t u e f = refl
ends_rewound Unanswered kept t u e f = e
ends_rewound Unsealed kept t u e f = f
ends_rewound Untold kept t u e f = f
ends_rewound Unwritten kept t u e f = refl
ends_rewound UnwrittenUnheard kept t u e f = refl
ends_rewound Unread kept t u e f = refl
ends_rewound UnreadRefused kept t u e f = refl
ends_rewound UnreadUnheard kept t u e f = refl
ends_rewound (Misread said left) kept t u e f = e

ends_acted : (h : Hindrance) (at : ℕ) (kept : Kept) (act : Act) → EndsSo (acted_under h at kept act)
ends_acted h at kept act =
    elim (nat_lt kept.next 4194304) as (λ b. EndsSo (if b then sealed_under h kept (done at kept act) (failed kept (Operator kept.next at act)) else told_under h kept (numberless kept))) [
      | true ↦ ends_sealed h kept _ _ refl refl
      | false ↦ ends_told h kept _ refl
    ]

ends_back : (some : Bool) (h : Hindrance) (kept : Kept) (missing : Answer) (what : JournalRecord) (left : Cycled → Kept) (due : Due) → EndsSo (gone_back_under some h kept missing what left due)
ends_back some h kept missing what left (Repeats report) = ends_told h kept _ refl
ends_back some h kept missing what left NoPoint = ends_told h kept _ refl
ends_back some h kept missing what left NoNumbers = ends_told h kept _ refl
ends_back some h kept missing what left (IsDue due) = ends_rewound (where_read some h) kept _ _ refl refl

ends_tried : (some : Bool) (h : Hindrance) (kept : Kept) (ask : CycleAsk) (due : Due) → EndsSo (tried_under some h kept ask due)
ends_tried some h kept ask (Repeats report) = ends_told h kept _ refl
ends_tried some h kept ask NoPoint = ends_told h kept _ refl
ends_tried some h kept ask NoNumbers = ends_told h kept _ refl
ends_tried some h kept ask (IsDue due) = ends_read (where_read some h) kept _ refl

ends_upgraded : (h : Hindrance) (at : ℕ) (kept : Kept) → EndsSo (upgraded_under h at kept)
ends_upgraded h at kept =
    elim kept.deep as (λ b. EndsSo (if b then told_under h kept (tells (answer 200 upgraded_data) Closes kept) else sealed_under h kept (upgrade_done at kept) (failed kept (Upgrade at)))) [
      | true ↦ ends_told h kept _ refl
      | false ↦ ends_sealed h kept _ _ refl refl
    ]

ends_routed : (h : Hindrance) (at : ℕ) (kept : Kept) (t : Taken) → EndsSo (routed_under h at kept t)
ends_routed h at kept route.Status = ends_told h kept _ refl
ends_routed h at kept (route.Timeline start) = ends_told h kept _ refl
ends_routed h at kept (route.Box user name) = ends_told h kept _ refl
ends_routed h at kept (route.Body number) = ends_found (is_text_recorded kept number) h kept (body_found kept.timeline number) _ refl
ends_routed h at kept route.Conf = ends_told h kept _ refl
ends_routed h at kept (route.Plan point) = ends_found (plan_reads kept point) h kept (position kept.timeline point) _ refl
ends_routed h at kept (route.Act act) = ends_acted h at kept act
ends_routed h at kept (route.Cycle ask) = ends_back (cycle_reads kept at ask) h kept (pointless ask.point) (Cycle kept.next at ask) (after_cycle kept ask) (cycle_due kept at ask)
ends_routed h at kept (route.Try ask) = ends_tried (cycle_reads kept at ask) h kept ask (due_anew kept at ask)
ends_routed h at kept route.Snapshot = ends_sealed h kept _ _ refl refl
ends_routed h at kept route.Stop = ends_told h kept _ refl
ends_routed h at kept route.Upgrade = ends_upgraded h at kept
ends_routed h at kept (route.Withdraw key of) = ends_back (withdrawal_reads kept of) h kept (uncycled of) (Withdraw kept.next at key of) (after_withdrawal kept key) (withdraw_due kept at key of)

ends_so : (h : Hindrance) (at : ℕ) (kept : Kept) (asked : Result Asked HttpRefused) → EndsSo (hindered h at kept asked)
ends_so h at kept (Ok NotYet) = refl
ends_so h at kept (Ok (Whole t)) = ends_routed h at kept t
ends_so h at kept (Err why) = ends_told h kept _ refl

module _ {D : Type 0} (told : D → DiskTold) where
  -- ---- what is asked

  abbrev serves_as : (at : ℕ) (old new : Lasting D) (r : Reply) (a b : Result Asked HttpRefused) → a ≡ b → AnswersRequest told at b old new r → AnswersRequest told at a old new r
  serves_as at old new r a b e s = subst (λ (v : Result Asked HttpRefused). AnswersRequest told at v old new r) (sym e) s

  as_out_of_memory : (at : ℕ) (old new : Lasting D) (r : Reply) (c : Choice) → IsTurn told (out_of_memory old.kept) old new r → IsStill told old new → AnswersRequest told at (chosen c) old new r
  as_out_of_memory at old new r c turn same = record { hindrance = Refused; turn_is = turn_at told _ _ old new r (out_of_memory_choice at old.kept c) turn; still = λ e. same }

  as_lost : (at : ℕ) (old new : Lasting D) (r : Reply) (c : Choice) → IsTurn told (lost old.kept) old new r → IsStill told old new → AnswersRequest told at (chosen c) old new r
  as_lost at old new r c turn same = record { hindrance = Unheard; turn_is = turn_at told _ _ old new r (lost_choice at old.kept c) turn; still = λ e. same }

  wanting : (at : ℕ) (old new : Lasting D) (r : Reply) (c : Choice) (h : Hindrance) → IsTurn told (told_under h old.kept (out_of_memory old.kept)) old new r → IsStill told old new → AnswersRequest told at (chosen c) old new r
  wanting at old new r c Clear turn same = as_out_of_memory at old new r c turn same
  wanting at old new r c Refused turn same = as_out_of_memory at old new r c turn same
  wanting at old new r c Unheard turn same = as_lost at old new r c turn same
  wanting at old new r c Unanswered turn same = as_out_of_memory at old new r c turn same
  wanting at old new r c Unsealed turn same = as_out_of_memory at old new r c turn same
  wanting at old new r c Untold turn same = as_out_of_memory at old new r c turn same
  wanting at old new r c Unwritten turn same = as_out_of_memory at old new r c turn same
  wanting at old new r c UnwrittenUnheard turn same = as_out_of_memory at old new r c turn same
  wanting at old new r c Unread turn same = as_out_of_memory at old new r c turn same
  wanting at old new r c UnreadRefused turn same = as_out_of_memory at old new r c turn same
  wanting at old new r c UnreadUnheard turn same = as_out_of_memory at old new r c turn same
  wanting at old new r c (Misread said left) turn same = as_out_of_memory at old new r c turn same

  -- what was asked is served, and so are the bytes that ask it
  pub heard : (at : ℕ) (unserved bytes : List ℕ) (old new : Lasting D) (r : Reply) (asked : Result Asked HttpRefused)
      → Asks old.kept.house (unserved ++ bytes) asked → AnswersRequest told at asked old new r → Hears told at unserved bytes old new r
  heard at unserved bytes old new r (Ok NotYet) asks s = AreServed (Ok None) asks s
  heard at unserved bytes old new r (Ok (Whole t)) asks s = AreServed (Ok (Some asks.request)) asks.says (serves_as at old new r _ _ (ap chosen asks.route) s)
  heard at unserved bytes old new r (Err Head) asks s = AreServed (Err BadHead) asks s
  heard at unserved bytes old new r (Err Size) asks s = AreServed (Err TooLarge) asks s
  heard at unserved bytes old new r (Err Route) asks s = AreServed (Ok (Some asks.request)) asks.says (serves_as at old new r _ _ (ap chosen asks.route) s)
  heard at unserved bytes old new r (Err Json) asks s = AreServed (Ok (Some asks.request)) asks.says (serves_as at old new r _ _ (ap chosen asks.route) s)
  heard at unserved bytes old new r (Err NoMemory) asks s =
      AreServed (Ok (Some asks.request)) asks.says (wanting at old new r (route_of old.kept.house asks.request) s.hindrance s.turn_is (s.still refl))

  -- ---- whether the desk is closed

  closed_by : (t : ConsoleTurn) (old new : Lasting D) (r : Reply) → old.closed ≡ false → EndsSo t → IsTurn told t old new r → new.closed ≡ is_failure r.after
  closed_by t old new r open_is ends turn =
      turn.seals.closed ∙ ap (λ (b : Bool). b || not (is_empty t.unsealed)) open_is ∙ sym ends ∙ ap (λ (v : Reply). is_failure v.after) (sym turn.reply_is)

  -- the desk is closed exactly where the reply says that sealing failed
  pub serves_closed : (at : ℕ) (asked : Result Asked HttpRefused) (old new : Lasting D) (r : Reply) → old.closed ≡ false → AnswersRequest told at asked old new r → new.closed ≡ is_failure r.after
  serves_closed at asked old new r open_is s = closed_by _ old new r open_is (ends_so s.hindrance at old.kept asked) s.turn_is
