-- One turn of a console connection: the answer to its request.
use Rattle.std.specs.Prelude.{ℕ, List, [], ◌∷◌, length, nat_lt, None, Some, Result, Ok, Err, if◌then◌else◌}
use Rattle.undo_base.specs.declared.limits.TheConstants.{END_OF_NUMBERS}
use Rattle.verb_core.specs.declared.conf.House.{House}
use Rattle.verb_core.specs.declared.item.Act.{Act}
use Rattle.verb_bytes.specs.declared.journal.CycleAsk.{CycleAsk}
use Rattle.verb_bytes.specs.declared.journal.JournalRecord.{JournalRecord}
use Rattle.verb_bytes.specs.declared.journal.JournalRecord.TheVariants.{Operator, Cycle, Upgrade, Withdraw}
use Rattle.paradox.specs.declared.reports.Report.{Report}
use Rattle.store_kept.specs.Kept.{performed, snapshotted, upgraded, Kept}
use Rattle.cycle_rules.specs.Asking.{Due, Repeats, NoPoint, NoNumbers, Rewinds as IsDue, after_cycle, cycle_due, due_anew}
use Rattle.cycle_rules.specs.Cycles.{Cycled}
use Rattle.cycle_rules.specs.Withdrawals.{after_withdrawal, withdraw_due}
use Rattle.verb_core.specs.Deeds.{act_item}
use Rattle.desk_journal.specs.Reading.{Reads, none_read}
use Rattle.desk_journal.specs.Records.{snapshot_record}
use Rattle.console_head.specs.Request.{Stage}
use Rattle.console_http.specs.declared.request.Asked.{Asked}
use Rattle.console_http.specs.declared.request.Asked.TheVariants.{NotYet, Whole}
use Rattle.console_http.specs.declared.request.HttpRefused.{HttpRefused}
use Rattle.console_http.specs.declared.request.Route.{Route}
use Rattle.console_http.specs.declared.request.Route.TheVariants as route
use Rattle.console_http.specs.Requests.{told_of}
use Rattle.console_http.specs.Routes.{Choice, route_of}
use Rattle.console_replies.specs.declared.bodies.ErrorWord.TheVariants as word
use Rattle.console_replies.specs.Bodies.{error_data, items_data, number_data, numbers_data, stopped_data, upgraded_data}
use Rattle.console_replies.specs.Reports.{report_data}
use Rattle.console_session.specs.declared.reply.After.{After}
use Rattle.console_session.specs.declared.reply.After.TheVariants.{Waits, Closes, Stops, Fails, Rewinds, Upgrades}
use Rattle.console_session.specs.Answers.{Answer, answer, answer_text, body_answer, box_answer, conf_answer, plan_answer, pointless, refused, status_answer, timeline_answer, uncycled}

-- What a turn says, what is kept after it and what follows. The record that was sealed in it, or that could not be; and whether a text could
-- not be read, or was read wrong. And in how many writes no memory was found.
pub record ConsoleTurn : Type 0 where
  pub said : List ℕ
  pub kept : Kept
  pub after : After
  pub sealed : List JournalRecord
  pub unsealed : List JournalRecord
  pub reads : Reads
  pub out_of_memory : ℕ

-- nothing is said yet, and the connection stays open
abbrev pub waits : Kept → ConsoleTurn
waits kept = record { said = []; kept = kept; after = Waits; sealed = []; unsealed = []; reads = none_read; out_of_memory = 0 }

-- an answer that changes nothing
abbrev pub tells : Answer → After → Kept → ConsoleTurn
tells a after kept = record { said = answer_text a; kept = kept; after = after; sealed = []; unsealed = []; reads = none_read; out_of_memory = 0 }

-- too few numbers are left
abbrev pub numberless : Kept → ConsoleTurn
numberless kept = tells (answer 507 (numbers_data kept.next)) Closes kept

-- ---- acts

-- an act is done, and answered with its number
abbrev pub done : ℕ → Kept → Act → ConsoleTurn
done at kept act = record {
  said = answer_text (answer 200 (number_data kept.next));
  kept = performed kept (act_item kept.next at act);
  after = Closes;
  sealed = Operator kept.next at act ∷ [];
  unsealed = [];
  reads = none_read;
  out_of_memory = 0;
}

-- a record could not be sealed, and nothing is kept of it
abbrev pub failed : Kept → JournalRecord → ConsoleTurn
failed kept what = record {
  said = answer_text (answer 500 (error_data word.Disk));
  kept = kept;
  after = Fails;
  sealed = [];
  unsealed = what ∷ [];
  reads = none_read;
  out_of_memory = 0;
}

-- what becomes of an act for which a number is left, or that none is left
abbrev pub numbered : Kept → ConsoleTurn → ConsoleTurn
numbered kept t = if nat_lt kept.next END_OF_NUMBERS then t else numberless kept

-- ---- cycles and withdrawals

-- one is told by its report, and changes nothing
abbrev pub reported : Kept → Report → ConsoleTurn
reported kept report = tells (answer 200 (report_data kept.house report)) Closes kept

-- one is done: its record is sealed, what it leaves is kept, and it is answered with its report
abbrev pub rewound : Kept → JournalRecord → (Cycled → Kept) → Cycled → ConsoleTurn
rewound kept what left due = record {
  said = answer_text (answer 200 (report_data kept.house due.report));
  kept = left due;
  after = Rewinds;
  sealed = what ∷ [];
  unsealed = [];
  reads = none_read;
  out_of_memory = 0;
}

-- What becomes of a request for one, by what is due to it. A report is told again; or what it goes back to is not there, and this is
-- told; or too few numbers are left; or it is done.
abbrev pub gone_back : Kept → Answer → JournalRecord → (Cycled → Kept) → Due → ConsoleTurn
gone_back kept missing what left (Repeats report) = reported kept report
gone_back kept missing what left NoPoint = tells missing Closes kept
gone_back kept missing what left NoNumbers = numberless kept
gone_back kept missing what left (IsDue due) = rewound kept what left due

-- of a request for a cycle
abbrev pub cycled : ℕ → Kept → CycleAsk → Due → ConsoleTurn
cycled at kept ask due = gone_back kept (pointless ask.point) (Cycle kept.next at ask) (after_cycle kept ask) due

-- of a request for a withdrawal
abbrev pub withdrawn : ℕ → Kept → List ℕ → ℕ → Due → ConsoleTurn
withdrawn at kept key of due = gone_back kept (uncycled of) (Withdraw kept.next at key of) (after_withdrawal kept key) due

-- what becomes of a cycle that is only tried: it is told, and not done
abbrev pub tried : Kept → CycleAsk → Due → ConsoleTurn
tried kept ask (Repeats report) = reported kept report
tried kept ask NoPoint = tells (pointless ask.point) Closes kept
tried kept ask NoNumbers = numberless kept
tried kept ask (IsDue due) = reported kept due.report

-- ---- snapshots

-- a snapshot is taken, and answered with how many items it holds
abbrev pub kept_as_it_is : Kept → ConsoleTurn
kept_as_it_is kept = record {
  said = answer_text (answer 200 (items_data (length kept.timeline)));
  kept = snapshotted kept;
  after = Closes;
  sealed = snapshot_record kept ∷ [];
  unsealed = [];
  reads = none_read;
  out_of_memory = 0;
}

-- ---- upgrades

-- the store is upgraded, and that is answered
abbrev pub upgrade_done : ℕ → Kept → ConsoleTurn
upgrade_done at kept = record {
  said = answer_text (answer 200 upgraded_data);
  kept = upgraded kept;
  after = Upgrades;
  sealed = Upgrade at ∷ [];
  unsealed = [];
  reads = none_read;
  out_of_memory = 0;
}

-- the same where it was not upgraded before; else nothing changes, and the answer is the same
abbrev pub upgraded_once : ℕ → Kept → ConsoleTurn
upgraded_once at kept = if kept.deep then tells (answer 200 upgraded_data) Closes kept else upgrade_done at kept

-- ---- turns

-- the answer to a route at a moment
abbrev pub routed : ℕ → Kept → Route → ConsoleTurn
routed at kept route.Status = tells (status_answer kept) Closes kept
routed at kept (route.Timeline start) = tells (timeline_answer kept start) Closes kept
routed at kept (route.Box user name) = tells (box_answer kept user name) Closes kept
routed at kept (route.Body number) = tells (body_answer kept number) Closes kept
routed at kept route.Conf = tells (conf_answer kept) Closes kept
routed at kept (route.Plan point) = tells (plan_answer kept point) Closes kept
routed at kept (route.Act act) = numbered kept (done at kept act)
routed at kept (route.Cycle ask) = cycled at kept ask (cycle_due kept at ask)
routed at kept (route.Try ask) = tried kept ask (due_anew kept at ask)
routed at kept route.Snapshot = kept_as_it_is kept
routed at kept route.Stop = tells (answer 200 stopped_data) Stops kept
routed at kept route.Upgrade = upgraded_once at kept
routed at kept (route.Withdraw key of) = withdrawn at kept key of (withdraw_due kept at key of)

-- the turn of what is asked at a moment
abbrev pub turn : ℕ → Kept → Result Asked HttpRefused → ConsoleTurn
turn at kept (Ok NotYet) = waits kept
turn at kept (Ok (Whole route)) = routed at kept route
turn at kept (Err why) = tells (refused why) Closes kept

-- ---- what is asked

abbrev pub chosen : Choice → Result Asked HttpRefused
chosen (Ok route) = Ok (Whole route)
chosen (Err why) = Err why

-- what is asked by the bytes of a connection, by what they are
abbrev pub asked_of : House → Stage → Result Asked HttpRefused
asked_of house (Ok None) = Ok NotYet
asked_of house (Ok (Some request)) = chosen (route_of house request)
asked_of house (Err why) = Err (told_of why)
