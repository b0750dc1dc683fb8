-- How a turn may go otherwise.
use Rattle.std.specs.Prelude.{ℕ, Bool, true, false, List, [], nat_lt, Option, None, Some, Result, Ok, Err, if◌then◌else◌}
use Rattle.undo_base.specs.declared.limits.TheConstants.{END_OF_NUMBERS}
use Rattle.verb_core.specs.declared.item.Act.{Act}
use Rattle.verb_bytes.specs.declared.journal.CycleAsk.{CycleAsk}
use Rattle.verb_bytes.specs.declared.journal.JournalRecord.{JournalRecord}
use Rattle.verb_bytes.specs.declared.journal.JournalRecord.TheVariants.{Operator, Cycle, Upgrade, Withdraw}
use Rattle.store_kept.specs.Kept.{Kept}
use Rattle.cycle_rules.specs.Asking.{Due, Repeats, NoPoint, NoNumbers, Rewinds, after_cycle, cycle_due, due_anew}
use Rattle.cycle_rules.specs.Cycles.{Cycled}
use Rattle.cycle_rules.specs.Withdrawals.{after_withdrawal, withdraw_due}
use Rattle.repair_desk.specs.Repairs.{position}
use Rattle.desk_journal.specs.Reading.{failed_once, none_read, wrong_once}
use Rattle.desk_journal.specs.Records.{snapshot_record}
use Rattle.time_desk.specs.Replaying.{cycle_reads, plan_reads, withdrawal_reads}
use Rattle.console_http.specs.declared.request.Asked.{Asked}
use Rattle.console_http.specs.declared.request.Asked.TheVariants.{NotYet, Whole}
use Rattle.console_http.specs.declared.request.HttpRefused.{HttpRefused}
use Rattle.console_http.specs.declared.request.HttpRefused.TheVariants.{NoMemory}
use Rattle.console_http.specs.declared.request.Route.{Route}
use Rattle.console_http.specs.declared.request.Route.TheVariants as route
use Rattle.console_replies.specs.declared.bodies.ErrorWord.TheVariants as word
use Rattle.console_replies.specs.Bodies.{error_data, upgraded_data}
use Rattle.console_session.specs.declared.reply.After.TheVariants.{Closes}
use Rattle.console_session.specs.Answers.{Answer, answer, body_found, is_text_recorded, pointless, refused, uncycled}
use Rattle.console_session.specs.ConsoleTurn.{ConsoleTurn, waits, tells, done, failed, kept_as_it_is, numberless, reported, rewound, routed, upgrade_done}

-- How a turn may go otherwise.
pub data Hindrance : Type 0 where
  -- it goes as it should
  Clear : Hindrance
  -- no memory was found before anything was sealed, and the operator is told
  Refused : Hindrance
  -- the same, and no memory was found for telling the operator
  Unheard : Hindrance
  -- no memory was found for the answer to an act, a cycle, a withdrawal, a snapshot or an upgrade that is done
  Unanswered : Hindrance
  -- an act, a cycle, a withdrawal, a snapshot or an upgrade could not be sealed: the operator is told, and serving ends
  Unsealed : Hindrance
  -- the same, and no memory was found for telling the operator
  Untold : Hindrance
  -- no memory was found in a write of an act, a cycle, a withdrawal, a snapshot or an upgrade, as the disk says, and the operator is told; nothing was sealed
  Unwritten : Hindrance
  -- the same, and no memory was found for telling the operator
  UnwrittenUnheard : Hindrance
  -- a text could not be read, and the operator is told; nothing was sealed
  Unread : Hindrance
  -- the same, and no memory was found for telling that: the operator is told of want of memory
  UnreadRefused : Hindrance
  -- the same, and no memory was found for telling the operator anything
  UnreadUnheard : Hindrance
  -- A text was read that is not the one that was stored: so this is said, and where a cycle or a withdrawal is done this is kept.
  Misread : List ℕ → Kept → Hindrance

-- the connection closes with no answer
abbrev pub lost : Kept → ConsoleTurn
lost kept = record { said = []; kept = kept; after = Closes; sealed = []; unsealed = []; reads = none_read; out_of_memory = 0 }

-- the operator is told of want of memory
abbrev pub out_of_memory : Kept → ConsoleTurn
out_of_memory kept = tells (refused NoMemory) Closes kept

-- the same turn behind a read that failed
abbrev pub behind_a_read : ConsoleTurn → ConsoleTurn
behind_a_read t = record t { reads = failed_once }

-- the same turn behind a write that found no memory
abbrev pub behind_a_write : ConsoleTurn → ConsoleTurn
behind_a_write t = record t { out_of_memory = 1 }

-- the operator is told that a text could not be read
abbrev pub unread : Kept → ConsoleTurn
unread kept = behind_a_read (tells (answer 500 (error_data word.Disk)) Closes kept)

-- the same turn without its answer
abbrev pub unanswered : ConsoleTurn → ConsoleTurn
unanswered t = record t { said = [] }

-- the same turn over texts that are not those that were stored
abbrev pub misread : List ℕ → Kept → ConsoleTurn → ConsoleTurn
misread said left t = record t { said = said; kept = left; reads = wrong_once }

-- a turn that seals nothing and reads no text is hindered by want of memory alone
abbrev pub told_under : Hindrance → Kept → ConsoleTurn → ConsoleTurn
told_under Clear kept t = t
told_under Refused kept t = out_of_memory kept
told_under Unheard kept t = lost kept
told_under Unanswered kept t = t
told_under Unsealed kept t = t
told_under Untold kept t = t
told_under Unwritten kept t = t
told_under UnwrittenUnheard kept t = t
told_under Unread kept t = t
told_under UnreadRefused kept t = t
told_under UnreadUnheard kept t = t
told_under (Misread said left) kept t = t

-- one that reads texts, by them too
abbrev pub read_under : Hindrance → Kept → ConsoleTurn → ConsoleTurn
read_under Clear kept t = t
read_under Refused kept t = out_of_memory kept
read_under Unheard kept t = lost kept
read_under Unanswered kept t = t
read_under Unsealed kept t = t
read_under Untold kept t = t
read_under Unwritten kept t = t
read_under UnwrittenUnheard kept t = t
read_under Unread kept t = unread kept
read_under UnreadRefused kept t = behind_a_read (out_of_memory kept)
read_under UnreadUnheard kept t = behind_a_read (lost kept)
read_under (Misread said left) kept t = misread said kept t

-- a turn that seals a record: by how it goes where that is done, and where it can't be sealed
abbrev pub sealed_under : Hindrance → Kept → ConsoleTurn → ConsoleTurn → ConsoleTurn
sealed_under Clear kept done unsealed = done
sealed_under Refused kept done unsealed = out_of_memory kept
sealed_under Unheard kept done unsealed = lost kept
sealed_under Unanswered kept done unsealed = unanswered done
sealed_under Unsealed kept done unsealed = unsealed
sealed_under Untold kept done unsealed = unanswered unsealed
sealed_under Unwritten kept done unsealed = behind_a_write (out_of_memory kept)
sealed_under UnwrittenUnheard kept done unsealed = behind_a_write (lost kept)
sealed_under Unread kept done unsealed = done
sealed_under UnreadRefused kept done unsealed = done
sealed_under UnreadUnheard kept done unsealed = done
sealed_under (Misread said left) kept done unsealed = done

-- one that reads texts first
abbrev pub rewound_under : Hindrance → Kept → ConsoleTurn → ConsoleTurn → ConsoleTurn
rewound_under Clear kept done unsealed = done
rewound_under Refused kept done unsealed = out_of_memory kept
rewound_under Unheard kept done unsealed = lost kept
rewound_under Unanswered kept done unsealed = unanswered done
rewound_under Unsealed kept done unsealed = unsealed
rewound_under Untold kept done unsealed = unanswered unsealed
rewound_under Unwritten kept done unsealed = behind_a_write (out_of_memory kept)
rewound_under UnwrittenUnheard kept done unsealed = behind_a_write (lost kept)
rewound_under Unread kept done unsealed = unread kept
rewound_under UnreadRefused kept done unsealed = behind_a_read (out_of_memory kept)
rewound_under UnreadUnheard kept done unsealed = behind_a_read (lost kept)
rewound_under (Misread said left) kept done unsealed = misread said left done

-- a hindrance, where some text may be to be read; where none is, no read fails, and none gives another text
abbrev pub where_read : Bool → Hindrance → Hindrance
where_read true h = h
where_read false Clear = Clear
where_read false Refused = Refused
where_read false Unheard = Unheard
where_read false Unanswered = Unanswered
where_read false Unsealed = Unsealed
where_read false Untold = Untold
where_read false Unwritten = Unwritten
where_read false UnwrittenUnheard = UnwrittenUnheard
where_read false Unread = Clear
where_read false UnreadRefused = Clear
where_read false UnreadUnheard = Clear
where_read false (Misread said left) = Clear

-- a turn that tells what is made of texts, where there is what it asks for, and where some may be to be read
abbrev pub found_under : {A : Type 0} → Bool → Hindrance → Kept → Option A → ConsoleTurn → ConsoleTurn
found_under some h kept None t = told_under h kept t
found_under some h kept (Some x) t = read_under (where_read some h) kept t

-- what becomes of an act; where no number is left nothing is to be sealed
abbrev pub acted_under : Hindrance → ℕ → Kept → Act → ConsoleTurn
acted_under h at kept act =
    if nat_lt kept.next END_OF_NUMBERS then sealed_under h kept (done at kept act) (failed kept (Operator kept.next at act)) else told_under h kept (numberless kept)

-- what becomes of a request for a cycle or a withdrawal, by what is due to it, and whether something may be to be read for it
abbrev pub gone_back_under : Bool → Hindrance → Kept → Answer → JournalRecord → (Cycled → Kept) → Due → ConsoleTurn
gone_back_under some h kept missing what left (Repeats report) = told_under h kept (reported kept report)
gone_back_under some h kept missing what left NoPoint = told_under h kept (tells missing Closes kept)
gone_back_under some h kept missing what left NoNumbers = told_under h kept (numberless kept)
gone_back_under some h kept missing what left (Rewinds due) = rewound_under (where_read some h) kept (rewound kept what left due) (failed kept what)

abbrev pub cycled_under : Hindrance → ℕ → Kept → CycleAsk → Due → ConsoleTurn
cycled_under h at kept ask due = gone_back_under (cycle_reads kept at ask) h kept (pointless ask.point) (Cycle kept.next at ask) (after_cycle kept ask) due

abbrev pub withdrawn_under : Hindrance → ℕ → Kept → List ℕ → ℕ → Due → ConsoleTurn
withdrawn_under h at kept key of due = gone_back_under (withdrawal_reads kept of) h kept (uncycled of) (Withdraw kept.next at key of) (after_withdrawal kept key) due

-- what becomes of a cycle that is only tried
abbrev pub tried_under : Bool → Hindrance → Kept → CycleAsk → Due → ConsoleTurn
tried_under some h kept ask (Repeats report) = told_under h kept (reported kept report)
tried_under some h kept ask NoPoint = told_under h kept (tells (pointless ask.point) Closes kept)
tried_under some h kept ask NoNumbers = told_under h kept (numberless kept)
tried_under some h kept ask (Rewinds due) = read_under (where_read some h) kept (reported kept due.report)

-- what becomes of an upgrade; where the store was upgraded before nothing is to be sealed
abbrev pub upgraded_under : Hindrance → ℕ → Kept → ConsoleTurn
upgraded_under h at kept =
    if kept.deep then told_under h kept (tells (answer 200 upgraded_data) Closes kept) else sealed_under h kept (upgrade_done at kept) (failed kept (Upgrade at))

abbrev pub routed_under : Hindrance → ℕ → Kept → Route → ConsoleTurn
routed_under h at kept route.Status = told_under h kept (routed at kept route.Status)
routed_under h at kept (route.Timeline start) = told_under h kept (routed at kept (route.Timeline start))
routed_under h at kept (route.Box user name) = told_under h kept (routed at kept (route.Box user name))
routed_under h at kept (route.Body number) = found_under (is_text_recorded kept number) h kept (body_found kept.timeline number) (routed at kept (route.Body number))
routed_under h at kept route.Conf = told_under h kept (routed at kept route.Conf)
routed_under h at kept (route.Plan point) = found_under (plan_reads kept point) h kept (position kept.timeline point) (routed at kept (route.Plan point))
routed_under h at kept (route.Act act) = acted_under h at kept act
routed_under h at kept (route.Cycle ask) = cycled_under h at kept ask (cycle_due kept at ask)
routed_under h at kept (route.Try ask) = tried_under (cycle_reads kept at ask) h kept ask (due_anew kept at ask)
routed_under h at kept route.Snapshot = sealed_under h kept (kept_as_it_is kept) (failed kept (snapshot_record kept))
routed_under h at kept route.Stop = told_under h kept (routed at kept route.Stop)
routed_under h at kept route.Upgrade = upgraded_under h at kept
routed_under h at kept (route.Withdraw key of) = withdrawn_under h at kept key of (withdraw_due kept at key of)

-- a turn, hindered or not; bytes that are not yet a request want no memory
abbrev pub hindered : Hindrance → ℕ → Kept → Result Asked HttpRefused → ConsoleTurn
hindered h at kept (Ok NotYet) = waits kept
hindered h at kept (Ok (Whole route)) = routed_under h at kept route
hindered h at kept (Err why) = told_under h kept (tells (refused why) Closes kept)
