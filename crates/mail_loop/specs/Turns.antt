-- The turns of an event, one after the other: each unit that a connection's stream gives is one, whatever it speaks. A unit is a whole line of an SMTP
-- client's or a POP3 client's stream, and a command, a literal mark or a bad line of an IMAP client's.
use Rattle.std.specs.Prelude.{ℕ, List, [], ◌∷◌, ◌++◌, Option, None, Some}
use Rattle.std.specs.Option.{option_map}
use Rattle.verb_core.specs.declared.mailbox.BoxId.{BoxId}
use Rattle.smtp_lines.specs.declared.line.SmtpLine.{SmtpLine}
use Rattle.smtp_lines.specs.Lines.{rest_of}
use Rattle.smtp_lines.specs.Line.{smtp_lines_of}
use Rattle.smtp_session.specs.declared.dialog.Dialog.{Dialog}
use Rattle.imap_stream.specs.Commands as imap_stream
use Rattle.imap_stream.specs.Commands.{Heard as Stream, emptied}
use Rattle.imap_stream.specs.declared.next.Next.{Next}
use Rattle.imap_stream.specs.declared.next.Next.TheVariants.{NotYet}
use Rattle.imap_session.specs.declared.dialog.Dialog.{Dialog as ImapDialog}
use Rattle.pop_session.specs.declared.dialog.Dialog.{Dialog as PopDialog}
use Rattle.verb_bytes.specs.declared.journal.JournalRecord.{JournalRecord}
use Rattle.mail_loop.specs.TurnCounts.{TurnCounts, both_counted, none_counted}
use Rattle.console_head.specs.Request.{Stage}
use Rattle.mail_loop.specs.State.{Seat, Smtp, Imap, Http, Pop, State, beside}
use Rattle.mail_loop.specs.Turn.{Turn}
use Rattle.mail_loop.specs.Session.{Session, hindered}
use Rattle.mail_loop.specs.Hindrance.{Hindrance, first_hindrance, other_hindrances}
use Rattle.mail_loop.specs.SmtpTurn.{smtp_session}
use Rattle.mail_loop.specs.ImapTurn.{imap_session}
use Rattle.mail_loop.specs.PopTurn.{pop_session}
use Rattle.mail_loop.specs.ConsoleTurn.{Consoles, console_turn, left_by, no_consoles, sequel_of}
use Rattle.mail_loop.specs.declared.aftermath.Aftermath.{Aftermath}
use Rattle.mail_loop.specs.Afterwards.{taking}

-- What turns leave: what they say, the state, the dialog after them or none where the connection is closed. And the mailboxes that they took away,
-- and the record whose sealing failed, where one did. And how many could not read a text or were given another, or found no memory in a write.
pub record Outcome (D : Type 0) : Type 0 where
  pub said : List ℕ
  pub state : State
  pub dialog : Option D
  pub gone : List BoxId
  pub unsealed : List JournalRecord
  pub counts : TurnCounts

-- no turn yet
abbrev pub none_yet : {D : Type 0} → State → D → Outcome D
none_yet s d = record { said = []; state = s; dialog = Some d; gone = []; unsealed = []; counts = none_counted }

-- what turns leave after what earlier ones said
abbrev pub after : {D : Type 0} → List ℕ → List BoxId → List JournalRecord → TurnCounts → Outcome D → Outcome D
after said gone unsealed counts o = record {
  said = said ++ o.said;
  state = o.state;
  dialog = o.dialog;
  gone = gone ++ o.gone;
  unsealed = unsealed ++ o.unsealed;
  counts = both_counted counts o.counts;
}

-- the turns after a turn, while the connection is open
abbrev pub goes_on : {D : Type 0} → Outcome D → Option D → (State → D → Outcome D) → Outcome D
goes_on o None more = record o { dialog = None }
goes_on o (Some d) more = after o.said o.gone o.unsealed o.counts (more o.state d)

-- Turns, one after the other, each hindered or not. `one` is a turn of this kind of session.
abbrev pub turns : {D U : Type 0} → (Hindrance → State → D → U → Outcome D) → List Hindrance → State → D → List U → Outcome D
turns one hs s d [] = none_yet s d
turns one hs s d (u ∷ us) =
    let o = one (first_hindrance hs) s d u in
    goes_on o o.dialog (λ s d. turns one (other_hindrances hs) s d us)

-- a turn touches no other connection; those that it changes are told at the event's end
abbrev pub outcome_of : {D : Type 0} → State → Turn D → Outcome D
outcome_of s t = record { said = t.said; state = record { kept = t.kept; seats = s.seats }; dialog = t.dialog; gone = t.gone; unsealed = t.unsealed; counts = t.counts }

-- a turn of a connection's session, at a moment: a unit of its stream, beside the other connections
abbrev pub turn_of : {D U : Type 0} → Session D U → ℕ → ℕ → Hindrance → State → D → U → Outcome D
turn_of session at conn h s d unit = outcome_of s (hindered session h at s.kept (beside conn s.seats) d unit)

-- a turn of an SMTP client: a line of its stream
abbrev pub smtp_turn : ℕ → ℕ → Hindrance → State → Dialog → SmtpLine → Outcome Dialog
smtp_turn at conn h s d line = turn_of smtp_session at conn h s d line

-- a turn of an IMAP client: a command, a literal mark or a bad line of its stream
abbrev pub imap_turn : ℕ → ℕ → Hindrance → State → ImapDialog → Next → Outcome ImapDialog
imap_turn at conn h s d next = turn_of imap_session at conn h s d next

-- a turn of a POP3 client: a line of its stream
abbrev pub pop_turn : ℕ → ℕ → Hindrance → State → PopDialog → SmtpLine → Outcome PopDialog
pop_turn at conn h s d line = turn_of pop_session at conn h s d line

-- What comes of a connection's stream: what it is told, the state, its seat after that or none where it is closed, and what follows for the other
-- connections. And the record whose sealing failed, where one did, how many could not read a text or were given another, or found no memory in a
-- write, and what came of consoles.
pub record Heard : Type 0 where
  pub said : List ℕ
  pub state : State
  pub seat : Option Seat
  pub aftermath : Aftermath
  pub unsealed : List JournalRecord
  pub counts : TurnCounts
  pub consoles : Consoles

abbrev pub heard_by : {D : Type 0} → (D → Seat) → Outcome D → Heard
heard_by seat o = record { said = o.said; state = o.state; seat = option_map seat o.dialog; aftermath = taking o.gone; unsealed = o.unsealed; counts = o.counts; consoles = no_consoles }

-- A connection's stream: what more bytes make of it, the units that it gives, in order, and what is left of it behind them. And the seat that it is
-- with a dialog.
pub record Source (X D U : Type 0) : Type 0 where
  pub fed : X → List ℕ → X
  pub units : X → List U
  pub rest : X → X
  pub seat : X → D → Seat

-- whole lines; what follows the last one stays unserved
abbrev pub line_source : {D : Type 0} → (List ℕ → D → Seat) → Source (List ℕ) D SmtpLine
line_source seat = record { fed = λ stream bytes. stream ++ bytes; units = smtp_lines_of; rest = rest_of; seat = seat }

abbrev pub smtp_source : Source (List ℕ) Dialog SmtpLine
smtp_source = line_source Smtp

abbrev pub pop_source : Source (List ℕ) PopDialog SmtpLine
pop_source = line_source Pop

-- what an IMAP client's stream has given; the last unit is what is not whole yet, which says nothing
abbrev pub imap_source : Source Stream ImapDialog Next
imap_source = record { fed = imap_stream.heard; units = λ stream. stream.said ++ NotYet ∷ []; rest = emptied; seat = Imap }

-- the turns of the units that a stream gives, by a session that may see the others
abbrev pub hears_turns : {X D U : Type 0} → Source X D U → Session D U → List Hindrance → ℕ → State → ℕ → D → X → Heard
hears_turns source session hs at s conn d stream = heard_by (source.seat (source.rest stream)) (turns (turn_of session at conn) hs s d (source.units stream))

-- the one turn of a console's bytes, which are read so
abbrev pub hears_console : List Hindrance → Stage → ℕ → State → List ℕ → Heard
hears_console hs stage at s bytes =
    let t = console_turn (first_hindrance hs) at s.kept stage in
    record {
      said = t.said;
      state = record { kept = t.kept; seats = s.seats };
      seat = option_map Http (left_by t.after bytes);
      aftermath = (sequel_of t.after).aftermath;
      unsealed = t.unsealed;
      counts = record { reads = t.reads; out_of_memory = t.out_of_memory };
      consoles = record { readings = record { bytes = bytes; stage = stage } ∷ []; stops = (sequel_of t.after).stops };
    }

-- bytes more come onto the stream of a connection, which may see the others; those of a console are read so
abbrev pub hears_seat : List Hindrance → Stage → ℕ → State → ℕ → Seat → List ℕ → Heard
hears_seat hs stage at s conn (Smtp unserved d) bytes = hears_turns smtp_source smtp_session hs at s conn d (unserved ++ bytes)
hears_seat hs stage at s conn (Imap stream d) bytes = hears_turns imap_source imap_session hs at s conn d (imap_stream.heard stream bytes)
hears_seat hs stage at s conn (Http came) bytes = hears_console hs stage at s (came ++ bytes)
hears_seat hs stage at s conn (Pop unserved d) bytes = hears_turns pop_source pop_session hs at s conn d (unserved ++ bytes)
