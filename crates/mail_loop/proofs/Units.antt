-- A unit of the stream: what follows from what it gives is its turn.
use Rattle.std.proofs.Common.{◌≡◌, ℕ, List, subst, sym}
use Rattle.store_kept.specs.Kept.{Kept}
use Rattle.verb_bytes.specs.declared.journal.JournalRecord.{JournalRecord}
use Rattle.mail_loop.specs.declared.out.Out.{Out}
use Rattle.mail_loop.specs.declared.reply.Reply.{Reply}
use Rattle.mail_loop.specs.TurnCounts.{TurnCounts}
use Rattle.mail_loop.specs.State.{Seats, beside}
use Rattle.mail_loop.specs.Turn.{Turn}
use Rattle.mail_loop.specs.Session.{Session, Took, followed, hindered, served, took}
use Rattle.mail_loop.specs.Hindrance.{Hindrance, Clear, Refused as IsToldWant, Textless, Unread, UnreadRefused, UnreadUnheard, Misread, Misled, Unstored, Unheard, Unanswered, Unsealed, Untold, Unwritten, UnwrittenUnheard, Halfway, Service, row, under}
use Rattle.mail_loop.specs.Took.{Takes}

-- a turn of a connection's session at a moment
abbrev pub turn_at : {D U : Type 0} → Session D U → ℕ → ℕ → Seats → Hindrance → Kept → D → U → Turn D
turn_at session at conn seats h kept d unit = hindered session h at kept (beside conn seats) d unit

-- what the desk serves, hindered or not, where want of memory of the session may be told
pub or_told : {D : Type 0} → (P : Turn D → Type 0) (told : Turn D) (at : ℕ) (kept : Kept) (f : Service → Turn D) (h : Hindrance) → P (under h at kept f)
    → (h' : Hindrance) × P (row h' at kept told f).follows
or_told P told at kept f Clear t = (Clear, t)
or_told P told at kept f IsToldWant t = (Unheard, t)
or_told P told at kept f Textless t = (Textless, t)
or_told P told at kept f Unread t = (Unread, t)
or_told P told at kept f UnreadRefused t = (UnreadRefused, t)
or_told P told at kept f UnreadUnheard t = (UnreadUnheard, t)
or_told P told at kept f (Misread texts h) t = (Misread texts h, t)
or_told P told at kept f (Misled said left) t = (Misled said left, t)
or_told P told at kept f Unstored t = (Unstored, t)
or_told P told at kept f Unheard t = (Unheard, t)
or_told P told at kept f Unanswered t = (Unanswered, t)
or_told P told at kept f Unsealed t = (Unsealed, t)
or_told P told at kept f Untold t = (Untold, t)
or_told P told at kept f Unwritten t = (Unwritten, t)
or_told P told at kept f UnwrittenUnheard t = (UnwrittenUnheard, t)
or_told P told at kept f (Halfway h) t = (Halfway h, t)

-- what follows from what a unit gives is its turn
pub begun_turn : {D U : Type 0} → (session : Session D U) (S : List JournalRecord → TurnCounts → Type 0) (at : ℕ) (kept kept' : Kept) (others : Seats) (d e e' : D) (unit : U) (out : Out) (old new : Reply)
    → session.takes at kept others d unit ≡ took out e
    → (h : Hindrance) × Takes S (under h at kept (λ desk. followed session.speech desk kept out e)) old kept' e' new
    → (h : Hindrance) × Takes S (hindered session h at kept others d unit) old kept' e' new
begun_turn {D} session S at kept kept' others d e e' unit out old new is (h, t) =
    or_told (λ (u : Turn D). Takes S u old kept' e' new) (session.runs_out_of_memory kept d unit) at kept (λ desk. served session desk at kept others d unit) h
    (subst (λ (u : Took D). Takes S (under h at kept (λ desk. followed session.speech desk kept u.out u.dialog)) old kept' e' new) (sym is) t)
