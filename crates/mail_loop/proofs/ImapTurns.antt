-- Turns of an IMAP client: a command as it stands in the stream, and what is none.
use Rattle.std.proofs.Common.{◌≡◌, ℕ, List, [], ◌++◌, Bool, false, Option, Result, Ok, Err, IfOk, refl, ap, subst, sym, ◌∙◌, inl, inr}
use Rattle.undo_base.specs.declared.memory.NoMemory.{NoMemory as WantOfMemory}
use Rattle.verb_core.specs.declared.conf.House.{House}
use Rattle.verb_core.specs.declared.mailbox.Body.{Body}
use Rattle.verb_core.specs.Store.{MailStore}
use Rattle.imap_lines.specs.Command.{Reading, command_of}
use Rattle.imap_lines.specs.declared.command.ImapCommand.{ImapCommand}
use Rattle.imap_lines.specs.declared.command.ImapRefused.{ImapRefused}
use Rattle.imap_stream.specs.declared.next.RawCommand.{RawCommand}
use Rattle.imap_stream.specs.declared.next.Next.{Next}
use Rattle.imap_stream.specs.declared.next.Next.TheVariants.{Command}
use Rattle.imap_session.specs.declared.dialog.Dialog.{Dialog}
use Rattle.imap_session.specs.declared.out.ImapOut.{ImapOut}
use Rattle.imap_session.specs.Dialog as session
use Rattle.imap_session.specs.Words.{unread_text}
use Rattle.store_kept.specs.Kept.{Kept, store_of}
use Rattle.verb_bytes.specs.declared.journal.JournalRecord.{JournalRecord}
use Rattle.mail_loop.specs.TurnCounts.{TurnCounts}
use Rattle.mail_loop.specs.declared.reply.Reply.{Reply}
use Rattle.mail_loop.specs.State.{Seats}
use Rattle.mail_loop.specs.Turn.{Turn, ends, says}
use Rattle.mail_loop.specs.Session.{Took, followed, size_in, hindered}
use Rattle.mail_loop.specs.Hindrance.{Hindrance, Clear, Unheard, under}
use Rattle.mail_loop.specs.ImapTurn.{imap_session, imap_speech, of_imap, out_of_memory_command, took_by}
use Rattle.mail_loop.specs.Took.{IsNone, Takes}
use Rattle.mail_loop.specs.ImapTook.{IsAnswered, obeyed, obeyed_under}
use Rattle.mail_loop.proofs.Units.{or_told}
use Rattle.mail_loop.proofs.Telling.{closed, told_whole}

-- an answer that was made, or for which no memory was found
pub answered_turn : (said : List ℕ) (text : Result (List ℕ) WantOfMemory) (kept : Kept) (d d' : Dialog) (old new : Reply) (f : Hindrance → Turn Dialog) (h : Hindrance)
    → IfOk text (λ t. t ≡ said) → f h ≡ says said kept d → f Unheard ≡ ends [] kept → IsAnswered text d old d' new
    → (h : Hindrance) × Takes IsNone (f h) old kept d' new
answered_turn said (Ok text) kept d d' old new f h same clear lost (stays, inl e) = (
  h,
  subst (λ (t : Turn Dialog). Takes IsNone t old kept d' new) (sym clear)
      (subst (λ (g : Dialog). Takes IsNone (says said kept d) old kept g new) (sym stays)
      (told_whole said kept d old new (e ∙ ap (λ (s : List ℕ). record old { said = old.said ++ s; closes = false }) same))),
)
answered_turn said (Ok text) kept d d' old new f h same clear lost (stays, inr e) =
    (Unheard, subst (λ (t : Turn Dialog). Takes IsNone t old kept d' new) (sym lost) (closed kept kept d' old new refl e))
answered_turn said (Err w) kept d d' old new f h same clear lost e =
    (Unheard, subst (λ (t : Turn Dialog). Takes IsNone t old kept d' new) (sym lost) (closed kept kept d' old new refl e))

pub command_turn : (S : List JournalRecord → TurnCounts → Type 0) (at : ℕ) (kept kept' : Kept) (command : ImapCommand) (out : ImapOut) (d e e' : Dialog) (old new : Reply)
    → session.turn kept.house (store_of kept) (size_in kept) kept.deep d command ≡ session.took out e
    → (h : Hindrance) × Takes S (under h at kept (λ desk. followed imap_speech desk kept (of_imap out) e)) old kept' e' new
    → (h : Hindrance) × Takes S (obeyed_under h at kept d (Ok command)) old kept' e' new
command_turn S at kept kept' command out d e e' old new is (h, t) =
    or_told (λ (u : Turn Dialog). Takes S u old kept' e' new) (out_of_memory_command kept d (Ok command)) at kept (λ desk. obeyed desk kept d (Ok command)) h
    (subst (λ (u : Took Dialog). Takes S (under h at kept (λ desk. followed imap_speech desk kept u.out u.dialog)) old kept' e' new) (sym (ap took_by is)) t)

-- the refusal of lines, where it is no want of memory
pub refusal_turn : (at : ℕ) (kept : Kept) (d d' : Dialog) (reading : Reading) (why : ImapRefused) (text : Result (List ℕ) WantOfMemory) (old new : Reply)
    → reading ≡ Err why → IfOk text (λ t. t ≡ unread_text why) → IsAnswered text d old d' new
    → (h : Hindrance) × Takes IsNone (obeyed_under h at kept d reading) old kept d' new
refusal_turn at kept d d' reading why text old new is same answered =
    subst (λ (r : Reading). (h : Hindrance) × Takes IsNone (obeyed_under h at kept d r) old kept d' new) (sym is)
    (answered_turn (unread_text why) text kept d d' old new (λ h. obeyed_under h at kept d (Err why)) Clear same refl refl answered)

-- a command as it stands in the stream
pub raw_turn : (S : List JournalRecord → TurnCounts → Type 0) (at : ℕ) (kept kept' : Kept) (next : Next) (raw : RawCommand) (d d' : Dialog) (old new : Reply) → next ≡ Command raw
    → (h : Hindrance) × Takes S (obeyed_under h at kept d (command_of raw)) old kept' d' new
    → (h : Hindrance) × ((others : Seats) → Takes S (hindered imap_session h at kept others d next) old kept' d' new)
raw_turn S at kept kept' next raw d d' old new is (h, t) =
    (h, λ others. subst (λ (n : Next). Takes S (hindered imap_session h at kept others d n) old kept' d' new) (sym is) t)

-- a turn that no other connection hinders
pub whatever_others : (S : List JournalRecord → TurnCounts → Type 0) (at : ℕ) (kept kept' : Kept) (next : Next) (d d' : Dialog) (old new : Reply)
    → (h : Hindrance) × Takes S (hindered imap_session h at kept [] d next) old kept' d' new
    → (h : Hindrance) × ((others : Seats) → Takes S (hindered imap_session h at kept others d next) old kept' d' new)
whatever_others S at kept kept' next d d' old new (h, t) = (h, λ others. t)

-- what the session was given is what the machine gives the dialog
pub command_is : (kept : Kept) (house : House) (store : MailStore) (sizes : Body → Option ℕ) (deep : Bool) (d e : Dialog) (command : ImapCommand) (out : ImapOut)
    → house ≡ kept.house → store ≡ store_of kept → ((body : Body) → sizes body ≡ size_in kept body) → deep ≡ kept.deep
    → session.turn house store sizes deep d command ≡ session.took out e
    → session.turn kept.house (store_of kept) (size_in kept) kept.deep d command ≡ session.took out e
command_is kept house store sizes deep d e command out h s z p is = sym (λ j. session.turn (h j) (s j) (λ body. z body j) (p j) d command) ∙ is
