-- The session of a POP3 client (RFC 1939): a line of its stream is a unit.
use Rattle.std.specs.Prelude.{◌≡◌, ℕ, ◌==◌, Bool, true, false, filter_map, List, [], ◌∷◌, Option, None, Result, Ok, Err, if◌then◌else◌}
use Rattle.std.proofs.Common.{◌∙◌, refl, sym, true≢false}
use Rattle.undo_base.specs.declared.keys.User.{User}
use Rattle.seal_log.specs.declared.fault.ReadFault.{ReadFault}
use Rattle.smtp_lines.specs.declared.line.SmtpLine.{SmtpLine}
use Rattle.verb_core.specs.declared.ask.SubmitFault.{SubmitFault}
use Rattle.verb_core.specs.declared.ask.SubmitFault.TheVariants.{Refused as IsRefused, Disk, Closed}
use Rattle.verb_core.specs.declared.item.Item.{Item}
use Rattle.pop_session.specs.declared.answer.Answer.TheVariants.{NoMemory}
use Rattle.pop_session.specs.declared.dialog.Awaits.{Awaits}
use Rattle.pop_session.specs.declared.dialog.Awaits.TheVariants.{Nothing, Text, Outcome}
use Rattle.pop_session.specs.declared.dialog.Dialog.{Dialog}
use Rattle.pop_session.specs.declared.dialog.Pending.TheVariants as on
use Rattle.pop_session.specs.declared.out.PopOut.{PopOut}
use Rattle.pop_session.specs.declared.out.PopOut.TheVariants.{Say as Says, Read as Reads, Submit as Submits, Bye as Goodbye}
use Rattle.pop_session.specs.Answer.{answer_text}
use Rattle.pop_session.specs.Dialog as session
use Rattle.store_kept.specs.Kept.{Kept, store_of}
use Rattle.mail_loop.specs.declared.out.Out.{Out}
use Rattle.mail_loop.specs.declared.out.Out.TheVariants.{Say, Read, Submit, Bye}
use Rattle.mail_loop.specs.Session.{Session, Speech, Took, is_answer, is_said, session_by, size_in, took}
use Rattle.mail_loop.specs.State.{Seat, Seats, Smtp, Imap, Http, Pop}
use Rattle.mail_loop.specs.Turn.{Turn, says}

-- what its session answers
abbrev pub of_pop : PopOut → Out
of_pop (Says said) = Say said
of_pop (Reads body) = Read (body ∷ [])
of_pop (Submits asked) = Submit asked
of_pop (Goodbye said) = Bye said

-- a text is to be read
abbrev pub is_read : PopOut → Bool
is_read (Says said) = false
is_read (Reads body) = true
is_read (Submits asked) = false
is_read (Goodbye said) = false

abbrev pub took_by : session.Took → Took Dialog
took_by t = took (of_pop t.out) t.dialog

-- the one text that it wants
abbrev pub text_of : Result (List (List ℕ)) ReadFault → Result (List ℕ) ReadFault
text_of (Ok (text ∷ texts)) = Ok text
text_of (Ok []) = Ok []
text_of (Err why) = Err why

-- without its text it says why
pub says_awaited : (d : Dialog) (a : Awaits) (why : ReadFault) → session.is_text a ≡ true → is_said (of_pop (session.heard_in a (Err why) d).out) ≡ true
says_awaited d Nothing why wrong = absurd (true≢false (sym wrong))
says_awaited d (Text wanted) why is = refl
says_awaited d (Outcome pending) why wrong = absurd (true≢false (sym wrong))

-- what is not done is answered
pub answers_undone : (d : Dialog) (a : Awaits) (fault : SubmitFault) → session.is_outcome a ≡ true → is_answer (of_pop (session.undone_in a fault d).out) ≡ true
answers_undone d Nothing fault wrong = absurd (true≢false (sym wrong))
answers_undone d (Text wanted) fault wrong = absurd (true≢false (sym wrong))
answers_undone d (Outcome (on.Enter u drop)) (IsRefused why) due = refl
answers_undone d (Outcome (on.Tell answer)) (IsRefused why) due = refl
answers_undone d (Outcome (on.Mark mailbox keys)) (IsRefused why) due = refl
answers_undone d (Outcome on.Remove) (IsRefused why) due = refl
answers_undone d (Outcome pending) Disk due = refl
answers_undone d (Outcome pending) Closed due = refl

-- only QUIT asks further, for its EXPUNGE, and what comes of that is answered
pub answers_removal : (d : Dialog) (a : Awaits) (outcome other : Result Item SubmitFault) → session.is_outcome a ≡ true → is_answer (of_pop (session.settle_in a outcome d).out) ≡ false
    → is_answer (of_pop (session.settle (session.settle_in a outcome d).dialog other).out) ≡ true
answers_removal d Nothing outcome other wrong further = absurd (true≢false (sym wrong))
answers_removal d (Text wanted) outcome other wrong further = absurd (true≢false (sym wrong))
answers_removal d (Outcome pending) (Err fault) other due further = absurd (true≢false (sym (answers_undone d (Outcome pending) fault due) ∙ further))
answers_removal d (Outcome (on.Enter u drop)) (Ok item) other due wrong = absurd (true≢false wrong)
answers_removal d (Outcome (on.Tell answer)) (Ok item) other due wrong = absurd (true≢false wrong)
answers_removal d (Outcome on.Remove) (Ok item) other due wrong = absurd (true≢false wrong)
answers_removal d (Outcome (on.Mark mailbox keys)) (Ok item) (Ok later) due further = refl
answers_removal d (Outcome (on.Mark mailbox keys)) (Ok item) (Err (IsRefused why)) due further = refl
answers_removal d (Outcome (on.Mark mailbox keys)) (Ok item) (Err Disk) due further = refl
answers_removal d (Outcome (on.Mark mailbox keys)) (Ok item) (Err Closed) due further = refl

-- it asks for who is logged in, or logs in
abbrev pub pop_speech : Speech Dialog
pop_speech = record {
  opening = session.opening;
  user = session.user_of;
  heard = λ d texts. took_by (session.heard d (text_of texts));
  settle = λ s stamps d outcome. took_by (session.settle d outcome);
  is_free = session.is_free;
  takes_texts = session.is_reading;
  is_due = session.is_due;
  opens_free = refl;
  opens_alone = refl;
  says_why = λ d why reading. says_awaited d d.awaits why reading;
  ends_at_fault = λ s stamps d due. tt;
  answers_fault = λ s stamps d fault due. answers_undone (session.at_rest d) d.awaits fault due;
  answers_further = λ s t stamps later d outcome other due further. answers_removal (session.at_rest d) d.awaits outcome other due further;
}

-- ---- the other connections

abbrev pub is_fetching : Seat → Bool
is_fetching (Smtp unserved d) = false
is_fetching (Imap stream d) = false
is_fetching (Http came) = false
is_fetching (Pop unserved d) = true

-- who is logged in on a connection of a POP3 client, or logs in
abbrev pub user_at : Seat → Option User
user_at (Smtp unserved d) = None
user_at (Imap stream d) = None
user_at (Http came) = None
user_at (Pop unserved d) = session.user_of d

-- the users whose maildrops are in use (RFC 1939, 4: exclusive access)
abbrev pub in_use : Seats → List User
in_use others = filter_map (λ (e : ℕ × Seat). user_at e.1) others

-- the same of one connection beside another
abbrev pub user_beside : ℕ → ℕ × Seat → Option User
user_beside conn e = if e.0 == conn then None else user_at e.1

-- ---- a line

-- what is told of want of memory
abbrev pub memory_told : List ℕ
memory_told = answer_text NoMemory

-- a line, where these users have their maildrops in use
abbrev pub takes : List User → Kept → Dialog → SmtpLine → Took Dialog
takes users kept d line = took_by (session.turn kept.house (store_of kept) kept.stamps (size_in kept) users d line)

-- no memory was found for a line: nothing changes
abbrev pub out_of_memory : Kept → Dialog → SmtpLine → Turn Dialog
out_of_memory kept d line = says memory_told kept d

-- it takes a line by the house, the store and the other connections
abbrev pub pop_session : Session Dialog SmtpLine
pop_session = record { speech = pop_speech; takes = λ at kept others d line. takes (in_use others) kept d line; runs_out_of_memory = out_of_memory }

-- the same, where these users have their maildrops in use
abbrev pub pop_beside : List User → Session Dialog SmtpLine
pop_beside users = session_by pop_speech (λ at kept d line. takes users kept d line) out_of_memory
