-- The session of an IMAP client: a command, a literal mark or a bad line of its stream is a unit, and what is not whole yet is the last one.
use Rattle.std.specs.Prelude.{◌≡◌, ℕ, true, List, [], Option, None, Some, Result, Ok, Err}
use Rattle.std.proofs.Common.{◌∙◌, refl, sym, true≢false}
use Rattle.seal_log.specs.declared.fault.ReadFault.{ReadFault}
use Rattle.seal_log.specs.declared.fault.ReadFault.TheVariants as read_fault
use Rattle.verb_core.specs.declared.ask.Refused.TheVariants.{NoMemory}
use Rattle.verb_core.specs.declared.ask.SubmitFault.{SubmitFault}
use Rattle.verb_core.specs.declared.ask.SubmitFault.TheVariants.{Refused as IsRefused, Disk, Closed}
use Rattle.verb_core.specs.declared.item.Item.{Item}
use Rattle.verb_core.specs.declared.mailbox.BoxId.{BoxId}
use Rattle.verb_core.specs.Store.{MailStore}
use Rattle.imap_lines.specs.Command.{Reading, command_of}
use Rattle.imap_stream.specs.declared.next.Next.{Next}
use Rattle.imap_stream.specs.declared.next.Next.TheVariants.{Command, Ask as Mark, Bad, NotYet}
use Rattle.imap_session.specs.declared.dialog.Awaits.{Awaits}
use Rattle.imap_session.specs.declared.dialog.Awaits.TheVariants.{Nothing, Texts, Outcome}
use Rattle.imap_session.specs.declared.dialog.Dialog.{Dialog}
use Rattle.imap_session.specs.declared.dialog.Pending.{Pending}
use Rattle.imap_session.specs.declared.dialog.Pending.TheVariants as on
use Rattle.imap_session.specs.declared.dialog.Selected.{Selected}
use Rattle.imap_session.specs.declared.out.ImapOut.{ImapOut}
use Rattle.imap_session.specs.declared.out.ImapOut.TheVariants.{Say as Says, Read as Reads, Submit as Submits, Bye as Goodbye}
use Rattle.imap_session.specs.declared.words.Answer.TheVariants.{Refused as IsToldRefused}
use Rattle.imap_session.specs.declared.words.Word.{Word}
use Rattle.imap_session.specs.Dialog as session
use Rattle.imap_session.specs.Words.{bad_line_text, ready_text, tagged}
use Rattle.store_kept.specs.Kept.{Kept, store_of}
use Rattle.mail_loop.specs.declared.out.Out.{Out}
use Rattle.mail_loop.specs.declared.out.Out.TheVariants.{Say, Read, Submit, Bye}
use Rattle.mail_loop.specs.Session.{IsBye, Session, Speech, Took, is_answer, is_said, session_by, size_in, took}
use Rattle.mail_loop.specs.Turn.{Turn, lost, says}

-- what its session answers
abbrev pub of_imap : ImapOut → Out
of_imap (Says said) = Say said
of_imap (Reads bodies) = Read bodies
of_imap (Submits asked) = Submit asked
of_imap (Goodbye said) = Bye said

abbrev pub took_by : session.Took → Took Dialog
took_by t = took (of_imap t.out) t.dialog

-- an ask whose sealing failed ends the dialog
pub ends_awaited : (s : MailStore) (stamps : List (BoxId × ℕ)) (d : Dialog) (a : Awaits) → session.is_outcome a ≡ true → IsBye (of_imap (session.settle_in s stamps d a (Err Disk)).out)
ends_awaited s stamps d Nothing wrong = absurd (true≢false (sym wrong))
ends_awaited s stamps d (Texts tag wanted) wrong = absurd (true≢false (sym wrong))
ends_awaited s stamps d (Outcome tag pending) due = tt

-- without its texts it says why
pub says_awaited : (d : Dialog) (a : Awaits) (why : ReadFault) → session.is_texts a ≡ true → is_said (of_imap (session.heard_in d a (Err why)).out) ≡ true
says_awaited d Nothing why wrong = absurd (true≢false (sym wrong))
says_awaited d (Texts tag wanted) read_fault.Disk is = refl
says_awaited d (Texts tag wanted) read_fault.NoMemory is = refl
says_awaited d (Outcome tag pending) why wrong = absurd (true≢false (sym wrong))

-- what it says of an outcome asks nothing
answers_followed : (s : MailStore) (tag : List ℕ) (w : Word) (d : Dialog) (o : Option Selected) → is_answer (of_imap (session.follow s tag w d o).out) ≡ true
answers_followed s tag w d None = refl
answers_followed s tag w d (Some selected) = refl

answers_pending : (s : MailStore) (stamps : List (BoxId × ℕ)) (tag : List ℕ) (d : Dialog) (p : Pending) (outcome : Result Item SubmitFault)
    → is_answer (of_imap (session.settle_pending s stamps tag d p outcome).out) ≡ true
answers_pending s stamps tag d p (Err (IsRefused why)) = refl
answers_pending s stamps tag d p (Err Disk) = refl
answers_pending s stamps tag d p (Err Closed) = refl
answers_pending s stamps tag d (on.Select mailbox writes) (Ok item) = refl
answers_pending s stamps tag d (on.Fetch form rows texts) (Ok item) = refl
answers_pending s stamps tag d (on.Search by_uid numbers) (Ok item) = refl
answers_pending s stamps tag d (on.Store form silent rows) (Ok item) = refl
answers_pending s stamps tag d (on.Plain w) (Ok item) = refl
answers_pending s stamps tag d (on.Leave w) (Ok item) = refl
answers_pending s stamps tag d on.Close (Ok item) = refl
answers_pending s stamps tag d (on.List subscribed deep) (Ok item) = refl
answers_pending s stamps tag d (on.Status mailbox asked) (Ok item) = refl
answers_pending s stamps tag d (on.Follow w) (Ok item) = answers_followed s tag w d d.selected

pub answers_awaited : (s : MailStore) (stamps : List (BoxId × ℕ)) (d : Dialog) (a : Awaits) (outcome : Result Item SubmitFault) → is_answer (of_imap (session.settle_in s stamps d a outcome).out) ≡ true
answers_awaited s stamps d Nothing outcome = refl
answers_awaited s stamps d (Texts tag wanted) outcome = refl
answers_awaited s stamps d (Outcome tag pending) outcome = answers_pending s stamps tag (session.at_rest d) pending outcome

-- it asks for who is logged in
abbrev pub imap_speech : Speech Dialog
imap_speech = record {
  opening = session.opening;
  user = λ d. d.user;
  heard = λ d texts. took_by (session.heard d texts);
  settle = λ s stamps d outcome. took_by (session.settle s stamps d outcome);
  is_free = session.is_free;
  takes_texts = session.is_reading;
  is_due = session.is_due;
  opens_free = refl;
  opens_alone = refl;
  says_why = λ d why reading. says_awaited d d.awaits why reading;
  ends_at_fault = λ s stamps d due. ends_awaited s stamps d d.awaits due;
  answers_fault = λ s stamps d fault due. answers_awaited s stamps d d.awaits (Err fault);
  answers_further = λ s t stamps later d outcome other due further. absurd (true≢false (sym (answers_awaited s stamps d d.awaits outcome) ∙ further));
}

-- a command, or what is none
abbrev pub obeys : Kept → Dialog → Reading → Took Dialog
obeys kept d reading = took_by (session.hears_reading kept.house (store_of kept) (size_in kept) kept.deep d reading)

-- a literal is invited, and a bad line is refused
abbrev pub takes : Kept → Dialog → Next → Took Dialog
takes kept d (Command raw) = obeys kept d (command_of raw)
takes kept d (Mark length) = took (Say ready_text) d
takes kept d (Bad line) = took (Say (bad_line_text line)) d
takes kept d NotYet = took (Say []) d

-- what a command's tag is told of want of memory
abbrev pub memory_told : List ℕ → List ℕ
memory_told tag = tagged tag (IsToldRefused NoMemory)

-- The session found no memory for a command: the client is told. After a SELECT or EXAMINE no mailbox is selected, so that what
-- stands behind it in the stream is not done to the mailbox before; else the session is as it was.
abbrev pub out_of_memory_command : Kept → Dialog → Reading → Turn Dialog
out_of_memory_command kept d (Ok command) = says (memory_told command.tag) kept (session.without_memory command.what d)
out_of_memory_command kept d (Err why) = lost kept

-- only a command is told of want of memory
abbrev pub out_of_memory : Kept → Dialog → Next → Turn Dialog
out_of_memory kept d (Command raw) = out_of_memory_command kept d (command_of raw)
out_of_memory kept d (Mark length) = lost kept
out_of_memory kept d (Bad line) = lost kept
out_of_memory kept d NotYet = lost kept

abbrev pub imap_session : Session Dialog Next
imap_session = session_by imap_speech (λ at kept d next. takes kept d next) out_of_memory
