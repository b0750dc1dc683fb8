-- Turns of an SMTP client: what its session gives for a line.
use Rattle.std.proofs.Common.{◌≡◌, ℕ, Bool, cond, not, [], true, false, List, ◌++◌, None, Some, Option, Result, Ok, Err, length, nat_le, codes, bytes_eq, option_map, unwrap_or, refl, ap, subst, sym, ◌∙◌, inl, inr}
use Rattle.smtp_lines.specs.declared.line.SmtpLine.{SmtpLine}
use Rattle.smtp_lines.specs.declared.command.SmtpCommand.TheVariants.{Helo, Ehlo, Mail, Rcpt, Data, Rset, Noop, Vrfy, Quit}
use Rattle.smtp_lines.specs.Command.{Reading, command_of}
use Rattle.verb_core.specs.declared.conf.House.{House}
use Rattle.verb_core.specs.declared.conf.Conf.{Conf}
use Rattle.seal_log.specs.declared.fault.ReadFault.{ReadFault}
use Rattle.mail_loop.specs.declared.out.Out.TheVariants as gives
use Rattle.verb_core.specs.declared.ask.SubmitFault.{SubmitFault}
use Rattle.verb_core.specs.declared.item.Item.{Item}
use Rattle.verb_core.specs.Live.{is_users}
use Rattle.smtp_session.specs.declared.answer.SmtpOut.{SmtpOut}
use Rattle.smtp_session.specs.declared.answer.SmtpOut.TheVariants.{Nothing, Say, Mail as Asks, Bye}
use Rattle.smtp_session.specs.declared.dialog.Dialog.{Dialog}
use Rattle.smtp_session.specs.declared.dialog.Transaction.{Transaction}
use Rattle.smtp_session.specs.declared.dialog.Transaction.TheVariants.{Idle, Begun, Writing, Due}
use Rattle.smtp_session.specs.Body.{body_of}
use Rattle.smtp_session.specs.Recipients.{is_here, put_once}
use Rattle.smtp_session.specs.Text.{add_line}
use Rattle.smtp_session.specs.declared.answer.Answer.TheVariants.{Done, Begin, BadSequence, TooManyRecipients, NoMailbox}
use Rattle.std.specs.Str.{str_to_ascii_lowercase}
use Rattle.smtp_session.specs.Dialog as session
use Rattle.store_kept.specs.Kept.{Kept, store_of}
use Rattle.verb_bytes.specs.declared.journal.JournalRecord.{JournalRecord}
use Rattle.mail_loop.specs.TurnCounts.{TurnCounts}
use Rattle.mail_loop.specs.declared.reply.Reply.{Reply}
use Rattle.mail_loop.specs.State.{Seats}
use Rattle.mail_loop.specs.Turn.{Turn, lost, says}
use Rattle.mail_loop.specs.Session.{followed, hindered, is_answer, submits}
use Rattle.mail_loop.specs.Hindrance.{Hindrance, Refused, Unheard, Service, under}
use Rattle.mail_loop.specs.SmtpTurn.{answers, is_free, memory_told, of_smtp, smtp_session, smtp_speech, took_by}
use Rattle.mail_loop.specs.Took.{Adds, AsksAs, GoesOn, IsAwaitedLast, IsNone, Takes}
use Rattle.mail_loop.proofs.Units.{begun_turn}
use Rattle.mail_loop.proofs.Telling.{closed, told_whole}

-- no outcome is due where the session is free, and it is free where none is
pub none_due : (d : Dialog) → is_free d ≡ true → session.is_due d ≡ false
none_due d free = by_test (session.is_due d) free
  where
    by_test : (b : Bool) → not b ≡ true → b ≡ false
    by_test true wrong = sym wrong
    by_test false free = refl

pub is_at_rest : (d : Dialog) → session.is_due d ≡ false → is_free d ≡ true
is_at_rest d none = ap (λ (b : Bool). not b) none

-- something is asked at the end of a text alone, and by no user, and then its outcome is due; else none is due
abbrev pub AsksAtEnd : Dialog → SmtpOut → Dialog → Type 0
AsksAtEnd d Nothing e = session.is_due e ≡ false
AsksAtEnd d (Say said) e = session.is_due e ≡ false
AsksAtEnd d (Bye said) e = session.is_due e ≡ false
AsksAtEnd d (Asks ask) e = (session.is_writing d ≡ true) × (session.is_due e ≡ true) × (is_users ask ≡ false)

-- nothing is asked, and no outcome is due
abbrev IsQuietOut : SmtpOut → Dialog → Type 0
IsQuietOut Nothing e = session.is_due e ≡ false
IsQuietOut (Say said) e = session.is_due e ≡ false
IsQuietOut (Bye said) e = session.is_due e ≡ false
IsQuietOut (Asks ask) e = ⊥

abbrev IsQuiet : session.DialogTurn → Type 0
IsQuiet t = IsQuietOut t.out t.dialog

quiet_if : (b : Bool) (t u : session.DialogTurn) → IsQuiet t → IsQuiet u → IsQuiet (cond b t u)
quiet_if true t u first second = first
quiet_if false t u first second = second

quiet_asks : (d : Dialog) (out : SmtpOut) (e : Dialog) → IsQuietOut out e → AsksAtEnd d out e
quiet_asks d Nothing e is = is
quiet_asks d (Say said) e is = is
quiet_asks d (Bye said) e is = is
quiet_asks d (Asks ask) e is = absurd is

begin_quiet : (house : House) (client : Option (List ℕ)) (t : Transaction) (path : List ℕ) → session.is_due_in t ≡ false → IsQuiet (session.begin house client t path)
begin_quiet house (Some client) Idle path free = refl
begin_quiet house (Some client) (Begun sent to) path free = free
begin_quiet house (Some client) (Writing sent to text) path free = free
begin_quiet house (Some client) (Due host) path free = free
begin_quiet house None Idle path free = free
begin_quiet house None (Begun sent to) path free = free
begin_quiet house None (Writing sent to text) path free = free
begin_quiet house None (Due host) path free = free

receive_quiet : (house : House) (d : Dialog) (t : Transaction) (local : List ℕ) (known : Bool) → session.is_due d ≡ false → IsQuiet (session.receive house d t local known)
receive_quiet house d Idle local known free = free
receive_quiet house d (Writing path to text) local known free = free
receive_quiet house d (Due host) local known free = free
receive_quiet house d (Begun path to) local known free =
    let added = session.says house Done (session.with_transaction d (Begun path (put_once (str_to_ascii_lowercase local) to))) in
    let unknown = session.says house NoMailbox d in
    quiet_if (nat_le 1000 (length to)) (session.says house TooManyRecipients d) (cond known added unknown) free (quiet_if known added unknown refl free)

due_with_text : (t : Transaction) → session.is_due_in (session.with_text t) ≡ session.is_due_in t
due_with_text Idle = refl
due_with_text (Begun path to) = refl
due_with_text (Writing path to text) = refl
due_with_text (Due host) = refl

write_quiet : (house : House) (d : Dialog) → session.is_due d ≡ false → IsQuiet (session.write house d)
write_quiet house d free =
    quiet_if (session.has_recipient d.transaction) (session.says house Begin (session.with_transaction d (session.with_text d.transaction))) (session.says house BadSequence d)
    (due_with_text d.transaction ∙ free) free

obey_quiet : (house : House) (conf : Conf) (d : Dialog) (r : Reading) → session.is_due d ≡ false → IsQuiet (session.obey house conf d r)
obey_quiet house conf d (Ok (Helo client)) free = refl
obey_quiet house conf d (Ok (Ehlo client)) free = refl
obey_quiet house conf d (Ok (Mail path)) free = begin_quiet house d.client d.transaction path free
obey_quiet house conf d (Ok (Rcpt local domain)) free = receive_quiet house d d.transaction local (is_here house conf local domain) free
obey_quiet house conf d (Ok Data) free = write_quiet house d free
obey_quiet house conf d (Ok Rset) free = refl
obey_quiet house conf d (Ok (Noop rest)) free = free
obey_quiet house conf d (Ok (Vrfy what)) free = free
obey_quiet house conf d (Ok Quit) free = free
obey_quiet house conf d (Err refused) free = free

obey_asks : (house : House) (conf : Conf) (d : Dialog) (r : Reading) → session.is_due d ≡ false
    → AsksAtEnd d (session.obey house conf d r).out (session.obey house conf d r).dialog
obey_asks house conf d r free = quiet_asks d (session.obey house conf d r).out (session.obey house conf d r).dialog (obey_quiet house conf d r free)

end_asks : (house : House) (d : Dialog) (path : List ℕ) (to : List (List ℕ)) (body : Option (List ℕ)) → session.is_writing d ≡ true
    → AsksAtEnd d (session.end_text house d path to body).out (session.end_text house d path to body).dialog
end_asks house d path to None writing = refl
end_asks house d path to (Some body) writing = (writing, refl, refl)

text_asks : (house : House) (at : ℕ) (d : Dialog) (path : List ℕ) (to : List (List ℕ)) (text : Option (List ℕ)) (line : SmtpLine) → session.is_writing d ≡ true
    → AsksAtEnd d (session.take_text house at d path to text line).out (session.take_text house at d path to text line).dialog
text_asks house at d path to text line writing =
    let body = option_map (body_of house.host at (unwrap_or d.client []) path) text in
    let ends = session.end_text house d path to body in
    let goes_on = session.turns Nothing (session.with_transaction d (Writing path to (add_line text line))) in
    elim (bytes_eq line.bytes (codes ".")) as (λ b. AsksAtEnd d (cond b ends goes_on).out (cond b ends goes_on).dialog)
    [ true ↦ end_asks house d path to body writing | false ↦ refl ]

line_asks : (house : House) (conf : Conf) (at : ℕ) (client : Option (List ℕ)) (t : Transaction) (line : SmtpLine) → session.is_due_in t ≡ false
    → AsksAtEnd (record { client = client; transaction = t }) (session.turn house conf at (record { client = client; transaction = t }) line).out
    (session.turn house conf at (record { client = client; transaction = t }) line).dialog
line_asks house conf at client Idle line free = obey_asks house conf (record { client = client; transaction = Idle }) (command_of line) free
line_asks house conf at client (Begun path to) line free = obey_asks house conf (record { client = client; transaction = Begun path to }) (command_of line) free
line_asks house conf at client (Due host) line free = obey_asks house conf (record { client = client; transaction = Due host }) (command_of line) free
line_asks house conf at client (Writing path to text) line free =
    text_asks house at (record { client = client; transaction = Writing path to text }) path to text line refl

-- what a line gives
pub line_gives : (house : House) (conf : Conf) (at : ℕ) (d e : Dialog) (line : SmtpLine) (out : SmtpOut) → session.is_due d ≡ false
    → session.turn house conf at d line ≡ session.turns out e → AsksAtEnd d out e
line_gives house conf at d e line out free is =
    subst (λ (t : session.DialogTurn). AsksAtEnd d t.out t.dialog) is (line_asks house conf at d.client d.transaction line free)

-- no outcome is due once it was told
pub free_after : (d e : Dialog) (outcome : Result Item SubmitFault) (out : SmtpOut) → session.settle d outcome ≡ session.turns out e → is_free e ≡ true
free_after d e outcome out is = sym (ap (λ (t : session.DialogTurn). is_free t.dialog) is)

-- and it asked nothing
pub answered_after : (d e : Dialog) (outcome : Result Item SubmitFault) (out : SmtpOut) → session.settle d outcome ≡ session.turns out e → is_answer (of_smtp out) ≡ true
answered_after d e outcome out is = sym (ap (λ (t : session.DialogTurn). is_answer (of_smtp t.out)) is) ∙ answers (session.host_due d.transaction) outcome

-- it makes nothing of texts
pub free_goes_on : (texts : Result (List (List ℕ)) ReadFault) (said : List ℕ) (d : Dialog) → is_free d ≡ true → GoesOn smtp_speech texts (gives.Say said) d
free_goes_on (Ok texts) said d free = free
free_goes_on (Err why) said d free = free

-- what is awaited behind a line: no texts are wanted
pub awaited_of : (d : Dialog) (out : SmtpOut) (e : Dialog) → AsksAtEnd d out e → IsAwaitedLast smtp_speech (of_smtp out) e
awaited_of d Nothing e is = is_at_rest e is
awaited_of d (Say said) e is = is_at_rest e is
awaited_of d (Bye said) e is = is_at_rest e is
awaited_of d (Asks ask) e is = is.1

-- what is asked is no user's ask
pub asks_as_of : (d : Dialog) (out : SmtpOut) (e : Dialog) → AsksAtEnd d out e → AsksAs smtp_speech (of_smtp out) e
asks_as_of d Nothing e is = tt
asks_as_of d (Say said) e is = tt
asks_as_of d (Bye said) e is = tt
asks_as_of d (Asks ask) e is = is.2

-- what it gives is followed as what has its texts
followed_as : (desk : Service) (kept : Kept) (out : SmtpOut) (d : Dialog) → submits smtp_speech desk kept (of_smtp out) d ≡ followed smtp_speech desk kept (of_smtp out) d
followed_as desk kept Nothing d = refl
followed_as desk kept (Say said) d = refl
followed_as desk kept (Bye said) d = refl
followed_as desk kept (Asks ask) d = refl

-- ---- a line

-- what follows from what a line gives is its turn, whatever the other connections
pub line_turn : (S : List JournalRecord → TurnCounts → Type 0) (at : ℕ) (kept kept' : Kept) (d e e' : Dialog) (line : SmtpLine) (out : SmtpOut) (old new : Reply)
    → session.turn kept.house (store_of kept).conf at d line ≡ session.turns out e
    → (h : Hindrance) × Takes S (under h at kept (λ desk. submits smtp_speech desk kept (of_smtp out) e)) old kept' e' new
    → (h : Hindrance) × ((others : Seats) → Takes S (hindered smtp_session h at kept others d line) old kept' e' new)
line_turn S at kept kept' d e e' line out old new is t =
    let follows = subst (λ (f : Service → Turn Dialog). (h : Hindrance) × Takes S (under h at kept f) old kept' e' new) (λ j desk. followed_as desk kept out e j) t in
    let u = begun_turn smtp_session S at kept kept' [] d e e' line (of_smtp out) old new (ap took_by is) follows in
    (u.0, λ others. u.1)

-- no memory was found for a line of a text
pub out_of_memory_writing : (at : ℕ) (kept : Kept) (d e : Dialog) (line : SmtpLine) (old new : Reply) → new ≡ record old { closes = true }
    → (h : Hindrance) × ((others : Seats) → Takes IsNone (hindered smtp_session h at kept others d line) old kept e new)
out_of_memory_writing at kept d e line old new shut = (Unheard, λ others. closed kept kept e old new refl shut)

-- no memory was found for a command
pub out_of_memory_outside : (at : ℕ) (kept : Kept) (d : Dialog) (line : SmtpLine) (text : List ℕ) (old new : Reply) → session.is_writing d ≡ false → text ≡ memory_told
    → Adds text false old new → (h : Hindrance) × ((others : Seats) → Takes IsNone (hindered smtp_session h at kept others d line) old kept d new)
out_of_memory_outside at kept d line text old new outside is (inl e) = (
  Refused,
  λ others.
      subst (λ b. Takes IsNone (cond b (lost kept) (says memory_told kept d)) old kept d new) (sym outside)
      (told_whole memory_told kept d old new (e ∙ ap (λ (s : List ℕ). record old { said = old.said ++ s; closes = false }) is)),
)
out_of_memory_outside at kept d line text old new outside is (inr e) = (Unheard, λ others. closed kept kept d old new refl e)
