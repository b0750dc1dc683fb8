-- How many items a turn performs, hindered or not.
use Rattle.std.proofs.Common.{◌≡◌, ℕ, ◌+◌, ◌*◌, ◌≤◌, arith, Bool, true, false, true≢false, cond, List, [], ◌∷◌, ◌++◌, length, Option, None, Some, Result, Ok, Err, refl, sym, subst}
use Rattle.smtp_lines.specs.declared.line.SmtpLine.{SmtpLine}
use Rattle.smtp_session.specs.declared.dialog.Dialog.{Dialog}
use Rattle.smtp_session.specs.Dialog as smtp
use Rattle.imap_stream.specs.declared.next.Next.{Next}
use Rattle.imap_stream.specs.declared.next.Next.TheVariants.{Command, Ask as Mark, Bad, NotYet}
use Rattle.imap_lines.specs.Command.{Reading, command_of}
use Rattle.imap_session.specs.declared.dialog.Dialog.{Dialog as ImapDialog}
use Rattle.pop_session.specs.declared.dialog.Dialog.{Dialog as PopDialog}
use Rattle.verb_core.specs.declared.ask.SubmitFault.{SubmitFault}
use Rattle.verb_core.specs.declared.item.Item.{Item}
use Rattle.verb_core.specs.declared.mailbox.BoxId.{BoxId}
use Rattle.verb_core.specs.Store.{MailStore}
use Rattle.store_kept.specs.Kept.{Kept, store_of}
use Rattle.mail_loop.specs.declared.out.Out.{Out}
use Rattle.mail_loop.specs.declared.out.Out.TheVariants.{Say, Read, Submit, Bye}
use Rattle.mail_loop.specs.Asked.{Asked}
use Rattle.mail_loop.specs.Hindrance.{Hindrance, Clear, Refused, Textless, Unread, UnreadRefused, UnreadUnheard, Misread, Misled, Unstored, Unheard, Unanswered, Unsealed, Untold, Unwritten, UnwrittenUnheard, Halfway, Service, first_hindrance, other_hindrances, halfway, misread, row, service, stopped, unread, unread_unsaid, without_items, without_seals, without_texts, without_writes}
use Rattle.mail_loop.specs.ImapTurn as imap
use Rattle.mail_loop.specs.ImapTurn.{imap_session}
use Rattle.mail_loop.specs.PopTurn.{pop_session}
use Rattle.mail_loop.specs.Session.{Session, Speech, done, followed, hindered, is_answer, pursued, pursued_as, served, settled_as, submits}
use Rattle.mail_loop.specs.SmtpTurn as mail
use Rattle.mail_loop.specs.SmtpTurn.{smtp_session}
use Rattle.mail_loop.specs.State.{Seats, State, beside}
use Rattle.mail_loop.specs.Turn.{Turn, lost, says}
use Rattle.mail_loop.specs.Turns.{Outcome, goes_on, turn_of, turns}
use Rattle.cost_laws.specs.Items.{Performs}
use Rattle.cost_laws.proofs.Performing.{IsOfOne, does_one, fails_one, performs_both, performs_more, performs_none, unasked_one, unwritten_one}

-- ---- the table

-- what is asked of this desk performs an item, or none
abbrev IsOne : Kept → Service → Type 0
IsOne kept desk = IsOfOne kept desk.asked

-- what holds of a turn over each such desk holds of it hindered
module _ {D : Type 0} (n : ℕ) where
  row_few : (h : Hindrance) (at : ℕ) (kept : Kept) (told : Turn D) (turn : Service → Turn D) → Performs n kept told.kept
      → ((desk : Service) → IsOne kept desk → Performs n kept (turn desk).kept) → Performs n kept (row h at kept told turn).follows.kept
  row_few Clear at kept told turn t f = f (service at kept) (does_one at kept)
  row_few Refused at kept told turn t f = t
  row_few Textless at kept told turn t f = f (without_texts (service at kept)) (does_one at kept)
  row_few Unread at kept told turn t f = f (unread kept (service at kept)) (does_one at kept)
  row_few UnreadRefused at kept told turn t f = f (unread_unsaid kept (service at kept)) (does_one at kept)
  row_few UnreadUnheard at kept told turn t f = f (stopped (unread kept (service at kept))) (does_one at kept)
  row_few (Misread texts h) at kept told turn t f =
      row_few h at kept (lost kept) (λ desk. turn (misread kept texts desk)) (performs_none n kept) (λ desk one. f (misread kept texts desk) one)
  row_few (Misled said left) at kept told turn t f = f (service at kept) (does_one at kept)
  row_few Unstored at kept told turn t f = f (without_items kept (service at kept)) (unasked_one kept)
  row_few Unheard at kept told turn t f = performs_none n kept
  row_few Unanswered at kept told turn t f = f (stopped (service at kept)) (does_one at kept)
  row_few Unsealed at kept told turn t f = f (without_seals at kept (service at kept)) (fails_one at kept)
  row_few Untold at kept told turn t f = f (stopped (without_seals at kept (service at kept))) (fails_one at kept)
  row_few Unwritten at kept told turn t f = f (without_writes kept (service at kept)) (unwritten_one kept)
  row_few UnwrittenUnheard at kept told turn t f = f (stopped (without_writes kept (service at kept))) (unwritten_one kept)
  row_few (Halfway h) at kept told turn t f = f (halfway h (service at kept)) (does_one at kept)

-- ---- what follows a unit

settled_kept : {D : Type 0} (out : Out) (kept : Kept) (d : D) → (settled_as out kept d).kept ≡ kept
settled_kept (Say said) kept d = refl
settled_kept (Read bodies) kept d = refl
settled_kept (Submit asked) kept d = refl
settled_kept (Bye said) kept d = refl

module _ {D : Type 0} (speech : Speech D) where
  done_few : (n : ℕ) (old kept : Kept) (d : D) (a : Asked) → Performs n old a.kept → Performs n old (done speech kept d a).kept
  done_few n old kept d a p =
      let t = speech.settle (store_of a.kept) a.kept.stamps d a.outcome in
      subst (λ (k : Kept). Performs n old k) (sym (settled_kept t.out a.kept t.dialog)) p

  further_few : (desk : Service) (kept : Kept) (d : D) (a : Asked) (out : Out) (e : D) → Performs 1 kept a.kept → Performs 2 kept (pursued_as speech desk kept d a out e).kept
  further_few desk kept d a (Say said) e p = performs_more 1 2 kept _ (omega arith) (done_few 1 kept kept d a p)
  further_few desk kept d a (Read bodies) e p = performs_more 1 2 kept _ (omega arith) (done_few 1 kept kept d a p)
  further_few desk kept d a (Bye said) e p = performs_more 1 2 kept _ (omega arith) (done_few 1 kept kept d a p)
  further_few desk kept d a (Submit asked) e p =
      performs_both 1 1 kept a.kept _ p
      (row_few 1 desk.further desk.at a.kept (lost a.kept) (λ later. done speech a.kept e (later.asked (speech.user e) asked)) (performs_none 1 a.kept)
      (λ later one. done_few 1 a.kept a.kept e (later.asked (speech.user e) asked) (one (speech.user e) asked)))

  alone_few : (desk : Service) (kept : Kept) (d : D) (a : Asked) (out : Out) (e : D) → is_answer out ≡ true → Performs 1 kept a.kept → Performs 1 kept (pursued_as speech desk kept d a out e).kept
  alone_few desk kept d a (Say said) e answers p = done_few 1 kept kept d a p
  alone_few desk kept d a (Read bodies) e answers p = done_few 1 kept kept d a p
  alone_few desk kept d a (Bye said) e answers p = done_few 1 kept kept d a p
  alone_few desk kept d a (Submit asked) e answers p = absurd (true≢false (sym answers))

  -- an ask of the dialog performs so few items, with what it leads to
  abbrev Pursues : ℕ → Type 0
  Pursues n = (desk : Service) (kept : Kept) (d : D) (a : Asked) → Performs 1 kept a.kept → Performs n kept (pursued speech desk kept d a).kept

  pursues_two : Pursues 2
  pursues_two desk kept d a p = let t = speech.settle (store_of a.kept) a.kept.stamps d a.outcome in further_few desk kept d a t.out t.dialog p

  pursues_one : ((s : MailStore) (stamps : List (BoxId × ℕ)) (d : D) (outcome : Result Item SubmitFault) → is_answer (speech.settle s stamps d outcome).out ≡ true) → Pursues 1
  pursues_one answers desk kept d a p =
      let t = speech.settle (store_of a.kept) a.kept.stamps d a.outcome in
      alone_few desk kept d a t.out t.dialog (answers (store_of a.kept) a.kept.stamps d a.outcome) p

  module _ (n : ℕ) (pursues : Pursues n) where
    submits_few : (desk : Service) (kept : Kept) (out : Out) (d : D) → IsOne kept desk → Performs n kept (submits speech desk kept out d).kept
    submits_few desk kept (Say said) d one = performs_none n kept
    submits_few desk kept (Bye said) d one = performs_none n kept
    submits_few desk kept (Read bodies) d one = performs_none n kept
    submits_few desk kept (Submit asked) d one = pursues desk kept d (desk.asked (speech.user d) asked) (one (speech.user d) asked)

    followed_few : (desk : Service) (kept : Kept) (out : Out) (d : D) → IsOne kept desk → Performs n kept (followed speech desk kept out d).kept
    followed_few desk kept (Say said) d one = performs_none n kept
    followed_few desk kept (Bye said) d one = performs_none n kept
    followed_few desk kept (Read bodies) d one = let t = speech.heard d (desk.texts bodies) in submits_few desk kept t.out t.dialog one
    followed_few desk kept (Submit asked) d one = pursues desk kept d (desk.asked (speech.user d) asked) (one (speech.user d) asked)

-- a unit performs so few items, where the session finds memory for it or not
hindered_few : {D U : Type 0} (session : Session D U) (n : ℕ) → Pursues session.speech n → ((kept : Kept) (d : D) (u : U) → (session.runs_out_of_memory kept d u).kept ≡ kept)
    → (h : Hindrance) (at : ℕ) (kept : Kept) (others : Seats) (d : D) (u : U) → Performs n kept (hindered session h at kept others d u).kept
hindered_few session n pursues lost_as h at kept others d u =
    let t = session.takes at kept others d u in
    row_few n h at kept (session.runs_out_of_memory kept d u) (λ desk. served session desk at kept others d u)
    (subst (λ (k : Kept). Performs n kept k) (sym (lost_as kept d u)) (performs_none n kept))
    (λ desk one. followed_few session.speech n pursues desk kept t.out t.dialog one)

-- ---- the sessions

lost_if : (b : Bool) (kept : Kept) (d : Dialog) → (cond b (lost {D = Dialog} kept) (says mail.memory_told kept d)).kept ≡ kept
lost_if true kept d = refl
lost_if false kept d = refl

smtp_lost : (kept : Kept) (d : Dialog) (line : SmtpLine) → (smtp_session.runs_out_of_memory kept d line).kept ≡ kept
smtp_lost kept d line = lost_if (smtp.is_writing d) kept d

pub smtp_one : (h : Hindrance) (at : ℕ) (kept : Kept) (others : Seats) (d : Dialog) (line : SmtpLine) → Performs 1 kept (hindered smtp_session h at kept others d line).kept
smtp_one h at kept others d line =
    hindered_few smtp_session 1 (pursues_one smtp_session.speech (λ s stamps e outcome. mail.answers (smtp.host_due e.transaction) outcome)) smtp_lost h at kept others d line

reading_lost : (kept : Kept) (d : ImapDialog) (r : Reading) → (imap.out_of_memory_command kept d r).kept ≡ kept
reading_lost kept d (Ok command) = refl
reading_lost kept d (Err why) = refl

imap_lost : (kept : Kept) (d : ImapDialog) (next : Next) → (imap_session.runs_out_of_memory kept d next).kept ≡ kept
imap_lost kept d (Command raw) = reading_lost kept d (command_of raw)
imap_lost kept d (Mark length) = refl
imap_lost kept d (Bad line) = refl
imap_lost kept d NotYet = refl

pub imap_one : (h : Hindrance) (at : ℕ) (kept : Kept) (others : Seats) (d : ImapDialog) (next : Next) → Performs 1 kept (hindered imap_session h at kept others d next).kept
imap_one h at kept others d next =
    hindered_few imap_session 1 (pursues_one imap_session.speech (λ s stamps e outcome. imap.answers_awaited s stamps e e.awaits outcome)) imap_lost h at kept others d next

-- what is not whole yet performs nothing
not_yet_none : (h : Hindrance) (at : ℕ) (kept : Kept) (others : Seats) (d : ImapDialog) → Performs 0 kept (hindered imap_session h at kept others d NotYet).kept
not_yet_none h at kept others d =
    row_few 0 h at kept (lost kept) (λ desk. served imap_session desk at kept others d NotYet) (performs_none 0 kept) (λ desk one. performs_none 0 kept)

pub pop_two : (h : Hindrance) (at : ℕ) (kept : Kept) (others : Seats) (d : PopDialog) (line : SmtpLine) → Performs 2 kept (hindered pop_session h at kept others d line).kept
pop_two h at kept others d line = hindered_few pop_session 2 (pursues_two pop_session.speech) (λ kept d line. refl) h at kept others d line

-- ---- many turns

-- so many items at most, by what each unit performs
abbrev pub most_of : {U : Type 0} → (U → ℕ) → List U → ℕ
most_of weight [] = 0
most_of weight (u ∷ us) = weight u + most_of weight us

goes_few : {D : Type 0} (m n : ℕ) (old : Kept) (o : Outcome D) (e : Option D) (more : State → D → Outcome D) → Performs m old o.state.kept
    → ((s : State) (d : D) → Performs n s.kept (more s d).state.kept) → Performs (m + n) old (goes_on o e more).state.kept
goes_few m n old o None more p q = performs_more m (m + n) old _ (omega arith) p
goes_few m n old o (Some d) more p q = performs_both m n old o.state.kept _ p (q o.state d)

module _ {D U : Type 0} (session : Session D U) (weight : U → ℕ) (at conn : ℕ)
    (each : (h : Hindrance) (kept : Kept) (others : Seats) (d : D) (u : U) → Performs (weight u) kept (hindered session h at kept others d u).kept) where
  turns_few : (hs : List Hindrance) (s : State) (d : D) (us : List U) → Performs (most_of weight us) s.kept (turns (turn_of session at conn) hs s d us).state.kept
  turns_few hs s d [] = performs_none 0 s.kept
  turns_few hs s d (u ∷ us) =
      let o : Outcome D = turn_of session at conn (first_hindrance hs) s d u in
      goes_few (weight u) (most_of weight us) s.kept o o.dialog (λ t e. turns (turn_of session at conn) (other_hindrances hs) t e us)
      (each (first_hindrance hs) s.kept (beside conn s.seats) d u) (λ t e. turns_few (other_hindrances hs) t e us)

pub one_each : {U : Type 0} (us : List U) → most_of (λ u. 1) us ≤ length us * 1
one_each [] = omega arith
one_each (u ∷ us) = let h = one_each us in omega (arith, h)

two_each : {U : Type 0} (us : List U) → most_of (λ u. 2) us ≤ length us * 2
two_each [] = omega arith
two_each (u ∷ us) = let h = two_each us in omega (arith, h)

-- what is whole counts
abbrev pub is_unit : Next → ℕ
is_unit (Command raw) = 1
is_unit (Mark length) = 1
is_unit (Bad line) = 1
is_unit NotYet = 0

unit_one : (next : Next) → is_unit next ≤ 1
unit_one (Command raw) = omega arith
unit_one (Mark length) = omega arith
unit_one (Bad line) = omega arith
unit_one NotYet = omega arith

pub nexts_each : (said : List Next) → most_of is_unit (said ++ NotYet ∷ []) ≤ length said * 1
nexts_each [] = omega arith
nexts_each (next ∷ said) = let h = nexts_each said in let one = unit_one next in omega (arith, h, one)

next_few : (at : ℕ) (h : Hindrance) (kept : Kept) (others : Seats) (d : ImapDialog) (next : Next) → Performs (is_unit next) kept (hindered imap_session h at kept others d next).kept
next_few at h kept others d (Command raw) = imap_one h at kept others d (Command raw)
next_few at h kept others d (Mark length) = imap_one h at kept others d (Mark length)
next_few at h kept others d (Bad line) = imap_one h at kept others d (Bad line)
next_few at h kept others d NotYet = not_yet_none h at kept others d

pub smtp_turns : (hs : List Hindrance) (at conn : ℕ) (s : State) (d : Dialog) (lines : List SmtpLine)
    → Performs (length lines * 1) s.kept (turns (turn_of smtp_session at conn) hs s d lines).state.kept
smtp_turns hs at conn s d lines =
    performs_more _ _ s.kept _ (one_each lines) (turns_few smtp_session (λ line. 1) at conn (λ h kept others e line. smtp_one h at kept others e line) hs s d lines)

pub pop_turns : (hs : List Hindrance) (at conn : ℕ) (s : State) (d : PopDialog) (lines : List SmtpLine)
    → Performs (length lines * 2) s.kept (turns (turn_of pop_session at conn) hs s d lines).state.kept
pop_turns hs at conn s d lines =
    performs_more _ _ s.kept _ (two_each lines) (turns_few pop_session (λ line. 2) at conn (λ h kept others e line. pop_two h at kept others e line) hs s d lines)

pub imap_turns : (hs : List Hindrance) (at conn : ℕ) (s : State) (d : ImapDialog) (said : List Next)
    → Performs (length said * 1) s.kept (turns (turn_of imap_session at conn) hs s d (said ++ NotYet ∷ [])).state.kept
imap_turns hs at conn s d said =
    performs_more _ _ s.kept _ (nexts_each said) (turns_few imap_session is_unit at conn (λ h kept others e next. next_few at h kept others e next) hs s d (said ++ NotYet ∷ []))
