-- Turns of a POP3 client: what its session gives for a line, and the users whose maildrops are in use.
use Rattle.std.proofs.Common.{◌≡◌, ◌==◌, ◌&&◌, ℕ, Bool, cond, not, true, false, true≢false, List, [], ◌∷◌, ◌++◌, filter_map, Option, None, Some, Result, Ok, Err, IfOk, refl, ap, subst, sym, ◌∙◌, inl, inr}
use Rattle.std.specs.List.{cons_option}
use Rattle.undo_base.specs.declared.keys.User.{User}
use Rattle.undo_base.specs.declared.memory.NoMemory.{NoMemory as WantOfMemory}
use Rattle.smtp_lines.specs.declared.line.SmtpLine.{SmtpLine}
use Rattle.smtp_lines.specs.Line.{smtp_lines_of}
use Rattle.smtp_lines.specs.Lines.{rest_of}
use Rattle.seal_log.specs.declared.fault.ReadFault.{ReadFault}
use Rattle.verb_core.specs.declared.ask.SubmitFault.{SubmitFault}
use Rattle.verb_core.specs.declared.ask.SubmitFault.TheVariants.{Refused as IsRefused, Disk, Closed}
use Rattle.verb_core.specs.declared.conf.House.{House}
use Rattle.verb_core.specs.declared.item.Item.{Item}
use Rattle.verb_core.specs.declared.mailbox.Body.{Body}
use Rattle.verb_core.specs.declared.mailbox.BoxId.{BoxId}
use Rattle.verb_core.specs.Store.{MailStore}
use Rattle.pop_session.specs.declared.dialog.Awaits.{Awaits}
use Rattle.pop_session.specs.declared.dialog.Awaits.TheVariants.{Nothing, Text, Outcome}
use Rattle.pop_session.specs.declared.dialog.Dialog.{Dialog}
use Rattle.pop_session.specs.declared.dialog.Pending.TheVariants as on
use Rattle.pop_session.specs.declared.out.PopOut.{PopOut}
use Rattle.pop_session.specs.declared.out.PopOut.TheVariants.{Say as Says, Read as Reads, Submit as Submits, Bye as Goodbye}
use Rattle.pop_session.specs.Dialog as session
use Rattle.store_kept.specs.Kept.{Kept, store_of}
use Rattle.store_kept.specs.Texts.{all_bodies, has_text_kept}
use Rattle.verb_bytes.specs.declared.journal.JournalRecord.{JournalRecord}
use Rattle.mail_loop.specs.TurnCounts.{TurnCounts, none_counted}
use Rattle.mail_loop.specs.declared.reply.Reply.{Reply}
use Rattle.mail_loop.specs.State.{Seat, Seats, State, Smtp, Imap, Http, Pop, beside}
use Rattle.mail_loop.specs.Turn.{Turn, lost, says}
use Rattle.mail_loop.specs.Session.{followed, hindered, size_in}
use Rattle.mail_loop.specs.Turns.{Outcome as AfterTurns, after, goes_on, heard_by, hears_turns, pop_source, turn_of, turns}
use Rattle.mail_loop.specs.Hindrance.{Hindrance, Refused, Unheard, first_hindrance, other_hindrances, under}
use Rattle.mail_loop.specs.PopTurn.{in_use, is_fetching, is_read, memory_told, of_pop, pop_beside, pop_session, pop_speech, text_of, took_by, user_at, user_beside}
use Rattle.mail_loop.specs.Stands.{AreInUse}
use Rattle.mail_loop.specs.Took.{Adds, AreThere, AsksAs, GoesOn, IsAwaitedLast, IsNext, IsNone, ReadsOutOfMemory, Takes}
use Rattle.mail_loop.proofs.Dialogs.{textless_turn}
use Rattle.mail_loop.proofs.Units.{begun_turn}
use Rattle.mail_loop.proofs.Telling.{closed, lifted, told_whole}

-- ---- what a line gives

-- nothing is awaited behind the last words
free_at_last : (d : Dialog) → d ≡ session.opening → session.is_free d ≡ true
free_at_last d is = ap session.is_free is

pub next_of : (out : PopOut) (d : Dialog) → session.IsNext out d → IsNext pop_speech (of_pop out) d
next_of (Says said) d is = is
next_of (Goodbye said) d is = free_at_last d is
next_of (Reads body) d is = is
next_of (Submits ask) d is = is

-- who is logged in asks, or logs in
pub asks_as_of : (out : PopOut) (d : Dialog) → session.AsksAsUser out d → AsksAs pop_speech (of_pop out) d
asks_as_of (Says said) d is = tt
asks_as_of (Goodbye said) d is = tt
asks_as_of (Reads body) d is = tt
asks_as_of (Submits ask) d is = is.0 ∙ sym is.1

-- the text that a line wants is that of an item in force
pub there_of : (kept : Kept) (s : MailStore) (out : PopOut) → s ≡ store_of kept → session.ReadsOf s out → all_bodies (has_text_kept kept) (store_of kept).boxes ≡ true → AreThere kept (of_pop out)
there_of kept s (Says said) same reads there = tt
there_of kept s (Goodbye said) same reads there = tt
there_of kept s (Reads body) same reads there =
    ap (λ (b : Bool). b && true) (reads (has_text_kept kept) (ap (λ (t : MailStore). all_bodies (has_text_kept kept) t.boxes) same ∙ there))
there_of kept s (Submits ask) same reads there = tt

pub reading_of : (out : PopOut) (d : Dialog) → is_read out ≡ true → session.IsNext out d → session.is_reading d ≡ true
reading_of (Says said) d wrong is = absurd (true≢false (sym wrong))
reading_of (Goodbye said) d wrong is = absurd (true≢false (sym wrong))
reading_of (Reads body) d read is = is
reading_of (Submits ask) d wrong is = absurd (true≢false (sym wrong))

-- no memory was found for the text that is to be read
pub textless_line : (S : List JournalRecord → TurnCounts → Type 0) (at : ℕ) (kept : Kept) (out : PopOut) (d e : Dialog) (old new : Reply) → is_read out ≡ true → session.IsNext out d
    → S [] none_counted → ReadsOutOfMemory pop_speech kept d old e new
    → (h : Hindrance) × Takes S (under h at kept (λ desk. followed pop_speech desk kept (of_pop out) d)) old kept e new
textless_line S at kept (Says said) d e old new wrong is seals out_of_memory = absurd (true≢false (sym wrong))
textless_line S at kept (Goodbye said) d e old new wrong is seals out_of_memory = absurd (true≢false (sym wrong))
textless_line S at kept (Reads body) d e old new read is seals out_of_memory = textless_turn pop_speech S at kept (body ∷ []) d e old new is seals out_of_memory
textless_line S at kept (Submits ask) d e old new wrong is seals out_of_memory = absurd (true≢false (sym wrong))

-- ---- what was awaited

-- with its text the dialog asks, and without it says why
heard_last : (d : Dialog) (a : Awaits) (texts : Result (List (List ℕ)) ReadFault) → session.is_text a ≡ true → GoesOn pop_speech texts (of_pop (session.heard_in a (text_of texts) d).out) (session.heard_in a (text_of texts) d).dialog
heard_last d Nothing texts wrong = absurd (true≢false (sym wrong))
heard_last d (Text wanted) (Ok []) is = refl
heard_last d (Text wanted) (Ok (text ∷ texts)) is = refl
heard_last d (Text wanted) (Err why) is = refl
heard_last d (Outcome pending) texts wrong = absurd (true≢false (sym wrong))

pub goes_on_of : (d e : Dialog) (texts : Result (List (List ℕ)) ReadFault) (out : PopOut) → session.is_reading d ≡ true → session.heard d (text_of texts) ≡ session.took out e → GoesOn pop_speech texts (of_pop out) e
goes_on_of d e texts out reading is = subst (λ (t : session.Took). GoesOn pop_speech texts (of_pop t.out) t.dialog) is (heard_last d d.awaits texts reading)

-- neither reads again
heard_no_text : (d : Dialog) (a : Awaits) (text : Result (List ℕ) ReadFault) → session.is_text a ≡ true → is_read (session.heard_in a text d).out ≡ false
heard_no_text d Nothing text wrong = absurd (true≢false (sym wrong))
heard_no_text d (Text wanted) (Ok text) is = refl
heard_no_text d (Text wanted) (Err why) is = refl
heard_no_text d (Outcome pending) text wrong = absurd (true≢false (sym wrong))

pub none_read_of : (d e : Dialog) (text : Result (List ℕ) ReadFault) (out : PopOut) → session.is_reading d ≡ true → session.heard d text ≡ session.took out e → is_read out ≡ false
none_read_of d e text out reading is = sym (ap (λ (t : session.Took). is_read t.out) is) ∙ heard_no_text d d.awaits text reading

settled_no_text : (d : Dialog) (a : Awaits) (outcome : Result Item SubmitFault) → session.is_outcome a ≡ true → is_read (session.settle_in a outcome d).out ≡ false
settled_no_text d Nothing outcome wrong = absurd (true≢false (sym wrong))
settled_no_text d (Text wanted) outcome wrong = absurd (true≢false (sym wrong))
settled_no_text d (Outcome (on.Enter u drop)) (Ok item) due = refl
settled_no_text d (Outcome (on.Tell answer)) (Ok item) due = refl
settled_no_text d (Outcome (on.Mark mailbox keys)) (Ok item) due = refl
settled_no_text d (Outcome on.Remove) (Ok item) due = refl
settled_no_text d (Outcome (on.Enter u drop)) (Err (IsRefused why)) due = refl
settled_no_text d (Outcome (on.Tell answer)) (Err (IsRefused why)) due = refl
settled_no_text d (Outcome (on.Mark mailbox keys)) (Err (IsRefused why)) due = refl
settled_no_text d (Outcome on.Remove) (Err (IsRefused why)) due = refl
settled_no_text d (Outcome pending) (Err Disk) due = refl
settled_no_text d (Outcome pending) (Err Closed) due = refl

pub none_read_after : (d e : Dialog) (outcome : Result Item SubmitFault) (out : PopOut) → session.is_due d ≡ true → session.settle d outcome ≡ session.took out e → is_read out ≡ false
none_read_after d e outcome out due is = sym (ap (λ (t : session.Took). is_read t.out) is) ∙ settled_no_text (session.at_rest d) d.awaits outcome due

-- which call is due behind an outcome
pub awaited_last : (out : PopOut) (d : Dialog) → is_read out ≡ false → session.IsNext out d → IsAwaitedLast pop_speech (of_pop out) d
awaited_last (Says said) d none is = is
awaited_last (Goodbye said) d none is = free_at_last d is
awaited_last (Reads body) d wrong is = absurd (true≢false wrong)
awaited_last (Submits ask) d none is = is

-- ---- a line

-- what follows from what a line gives is its turn
pub line_turn : (S : List JournalRecord → TurnCounts → Type 0) (at : ℕ) (kept kept' : Kept) (users : List User) (d e e' : Dialog) (line : SmtpLine) (out : PopOut) (old new : Reply)
    → session.turn kept.house (store_of kept) kept.stamps (size_in kept) users d line ≡ session.took out e
    → (h : Hindrance) × Takes S (under h at kept (λ desk. followed pop_speech desk kept (of_pop out) e)) old kept' e' new
    → (h : Hindrance) × ((others : Seats) → Takes S (hindered (pop_beside users) h at kept others d line) old kept' e' new)
line_turn S at kept kept' users d e e' line out old new is t =
    let u = begun_turn (pop_beside users) S at kept kept' [] d e e' line (of_pop out) old new (ap took_by is) t in
    (u.0, λ others. u.1)

-- no memory was found for a line
pub out_of_memory_line : (S : List JournalRecord → TurnCounts → Type 0) (at : ℕ) (kept : Kept) (users : List User) (d e : Dialog) (line : SmtpLine) (text : List ℕ) (old new : Reply) → e ≡ d → text ≡ memory_told → S [] none_counted
    → Adds text false old new → (h : Hindrance) × ((others : Seats) → Takes S (hindered (pop_beside users) h at kept others d line) old kept e new)
out_of_memory_line S at kept users d e line text old new same is none (inl added) = (
  Refused,
  λ others.
      lifted S (says memory_told kept d) old kept e new
      (subst (λ (f : Dialog). Takes IsNone (says memory_told kept d) old kept f new) (sym same)
      (told_whole memory_told kept d old new (added ∙ ap (λ (s : List ℕ). record old { said = old.said ++ s; closes = false }) is))) none,
)
out_of_memory_line S at kept users d e line text old new same is none (inr shut) = (Unheard, λ others. lifted S (lost {D = Dialog} kept) old kept e new (closed kept kept e old new refl shut) none)

-- ---- a stretch of lines

-- a turn is the same by the session that sees the others
same_turn : (users : List User) (at conn : ℕ) (h : Hindrance) (s : State) (d : Dialog) (line : SmtpLine) → users ≡ in_use (beside conn s.seats)
    → turn_of (pop_beside users) at conn h s d line ≡ turn_of pop_session at conn h s d line
same_turn users at conn h s d line used = ap (λ (us : List User). turn_of (pop_beside us) at conn h s d line) used

-- and so are the turns of all lines, since none touches another connection
pub same_turns : (users : List User) (at conn : ℕ) (hs : List Hindrance) (s : State) (d : Dialog) (lines : List SmtpLine) → users ≡ in_use (beside conn s.seats)
    → turns (turn_of (pop_beside users) at conn) hs s d lines ≡ turns (turn_of pop_session at conn) hs s d lines
same_turns users at conn hs s d [] used = refl
same_turns users at conn hs s d (line ∷ lines) used =
    let h = first_hindrance hs in
    let more = other_hindrances hs in
    ap (λ (o : AfterTurns Dialog). goes_on o o.dialog (λ t e. turns (turn_of (pop_beside users) at conn) more t e lines)) (same_turn users at conn h s d line used)
    ∙ behind_it (turn_of pop_session at conn h s d line).dialog
    (λ e. same_turns users at conn more (turn_of pop_session at conn h s d line).state e lines used)
  where
    behind_it : (o : Option Dialog)
        → ((e : Dialog) → turns (turn_of (pop_beside users) at conn) (other_hindrances hs) (turn_of pop_session at conn (first_hindrance hs) s d line).state e lines
        ≡ turns (turn_of pop_session at conn) (other_hindrances hs) (turn_of pop_session at conn (first_hindrance hs) s d line).state e lines)
        → goes_on (turn_of pop_session at conn (first_hindrance hs) s d line) o (λ t e. turns (turn_of (pop_beside users) at conn) (other_hindrances hs) t e lines)
        ≡ goes_on (turn_of pop_session at conn (first_hindrance hs) s d line) o (λ t e. turns (turn_of pop_session at conn) (other_hindrances hs) t e lines)
    behind_it None same = refl
    behind_it (Some e) same = let o = turn_of pop_session at conn (first_hindrance hs) s d line in ap (after o.said o.gone o.unsealed o.counts) (same e)

pub same_heard : (at conn : ℕ) (hs : List Hindrance) (s : State) (d : Dialog) (stream : List ℕ)
    → hears_turns pop_source pop_session hs at s conn d stream ≡ hears_turns pop_source (pop_beside (in_use (beside conn s.seats))) hs at s conn d stream
same_heard at conn hs s d stream = ap (heard_by (Pop (rest_of stream))) (sym (same_turns (in_use (beside conn s.seats)) at conn hs s d (smtp_lines_of stream) refl))

-- what the session was given is what the machine gives the dialog
pub line_is : (kept : Kept) (house : House) (store : MailStore) (stamps : List (BoxId × ℕ)) (sizes : Body → Option ℕ) (users : List User) (d e : Dialog) (line : SmtpLine) (out : PopOut)
    → house ≡ kept.house → store ≡ store_of kept → stamps ≡ kept.stamps → ((body : Body) → sizes body ≡ size_in kept body)
    → session.turn house store stamps sizes users d line ≡ session.took out e
    → session.turn kept.house (store_of kept) kept.stamps (size_in kept) users d line ≡ session.took out e
line_is kept house store stamps sizes users d e line out h s m z is = sym (λ j. session.turn (h j) (s j) (m j) (λ body. z body j) users d line) ∙ is

-- ---- whose maildrops are in use

-- a connection is passed over where it is the one that asks
pub passed_over : (conn : ℕ) (seats : Seats) → filter_map (user_beside conn) seats ≡ in_use (beside conn seats)
passed_over conn [] = refl
passed_over conn (e ∷ es) =
    elim (e.0 == conn) as (λ b. cons_option (cond b None (user_at e.1)) (filter_map (user_beside conn) es) ≡ in_use (cond (not b) (e ∷ beside conn es) (beside conn es))) [
      | true ↦ passed_over conn es
      | false ↦ ap (λ (us : List User). cons_option (user_at e.1) us) (passed_over conn es)
    ]

-- whoever they are
pub some_users : (found : Result (List User) WantOfMemory) → (users : List User) × IfOk found (λ us. us ≡ users)
some_users (Ok users) = (users, refl)
some_users (Err e) = ([], tt)

-- they are looked for where a POP3 client asks
pub found_for : (conn : ℕ) (seats : Seats) (seat : Seat) (users : Result (List User) WantOfMemory) → IfOk users (λ us. us ≡ in_use (beside conn seats)) → AreInUse conn seats seat users
found_for conn seats (Smtp unserved d) users are = tt
found_for conn seats (Imap stream d) users are = tt
found_for conn seats (Http came) users are = tt
found_for conn seats (Pop unserved d) users are = are

pub none_for : (conn : ℕ) (seats : Seats) (seat : Seat) (users : Result (List User) WantOfMemory) → is_fetching seat ≡ false → AreInUse conn seats seat users
none_for conn seats (Smtp unserved d) users is = tt
none_for conn seats (Imap stream d) users is = tt
none_for conn seats (Http came) users is = tt
none_for conn seats (Pop unserved d) users wrong = absurd (true≢false wrong)
