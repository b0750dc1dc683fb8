-- What a QUIT that was answered leaves, whatever hindered it.
use Rattle.std.proofs.Common.{◌≡◌, ◌==◌, ℕ, Bool, true, false, true≢false, List, [], ◌∷◌, Option, Some, Result, Ok, Err, refl, ap, subst, sym, ◌∙◌}
use Rattle.std.specs.Ordering.{eq_by_cmp}
use Rattle.undo_base.specs.declared.keys.Key.{Key}
use Rattle.undo_base.specs.declared.keys.User.{User}
use Rattle.smtp_lines.specs.declared.line.SmtpLine.{SmtpLine}
use Rattle.verb_core.specs.declared.ask.Ask.{Ask}
use Rattle.verb_core.specs.declared.ask.Refused.{Refused}
use Rattle.verb_core.specs.declared.ask.Refused.TheVariants as why
use Rattle.verb_core.specs.declared.ask.SubmitFault.{SubmitFault}
use Rattle.verb_core.specs.declared.ask.SubmitFault.TheVariants.{Refused as IsRefused, Disk, Closed}
use Rattle.verb_core.specs.declared.item.Item.{Item}
use Rattle.verb_core.specs.declared.mailbox.BoxId.{BoxId}
use Rattle.verb_core.specs.declared.mailbox.Entry.{Entry}
use Rattle.verb_core.specs.Boxes.{box_cmp, box_of, row_at}
use Rattle.verb_core.specs.Live.{live, mail_of}
use Rattle.verb_core.specs.Mailboxes.{without}
use Rattle.verb_core.specs.Names.{inbox}
use Rattle.verb_core.specs.Step.{step}
use Rattle.verb_core.specs.Store.{MailStore}
use Rattle.pop_session.specs.declared.answer.Answer.TheVariants.{Closing, DiskFault, NoMemory}
use Rattle.pop_session.specs.declared.command.Command.TheVariants.{Quit}
use Rattle.pop_session.specs.declared.dialog.Awaits.{Awaits}
use Rattle.pop_session.specs.declared.dialog.Awaits.TheVariants.{Outcome}
use Rattle.pop_session.specs.declared.dialog.Dialog.{Dialog}
use Rattle.pop_session.specs.declared.dialog.Pending.TheVariants as on
use Rattle.pop_session.specs.declared.dialog.Stage.{Stage}
use Rattle.pop_session.specs.declared.dialog.Stage.TheVariants.{Transaction}
use Rattle.pop_session.specs.declared.maildrop.Maildrop.{Maildrop}
use Rattle.pop_session.specs.Answer.{answer_text, ask_refused}
use Rattle.pop_session.specs.Command.{Reading, argument_of, command_of}
use Rattle.pop_session.specs.Dialog as pop
use Rattle.pop_session.specs.Maildrop.{marked_keys}
use Rattle.pop_session.specs.Removal.{after, after_quit}
use Rattle.store_kept.specs.Kept.{Kept, performed, store_of}
use Rattle.mail_desk.specs.Desk.{submitted_as}
use Rattle.mail_loop.specs.Asked.{Asked, unsealed_as}
use Rattle.mail_loop.specs.Hindrance.{Hindrance, Clear, Refused as IsToldWant, Textless, Unread, UnreadRefused, UnreadUnheard, Misread, Misled, Unstored, Unheard, Unanswered, Unsealed, Untold, Unwritten, UnwrittenUnheard, Halfway, Service, halfway, misread, row, service, stopped, unread, unread_unsaid, without_items, without_seals, without_texts, without_writes}
use Rattle.mail_loop.specs.PopTurn.{in_use, memory_told, of_pop, pop_session, pop_speech, took_by}
use Rattle.mail_loop.specs.Session.{done, followed, hindered, pursued, pursued_as, settled_as, size_in}
use Rattle.mail_loop.specs.State.{Seats}
use Rattle.mail_loop.specs.Turn.{Turn, lost, says, unanswered}
use Rattle.dialog_laws.specs.Quits.{OnlyGone}

-- ---- what is said

-- whether an answer is a good one: it begins with `+`
abbrev is_good : List ℕ → Bool
is_good [] = false
is_good (b ∷ bytes) = b == 43

bad_refusal : (r : Refused) → is_good (answer_text (ask_refused r)) ≡ false
bad_refusal why.Gone = refl
bad_refusal _ = refl

good_closing : is_good (answer_text Closing) ≡ true
good_closing = refl

-- what is said is no good answer, so it is not the last one of a QUIT
not_closing : (said : List ℕ) → is_good said ≡ false → said ≡ answer_text Closing → ⊥
not_closing said bad is = true≢false (sym good_closing ∙ ap is_good (sym is) ∙ bad)

-- ---- what the desk did

-- what the desk says was done was done, at a moment
abbrev Sound : ℕ → Kept → Service → Type 0
Sound at kept desk = (by : Option User) (ask : Ask) (item : Item) → (desk.asked by ask).outcome ≡ Ok item → (live (store_of kept) kept.next at by ask kept.deep ≡ Ok item) × ((desk.asked by ask).kept ≡ performed kept item)

does_sound : (kept : Kept) (due : Result Item Refused) (item : Item) → (submitted_as kept due).outcome ≡ Ok item → (due ≡ Ok item) × ((submitted_as kept due).kept ≡ performed kept item)
does_sound kept (Ok i) item is =
    let same : i ≡ item = ap (λ (r : Result Item SubmitFault). item_or i r) is in (ap Ok same, ap (performed kept) same)
  where
    item_or : Item → Result Item SubmitFault → Item
    item_or i (Ok j) = j
    item_or i (Err fault) = i
does_sound kept (Err r) item wrong = absurd (let w : ◌≡◌ {A = Result Item SubmitFault} (Err (IsRefused r)) (Ok item) = wrong in cc)

service_sound : (at : ℕ) (kept : Kept) → Sound at kept (service at kept)
service_sound at kept by ask item is = does_sound kept (live (store_of kept) kept.next at by ask kept.deep) item is

runs_out_of_memory_sound : (at : ℕ) (kept : Kept) (desk : Service) → Sound at kept (without_items kept desk)
runs_out_of_memory_sound at kept desk by ask item wrong = absurd (let w : ◌≡◌ {A = Result Item SubmitFault} (Err (IsRefused why.NoMemory)) (Ok item) = wrong in cc)

unwritten_sound : (at : ℕ) (kept : Kept) (desk : Service) → Sound at kept (without_writes kept desk)
unwritten_sound at kept desk by ask item wrong = absurd (let w : ◌≡◌ {A = Result Item SubmitFault} (Err (IsRefused why.NoMemory)) (Ok item) = wrong in cc)

never_sealed : (kept : Kept) (due : Result Item Refused) (item : Item) → (unsealed_as kept due).outcome ≡ Ok item → ⊥
never_sealed kept (Ok i) item wrong = let w : ◌≡◌ {A = Result Item SubmitFault} (Err Disk) (Ok item) = wrong in cc
never_sealed kept (Err r) item wrong = let w : ◌≡◌ {A = Result Item SubmitFault} (Err (IsRefused r)) (Ok item) = wrong in cc

fails_sound : (at : ℕ) (kept : Kept) (desk : Service) → Sound at kept (without_seals at kept desk)
fails_sound at kept desk by ask item wrong = absurd (never_sealed kept (live (store_of kept) kept.next at by ask kept.deep) item wrong)

-- What holds of each turn over a desk that is sound, of one that is lost, and of one that is not answered, holds whatever hinders it.
holds_under : {D : Type 0} → (P : Turn D → Type 0) (h : Hindrance) (at : ℕ) (kept : Kept) (told : Turn D) (f : Service → Turn D) → P told → P (lost kept) → ((t : Turn D) → P (unanswered t))
    → ((desk : Service) → Sound at kept desk → P (f desk)) → P (row h at kept told f).follows
holds_under P Clear at kept told f is none quiet each = each (service at kept) (service_sound at kept)
holds_under P IsToldWant at kept told f is none quiet each = is
holds_under P Textless at kept told f is none quiet each = each (without_texts (service at kept)) (service_sound at kept)
holds_under P Unread at kept told f is none quiet each = each (unread kept (service at kept)) (service_sound at kept)
holds_under P UnreadRefused at kept told f is none quiet each = each (unread_unsaid kept (service at kept)) (service_sound at kept)
holds_under P UnreadUnheard at kept told f is none quiet each = quiet (f (stopped (unread kept (service at kept))))
holds_under P (Misread texts h) at kept told f is none quiet each = holds_under P h at kept (lost kept) (λ desk. f (misread kept texts desk)) none none quiet (λ desk sound. each (misread kept texts desk) sound)
holds_under P (Misled said left) at kept told f is none quiet each = each (service at kept) (service_sound at kept)
holds_under P Unstored at kept told f is none quiet each = each (without_items kept (service at kept)) (runs_out_of_memory_sound at kept (service at kept))
holds_under P Unheard at kept told f is none quiet each = none
holds_under P Unanswered at kept told f is none quiet each = quiet (f (stopped (service at kept)))
holds_under P Unsealed at kept told f is none quiet each = each (without_seals at kept (service at kept)) (fails_sound at kept (service at kept))
holds_under P Untold at kept told f is none quiet each = quiet (f (stopped (without_seals at kept (service at kept))))
holds_under P Unwritten at kept told f is none quiet each = each (without_writes kept (service at kept)) (unwritten_sound at kept (service at kept))
holds_under P UnwrittenUnheard at kept told f is none quiet each = quiet (f (stopped (without_writes kept (service at kept))))
holds_under P (Halfway h) at kept told f is none quiet each = each (halfway h (service at kept)) (service_sound at kept)

-- ---- a QUIT

-- without no key all stay
without_none : (entries : List Entry) → without [] entries ≡ entries
without_none [] = refl
without_none (e ∷ es) = ap (λ (l : List Entry). e ∷ l) (without_none es)

none_gone : (u : User) (s : MailStore) → OnlyGone u [] s s
none_gone u s = record { gone = sym (without_none (mail_of s (Some u) inbox)); others = λ id apart. refl }

-- the laws of what a QUIT asks
abbrev pub TakesMarked : Type 0
TakesMarked = (s : MailStore) (u : User) (number at next later : ℕ) (keys : List Key) → mail_of (after_quit s u number at next later keys) (Some u) inbox ≡ without keys (mail_of s (Some u) inbox)

abbrev pub KeepsOthers : Type 0
KeepsOthers = (s : MailStore) (u : User) (number at next later : ℕ) (keys : List Key) (id : BoxId) → eq_by_cmp box_cmp (box_of u inbox) id ≡ false → row_at id (after_quit s u number at next later keys).boxes ≡ row_at id s.boxes

abbrev pub DoesAsAsked : Type 0
DoesAsAsked = (s : MailStore) (u : User) (number at : ℕ) (ask : Ask) (deep : Bool) (item : Item) → live s number at (Some u) ask deep ≡ Ok item → (step s item).0 ≡ after s u number at ask

module _ (marked : TakesMarked) (kept_others : KeepsOthers) (does_it : DoesAsAsked) (kept : Kept) (u : User) (drop : Maildrop) (keys : List Key) where
  -- what a turn must leave where it was answered so
  abbrev Leaves : Turn Dialog → Type 0
  Leaves t = t.said ≡ answer_text Closing → OnlyGone u keys (store_of kept) (store_of t.kept)

  silent : (k : Kept) → Leaves (lost k)
  silent k said = absurd (not_closing [] refl said)

  unsaid : (t : Turn Dialog) → Leaves (unanswered t)
  unsaid t said = absurd (not_closing [] refl said)

  -- QUIT is in UPDATE: the outcome of its STORE is awaited, and then that of its EXPUNGE
  abbrev storing : Dialog
  storing = record { stage = Transaction u drop; awaits = Outcome (on.Mark inbox keys) }

  abbrev removing : Dialog
  removing = record { stage = Transaction u drop; awaits = Outcome on.Remove }

  -- the EXPUNGE is done, or what is said is no good answer
  expunged_as : (at later : ℕ) (k : Kept) (a : Asked) → store_of k ≡ after (store_of kept) u kept.next at (pop.store_of keys)
      → ((item : Item) → a.outcome ≡ Ok item → (live (store_of k) k.next later (Some u) (pop.expunge_of keys) k.deep ≡ Ok item) × (a.kept ≡ performed k item))
      → (outcome : Result Item SubmitFault) → a.outcome ≡ outcome
      → (let t = took_by (pop.settle removing outcome) in Leaves (settled_as t.out a.kept t.dialog))
  expunged_as at later k a stored sound (Ok item) is said =
      let does = sound item is in
      let left : store_of a.kept ≡ after_quit (store_of kept) u kept.next at k.next later keys =
      ap store_of does.1 ∙ does_it (store_of k) u k.next later (pop.expunge_of keys) k.deep item does.0 ∙ ap (λ (s : MailStore). after s u k.next later (pop.expunge_of keys)) stored in
      subst (λ (s : MailStore). OnlyGone u keys (store_of kept) s) (sym left)
      (record { gone = marked (store_of kept) u kept.next at k.next later keys; others = kept_others (store_of kept) u kept.next at k.next later keys })
  expunged_as at later k a stored sound (Err (IsRefused r)) is said = absurd (not_closing (answer_text (ask_refused r)) (bad_refusal r) said)
  expunged_as at later k a stored sound (Err Disk) is said = absurd (not_closing (answer_text DiskFault) refl said)
  expunged_as at later k a stored sound (Err Closed) is said = absurd (not_closing (answer_text DiskFault) refl said)

  -- the STORE is done and the EXPUNGE asked, or what is said is no good answer
  stored_as : (desk : Service) (at : ℕ) (a : Asked)
      → ((item : Item) → a.outcome ≡ Ok item → (live (store_of kept) kept.next at (Some u) (pop.store_of keys) kept.deep ≡ Ok item) × (a.kept ≡ performed kept item))
      → (outcome : Result Item SubmitFault) → a.outcome ≡ outcome
      → (let t = took_by (pop.settle storing outcome) in Leaves (pursued_as pop_speech desk kept storing a t.out t.dialog))
  stored_as desk at a sound (Ok item) is =
      let does = sound item is in
      let stored : store_of a.kept ≡ after (store_of kept) u kept.next at (pop.store_of keys) = ap store_of does.1 ∙ does_it (store_of kept) u kept.next at (pop.store_of keys) kept.deep item does.0 in
      let f : Service → Turn Dialog = λ later. done pop_speech a.kept removing (later.asked (Some u) (pop.expunge_of keys)) in
      holds_under Leaves desk.further desk.at a.kept (lost a.kept) f (silent a.kept) (silent a.kept) unsaid
      (λ later fair. let b = later.asked (Some u) (pop.expunge_of keys) in expunged_as at desk.at a.kept b stored (λ item is. fair (Some u) (pop.expunge_of keys) item is) b.outcome refl)
  stored_as desk at a sound (Err (IsRefused r)) is = λ said. absurd (not_closing (answer_text (ask_refused r)) (bad_refusal r) (ap said_of (sym is) ∙ said))
    where
      said_of : Result Item SubmitFault → List ℕ
      said_of outcome = let t = took_by (pop.settle storing outcome) in (settled_as t.out a.kept t.dialog).said
  stored_as desk at a sound (Err Disk) is = λ said. absurd (not_closing (answer_text DiskFault) refl (ap said_of (sym is) ∙ said))
    where
      said_of : Result Item SubmitFault → List ℕ
      said_of outcome = let t = took_by (pop.settle storing outcome) in (settled_as t.out a.kept t.dialog).said
  stored_as desk at a sound (Err Closed) is = λ said. absurd (not_closing (answer_text DiskFault) refl (ap said_of (sym is) ∙ said))
    where
      said_of : Result Item SubmitFault → List ℕ
      said_of outcome = let t = took_by (pop.settle storing outcome) in (settled_as t.out a.kept t.dialog).said

  -- what comes of a QUIT of these
  quits_as : (desk : Service) (at : ℕ) → Sound at kept desk → Leaves (pursued pop_speech desk kept storing (desk.asked (Some u) (pop.store_of keys)))
  quits_as desk at sound =
      let a = desk.asked (Some u) (pop.store_of keys) in stored_as desk at a (λ item is. sound (Some u) (pop.store_of keys) item is) a.outcome refl

-- of these, or of none
left_as : TakesMarked → KeepsOthers → DoesAsAsked → (kept : Kept) (u : User) (drop : Maildrop) (keys : List Key) (w : Awaits) (desk : Service) (at : ℕ) → Sound at kept desk
    → (let t = took_by (pop.leave keys (record { stage = Transaction u drop; awaits = w })) in
    let turn = followed pop_speech desk kept t.out t.dialog in
    turn.said ≡ answer_text Closing → OnlyGone u keys (store_of kept) (store_of turn.kept))
left_as marked others does kept u drop [] w desk at sound = λ said. none_gone u (store_of kept)
left_as marked others does kept u drop (key ∷ keys) w desk at sound = quits_as marked others does kept u drop (key ∷ keys) desk at sound

-- the line is a QUIT of who is logged in
quit_is : (kept : Kept) (users : List User) (d : Dialog) (line : SmtpLine) (u : User) (drop : Maildrop) → d.stage ≡ Transaction u drop → command_of line ≡ Ok Quit
    → pop.turn kept.house (store_of kept) kept.stamps (size_in kept) users d line ≡ pop.leave (marked_keys drop.messages) (record { stage = Transaction u drop; awaits = d.awaits })
quit_is kept users d line u drop inside is =
    ap (λ (r : Reading). pop.hears kept.house (store_of kept) kept.stamps (size_in kept) users (argument_of line) d r) is
    ∙ ap (λ (stage : Stage). pop.leave (pop.keys_left stage) (record { stage = stage; awaits = d.awaits })) inside

pub quit_leaves : TakesMarked → KeepsOthers → DoesAsAsked → (h : Hindrance) (at : ℕ) (kept : Kept) (others : Seats) (d : Dialog) (line : SmtpLine) (u : User) (drop : Maildrop)
    → d.stage ≡ Transaction u drop → command_of line ≡ Ok Quit → (hindered pop_session h at kept others d line).said ≡ answer_text Closing
    → OnlyGone u (marked_keys drop.messages) (store_of kept) (store_of (hindered pop_session h at kept others d line).kept)
quit_leaves marked kept_others does h at kept others d line u drop inside is =
    let keys = marked_keys drop.messages in
    holds_under (λ (t : Turn Dialog). t.said ≡ answer_text Closing → OnlyGone u keys (store_of kept) (store_of t.kept)) h at kept (says memory_told kept d)
    (λ desk. let t = took_by (pop.turn kept.house (store_of kept) kept.stamps (size_in kept) (in_use others) d line) in followed pop_speech desk kept t.out t.dialog)
    (λ said. absurd (not_closing (answer_text NoMemory) refl said)) (λ said. absurd (not_closing [] refl said)) (λ t said. absurd (not_closing [] refl said))
    (λ desk sound.
    subst (λ (t : pop.Took). let turn = followed pop_speech desk kept (of_pop t.out) t.dialog in turn.said ≡ answer_text Closing → OnlyGone u keys (store_of kept) (store_of turn.kept))
    (sym (quit_is kept (in_use others) d line u drop inside is))
    (left_as marked kept_others does kept u drop keys d.awaits desk at sound))
