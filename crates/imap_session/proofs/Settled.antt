-- What comes of texts and of outcomes keeps what holds of each dialog.
use Rattle.std.proofs.Common.{◌≡◌, ℕ, Bool, true, false, List, refl, sym, subst, true≢false, Option, None, Some, Result, Ok, Err, is_some}
use Rattle.std.specs.Prelude.{if◌then◌else◌, IfOk, OnErr}
use Rattle.verb_core.specs.declared.ask.SubmitFault.{SubmitFault}
use Rattle.verb_core.specs.declared.ask.SubmitFault.TheVariants.{Refused as WasRefused, Disk, Closed}
use Rattle.verb_core.specs.declared.item.Item.{Item}
use Rattle.verb_core.specs.declared.mailbox.BoxId.{BoxId}
use Rattle.verb_core.specs.Store.{MailStore, IsValid}
use Rattle.imap_session.specs.declared.dialog.Awaits.{Awaits}
use Rattle.imap_session.specs.declared.dialog.Awaits.TheVariants.{Nothing, Texts, Outcome}
use Rattle.imap_session.specs.declared.dialog.Dialog.{Dialog}
use Rattle.imap_session.specs.declared.dialog.Pending.{Pending}
use Rattle.imap_session.specs.declared.dialog.Pending.TheVariants as on
use Rattle.imap_session.specs.declared.dialog.Selected.{Selected}
use Rattle.imap_session.specs.declared.out.ImapOut.{ImapOut}
use Rattle.imap_session.specs.declared.words.Word.{Word}
use Rattle.imap_session.specs.Dialog.{AsksAsUser, IsNext, Took, done, follow, is_lost, is_free, is_outcome, is_rest, settle_in, settle_pending, took, undone}
use Rattle.imap_session.specs.Sound.{IsSoundDialog}
use Rattle.imap_view.proofs.Mail.{view_in_order}

-- what holds of what comes of an awaited answer
pub record IsSettled (old : Dialog) (t : Took) : Type 0 where
  pub sound : IsSoundDialog t.dialog
  pub next : IsNext t.out t.dialog
  pub user : AsksAsUser t.out t.dialog
  pub stays : t.dialog.user ≡ old.user

at_rest_of : (d : Dialog) → IsSoundDialog d → IsSoundDialog (record d { awaits = Nothing })
at_rest_of d sound = record { view = sound.view; selected = sound.selected; awaits = λ h. absurd (true≢false h) }

waits_for_outcome : (awaits : Awaits) → is_outcome awaits ≡ true → is_rest awaits ≡ false
waits_for_outcome Nothing due = sym due
waits_for_outcome (Texts tag f) due = refl
waits_for_outcome (Outcome tag pending) due = refl

module _ (s : MailStore) (valid : IsValid s) (d : Dialog) (sound : IsSoundDialog d) (user : is_some d.user ≡ true) where
  fine_follow : (tag : List ℕ) (w : Word) (selected : Option Selected) → is_free d ≡ true → IsSettled d (follow s tag w d selected)
  fine_follow tag w None free = record { sound = sound; next = free; user = tt; stays = refl }
  fine_follow tag w (Some selected) free = record {
    sound = record { view = view_in_order s d.user selected.mailbox valid; selected = λ h. user; awaits = sound.awaits };
    next = free;
    user = tt;
    stays = refl;
  }

  kept_sound : (b : Bool) → IsSoundDialog (record d { selected = if b then None else d.selected })
  kept_sound true = record { view = tt; selected = λ h. user; awaits = sound.awaits }
  kept_sound false = record { view = sound.view; selected = λ h. user; awaits = sound.awaits }

  fine_done : (stamps : List (BoxId × ℕ)) (tag : List ℕ) (item : Item) (pending : Pending) → is_free d ≡ true → IsSettled d (done s stamps tag d item pending)
  fine_done stamps tag item (on.Select mailbox writes) free = record {
    sound = record { view = view_in_order s d.user mailbox valid; selected = λ h. user; awaits = sound.awaits };
    next = free;
    user = tt;
    stays = refl;
  }
  fine_done stamps tag item (on.Fetch form rows texts) free = record { sound = sound; next = free; user = tt; stays = refl }
  fine_done stamps tag item (on.Search by_uid numbers) free = record { sound = sound; next = free; user = tt; stays = refl }
  fine_done stamps tag item (on.Store form silent rows) free = record { sound = sound; next = free; user = tt; stays = refl }
  fine_done stamps tag item (on.Plain w) free = record { sound = sound; next = free; user = tt; stays = refl }
  fine_done stamps tag item (on.Leave w) free = record {
    sound = kept_sound (is_lost s d.user d.selected);
    next = free;
    user = tt;
    stays = refl;
  }
  fine_done stamps tag item on.Close free = record {
    sound = record { view = tt; selected = λ h. user; awaits = sound.awaits };
    next = free;
    user = tt;
    stays = refl;
  }
  fine_done stamps tag item (on.List subscribed deep) free = record { sound = sound; next = free; user = tt; stays = refl }
  fine_done stamps tag item (on.Status mailbox asked) free = record { sound = sound; next = free; user = tt; stays = refl }
  fine_done stamps tag item (on.Follow w) free = fine_follow tag w d.selected free

  fine_undone : (tag : List ℕ) (pending : Pending) (fault : SubmitFault) → is_free d ≡ true → IsSettled d (undone tag d pending fault)
  fine_undone tag (on.Select mailbox writes) (WasRefused why) free = record {
    sound = record { view = tt; selected = λ h. user; awaits = sound.awaits };
    next = free;
    user = tt;
    stays = refl;
  }
  fine_undone tag (on.Fetch form rows texts) (WasRefused why) free = record { sound = sound; next = free; user = tt; stays = refl }
  fine_undone tag (on.Store form silent rows) (WasRefused why) free = record { sound = sound; next = free; user = tt; stays = refl }
  fine_undone tag (on.Plain w) (WasRefused why) free = record { sound = sound; next = free; user = tt; stays = refl }
  fine_undone tag (on.Leave w) (WasRefused why) free = record { sound = sound; next = free; user = tt; stays = refl }
  fine_undone tag (on.Search by_uid numbers) (WasRefused why) free = record { sound = sound; next = free; user = tt; stays = refl }
  fine_undone tag on.Close (WasRefused why) free = record { sound = sound; next = free; user = tt; stays = refl }
  fine_undone tag (on.List subscribed deep) (WasRefused why) free = record { sound = sound; next = free; user = tt; stays = refl }
  fine_undone tag (on.Status mailbox asked) (WasRefused why) free = record { sound = sound; next = free; user = tt; stays = refl }
  fine_undone tag (on.Follow w) (WasRefused why) free = record { sound = sound; next = free; user = tt; stays = refl }
  fine_undone tag pending Disk free = record { sound = sound; next = free; user = tt; stays = refl }
  fine_undone tag pending Closed free = record { sound = sound; next = free; user = tt; stays = refl }

  fine_pending : (stamps : List (BoxId × ℕ)) (tag : List ℕ) (pending : Pending) (outcome : Result Item SubmitFault) → is_free d ≡ true → IsSettled d (settle_pending s stamps tag d pending outcome)
  fine_pending stamps tag pending (Ok item) free = fine_done stamps tag item pending free
  fine_pending stamps tag pending (Err fault) free = fine_undone tag pending fault free

settled_fine : (s : MailStore) (stamps : List (BoxId × ℕ)) (d : Dialog) (awaits : Awaits) (outcome : Result Item SubmitFault) → IsValid s → IsSoundDialog d → is_outcome awaits ≡ true → is_some d.user ≡ true
    → IsSettled d (settle_in s stamps d awaits outcome)
settled_fine s stamps d Nothing outcome valid sound due user = absurd (true≢false (sym due))
settled_fine s stamps d (Texts tag f) outcome valid sound due user = absurd (true≢false (sym due))
settled_fine s stamps d (Outcome tag pending) outcome valid sound due user =
    let rest = record d { awaits = Nothing } in
    let fine : IsSettled rest (settle_pending s stamps tag rest pending outcome) = fine_pending s valid rest (at_rest_of d sound) user stamps tag pending outcome refl in
    record { sound = fine.sound; next = fine.next; user = fine.user; stays = fine.stays }

pub fine_settled : (s : MailStore) (stamps : List (BoxId × ℕ)) (d : Dialog) (outcome : Result Item SubmitFault) → IsValid s → IsSoundDialog d → is_outcome d.awaits ≡ true → IsSettled d (settle_in s stamps d d.awaits outcome)
fine_settled s stamps d outcome valid sound due = settled_fine s stamps d d.awaits outcome valid sound due (sound.awaits (waits_for_outcome d.awaits due))

-- ---- what holds of the dialog after a call: it is the one of the definition, or the one that want of memory leaves

-- where it found no memory, it is the one that is left then
module _ {E : Type 0} (result : Result ImapOut E) (now : Took) (left new : Dialog) (ok : IfOk result (λ out. now ≡ took out new)) (err : OnErr result (new ≡ left)) where
  pub dialog_after : (P : Dialog → Type 0) → P now.dialog → P left → P new
  dialog_after P p q = elim result as (λ r. IfOk r (λ out. now ≡ took out new) → OnErr r (new ≡ left) → P new) [
    | Ok out ↦ λ is same. subst (λ (t : Took). P t.dialog) is p
    | Err e ↦ λ is same. subst P (sym same) q
  ] ok err

pub out_after : {E : Type 0} (result : Result ImapOut E) (now : Took) (new : Dialog) → IfOk result (λ out. now ≡ took out new) → (P : ImapOut → Dialog → Type 0) → P now.out now.dialog
    → IfOk result (λ out. P out new)
out_after (Ok out) now new is P p = subst (λ (t : Took). P t.out t.dialog) is p
out_after (Err e) now new is P p = tt
