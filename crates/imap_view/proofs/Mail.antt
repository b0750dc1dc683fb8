-- What lies in a mailbox of a valid store stands by rising UID, and so do views of it.
use Rattle.std.proofs.Common.{◌≡◌, ℕ, true, false, cond, List, [], ◌∷◌, Option, Some, map, refl, option_map}
use Rattle.std.specs.Cmp.{first_so, second_so}
use Rattle.std.specs.List.{list_all}
use Rattle.std.specs.Prelude.{unwrap_or}
use Rattle.std.specs.Ordering.{eq_by_cmp}
use Rattle.undo_base.specs.declared.keys.User.{User}
use Rattle.verb_core.specs.declared.conf.House.{House}
use Rattle.verb_core.specs.declared.mailbox.BoxId.{BoxId}
use Rattle.verb_core.specs.declared.mailbox.Entry.{Entry}
use Rattle.verb_core.specs.declared.mailbox.Mailbox.{Mailbox}
use Rattle.verb_core.specs.Boxes.{box_cmp, box_of, mail_at, row_at}
use Rattle.verb_core.specs.Live.{asker, mail_of}
use Rattle.verb_core.specs.Mailboxes.{uids_rise}
use Rattle.verb_core.specs.Store.{MailStore, IsValid, is_row}
use Rattle.verb_core.proofs.Validity.{both}
use Rattle.imap_view.specs.Views.{is_by_uid, is_in_order, rises_above, uids_of, view_of}

rises_from : (low : ℕ) (entries : List Entry) (next : ℕ) → uids_rise low entries next ≡ true → rises_above low (map (λ (e : Entry). e.uid) entries) ≡ true
rises_from low [] next h = refl
rises_from low (e ∷ entries) next h = both _ _ (first_so _ _ h) (rises_from e.uid entries next (second_so _ _ h))

pub mail_by_uid : (house : House) (id : BoxId) (rows : List (BoxId × Mailbox)) → list_all (is_row house) rows ≡ true → is_by_uid (mail_at id rows) ≡ true
mail_by_uid house id [] h = refl
mail_by_uid house id (r ∷ rows) h =
    elim (eq_by_cmp box_cmp id r.0) as (λ b. is_by_uid (unwrap_or (option_map (λ (m : Mailbox). m.entries) (cond b (Some r.1) (row_at id rows))) []) ≡ true) [
      | true ↦ rises_from 0 r.1.entries r.1.next (second_so _ _ (first_so _ _ h))
      | false ↦ mail_by_uid house id rows (second_so _ _ h)
    ]

-- a view of what lies by rising UID is in order
view_rises : (low : ℕ) (entries : List Entry) → rises_above low (map (λ (e : Entry). e.uid) entries) ≡ true → rises_above low (uids_of (view_of entries)) ≡ true
view_rises low [] h = refl
view_rises low (e ∷ entries) h = both _ _ (first_so _ _ h) (view_rises e.uid entries (second_so _ _ h))

pub view_in_order : (s : MailStore) (by : Option User) (name : List ℕ) → IsValid s → is_in_order (view_of (mail_of s by name)) ≡ true
view_in_order s by name valid = view_rises 0 (mail_of s by name) (mail_by_uid s.house (box_of (asker by) name) s.boxes valid.rows)
