-- An item that is another user's own touches none of a user's mailboxes.
use Rattle.std.proofs.Common.{◌≡◌, ℕ, eq-eqb, Bool, true, false, true≢false, not, ◌||◌, cond, map, List, [], ◌∷◌, ◌++◌, Option, refl, ap, ap₂, sym, ◌∙◌}
use Rattle.std.specs.Ordering.{eq_by_cmp}
use Rattle.std.specs.Prelude.{unwrap_or}
use Rattle.undo_base.specs.declared.keys.User.{User}
use Rattle.verb_core.specs.declared.item.Deed.{Deed}
use Rattle.verb_core.specs.declared.item.Deed.TheVariants.{Act, Append, Close, Copy, Create, Delete, Deliver, Expunge, Fetch, List as Names, Notice, Rename, Select, Status, Store}
use Rattle.verb_core.specs.declared.item.Item.{Item}
use Rattle.verb_core.specs.declared.mailbox.BoxId.{BoxId}
use Rattle.verb_core.specs.Aims.{aim_at, box_aimed, into_or, sought}
use Rattle.verb_core.specs.Boxes.{box_cmp, box_of, has_row, same_user}
use Rattle.verb_core.specs.Items.{actor, is_own, text_in}
use Rattle.verb_core.specs.Names.{lost_found, with_superiors}
use Rattle.verb_core.specs.Step.{Boxes}
use Rattle.verb_core.specs.Store.{MailStore}
use Rattle.verb_core.specs.Touched.{deed_touches, is_one}
use Rattle.verb_core.proofs.BoxLaws.{tied}
use Rattle.verb_core.proofs.Moves.{same_user-is}
use Rattle.privacy_laws.specs.Others.{Spares}
use Rattle.privacy_laws.proofs.Places.{same_turned}

-- a mailbox of one user is none of another
module _ (v : User) (q : BoxId) (other : same_user v q.user ≡ false) where
  off : (name : List ℕ) → eq_by_cmp box_cmp (box_of v name) q ≡ false
  off name = by_test (eq_by_cmp box_cmp (box_of v name) q) refl
    where
      by_test : (b : Bool) → eq_by_cmp box_cmp (box_of v name) q ≡ b → b ≡ false
      by_test true is = sym (eq-eqb v.0 v.0 refl) ∙ ap (λ (id : BoxId). same_user v id.user) (tied (box_of v name) q is) ∙ other
      by_test false is = refl

  one_off : (name : List ℕ) → is_one (box_of v name ∷ []) q ≡ false
  one_off name = ap (λ (b : Bool). b || false) (off name)

  two_off : (name more : List ℕ) → is_one (box_of v name ∷ box_of v more ∷ []) q ≡ false
  two_off name more = ap₂ (λ (a b : Bool). a || (b || false)) (off name) (off more)

  all_off : (names : List (List ℕ)) → is_one (map (box_of v) names) q ≡ false
  all_off [] = refl
  all_off (name ∷ names) = ap₂ (λ (a b : Bool). a || b) (off name) (all_off names)

  abbrev aimed : Boxes → List ℕ → Bool
  aimed boxes name = is_one (map box_aimed (into_or boxes name lost_found (v ∷ [])).aims ++ map box_aimed (into_or boxes name lost_found (v ∷ [])).missed) q

  into_off : (boxes : Boxes) (name : List ℕ) → aimed boxes name ≡ false
  into_off boxes name =
      elim (has_row (box_of v name) boxes) as (λ b. is_one (box_of v (cond b name lost_found) ∷ map box_aimed (map (λ (u : User). aim_at u name 0) (cond (not b) (v ∷ []) []))) q ≡ false) [
        | true ↦ one_off name
        | false ↦ two_off lost_found name
      ]

-- by what it does
module _ (s : MailStore) (q : BoxId) where
  abbrev touched : Option User → Deed → Bool
  touched by d =
      is_one (map box_aimed (sought s (unwrap_or (text_in d) []) by d).aims ++ map box_aimed (sought s (unwrap_or (text_in d) []) by d).missed) q || deed_touches (actor by d) d q

  by_deed : (by : Option User) (d : Deed) → is_own d ≡ true → same_user (actor by d) q.user ≡ false → touched by d ≡ false
  by_deed by (Deliver from to text) own other = absurd (true≢false (sym own))
  by_deed by (Act act) own other = absurd (true≢false (sym own))
  by_deed by (Notice u text) own other = absurd (true≢false (sym own))
  by_deed by (Append mailbox flags moment text) own other = ap (λ (b : Bool). b || false) (into_off (actor by (Append mailbox flags moment text)) q other s.boxes mailbox)
  by_deed by (Copy mailbox keys target) own other =
      ap₂ (λ (a b : Bool). a || b) (into_off (actor by (Copy mailbox keys target)) q other s.boxes target) (one_off (actor by (Copy mailbox keys target)) q other mailbox)
  by_deed by (Fetch mailbox keys sets_seen shows_body) own other = one_off (actor by (Fetch mailbox keys sets_seen shows_body)) q other mailbox
  by_deed by (Store mailbox keys how flags) own other = one_off (actor by (Store mailbox keys how flags)) q other mailbox
  by_deed by (Names pattern) own other = refl
  by_deed by (Status mailbox) own other = one_off (actor by (Status mailbox)) q other mailbox
  by_deed by (Select mailbox) own other = one_off (actor by (Select mailbox)) q other mailbox
  by_deed by (Expunge mailbox keys) own other = one_off (actor by (Expunge mailbox keys)) q other mailbox
  by_deed by (Close mailbox keys) own other = one_off (actor by (Close mailbox keys)) q other mailbox
  by_deed by (Create mailbox) own other = all_off (actor by (Create mailbox)) q other (with_superiors mailbox)
  by_deed by (Rename mailbox target) own other = other
  by_deed by (Delete mailbox keys) own other = two_off (actor by (Delete mailbox keys)) q other mailbox lost_found

pub own_spares : (u : User) (s : MailStore) (i : Item) → is_own i.deed ≡ true → same_user u (actor i.by i.deed) ≡ false → Spares u s i
own_spares u s i own other id its =
    by_deed s id i.by i.deed own
    (ap (same_user (actor i.by i.deed)) (sym (same_user-is u id.user its)) ∙ same_turned (actor i.by i.deed).0 u.0 ∙ other)
