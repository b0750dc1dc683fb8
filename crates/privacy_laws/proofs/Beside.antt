-- What other users do leaves the agreement on a user.
use Rattle.std.proofs.Common.{◌≡◌, inl, inr, ℕ, ◌+◌, ◌==◌, true, false, cond, List, [], ◌∷◌, None, refl, ap, sym, subst, ◌∙◌, eqb-true}
use Rattle.std.specs.Cmp.{first_so, second_so}
use Rattle.std.proofs.lemmas.Bool.{false_from_ne_true}
use Rattle.undo_base.specs.declared.keys.User.{User}
use Rattle.verb_core.specs.declared.conf.House.{House}
use Rattle.verb_core.specs.declared.item.Item.{Item}
use Rattle.verb_core.specs.declared.mailbox.Body.{Body}
use Rattle.verb_core.specs.declared.mailbox.BoxId.{BoxId}
use Rattle.verb_core.specs.Aims.{sought_by}
use Rattle.verb_core.specs.Boxes.{row_at, rows_of, same_user}
use Rattle.verb_core.specs.Items.{IsWellFormed}
use Rattle.verb_core.specs.Stamps.{stamps_after}
use Rattle.verb_core.specs.Step.{Boxes, step}
use Rattle.verb_core.specs.Store.{IsValid, MailStore, is_known}
use Rattle.verb_core.proofs.BoxLaws.{rising-rows_of, row_at-rows_of, same_rows}
use Rattle.verb_core.proofs.Frame.{other_stays}
use Rattle.verb_core.proofs.Validity.{step-IsValid}
use Rattle.store_kept.specs.Kept.{Kept, performed, store_of}
use Rattle.store_kept.specs.Texts.{all_bodies, has_text_kept}
use Rattle.store_kept.proofs.Known.{bodies_weaker}
use Rattle.mail_desk.specs.Desk.{IsDesk}
use Rattle.privacy_laws.specs.Agreeing.{Agree, is_alike}
use Rattle.privacy_laws.specs.Others.{AreAlike, CanFollow, IsOwnItem, IsSameMail, Spares, all_performed}
use Rattle.privacy_laws.proofs.Bodies.{rows_pass}
use Rattle.privacy_laws.proofs.Delivered.{agree_mailed}
use Rattle.privacy_laws.proofs.Steps.{agree_after, agree_held, goes_on, own_stamps}
use Rattle.privacy_laws.proofs.Texts.{alike_apart, alike_itself, held_there, is_held, not_next}

-- a store in use agrees with itself
pub agree_itself : (h : House) (u : User) (k : Kept) → IsDesk k → k.house ≡ h → is_known h u ≡ true → Agree h u k k
agree_itself h u k desk house known = record {
  one = desk;
  other = desk;
  one_house = house;
  other_house = house;
  known = known;
  boxes = refl;
  stamps = refl;
  texts = bodies_weaker (has_text_kept k) (is_alike k k) (rows_of u (store_of k).boxes) (λ body has. alike_itself k body) (rows_pass (has_text_kept k) u (store_of k).boxes desk.texts);
  next = refl;
  deep = refl;
}

-- the rows of a user whose mailboxes an item does not touch
rows_kept : (u : User) (s : MailStore) (i : Item) → IsValid s → IsWellFormed s.house i → Spares u s i → rows_of u (step s i).0.boxes ≡ rows_of u s.boxes
rows_kept u s i valid formed spares =
    let now : Boxes = (step s i).0.boxes in
    same_rows (rows_of u now) (rows_of u s.boxes) (rising-rows_of u now (step-IsValid s i valid formed).rising) (rising-rows_of u s.boxes valid.rising)
    (λ q. row_at-rows_of q u now ∙ each q ∙ sym (row_at-rows_of q u s.boxes))
  where
    each : (q : BoxId) → cond (same_user u q.user) (row_at q (step s i).0.boxes) None ≡ cond (same_user u q.user) (row_at q s.boxes) None
    each q = elim (same_user u q.user) as (λ b. same_user u q.user ≡ b → cond b (row_at q (step s i).0.boxes) None ≡ cond b (row_at q s.boxes) None) [
      | true ↦ λ e. other_stays q (sought_by s i) s i (spares q e)
      | false ↦ λ e. refl
    ] refl

apart_from : (kept : Kept) (item : Item) (body : Body) → IsDesk kept → item.number ≡ kept.next → has_text_kept kept body ≡ true → (item.number == body.origin) ≡ false
apart_from kept item body desk number has =
    false_from_ne_true (item.number == body.origin) (λ e. not_next kept body desk.base desk.below has (sym (eqb-true item.number body.origin e) ∙ number))

module _ (h : House) (u : User) (k l : Kept) (a : Agree h u k l) (i j : Item) (one : CanFollow h k i) (other : CanFollow h l j) (spares : Spares u (store_of k) i) (spares' : Spares u (store_of l) j) where
  kept_here : rows_of u (step k.store i).0.boxes ≡ rows_of u k.store.boxes
  kept_here = rows_kept u k.store i a.one.valid (subst (λ (x : House). IsWellFormed x i) (sym (a.one.house_is ∙ a.one_house)) one.formed) spares

  kept_there : rows_of u (step l.store j).0.boxes ≡ rows_of u l.store.boxes
  kept_there = rows_kept u l.store j a.other.valid (subst (λ (x : House). IsWellFormed x j) (sym (a.other.house_is ∙ a.other_house)) other.formed) spares'

  boxes_then : rows_of u (step k.store i).0.boxes ≡ rows_of u (step l.store j).0.boxes
  boxes_then = kept_here ∙ a.boxes ∙ sym kept_there

  still : (body : Body) → is_held k l body ≡ true → is_alike (performed k i) (performed l j) body ≡ true
  still body held =
      alike_apart k l i j body (apart_from k i body a.one one.number (second_so (is_alike k l body) _ held)) (apart_from l j body a.other other.number (held_there k l body held)) ∙ first_so _ _ held

  pub agree_beside : Agree h u (performed k i) (performed l j)
  agree_beside = record {
    one = goes_on k i a.one (subst (λ (x : House). IsWellFormed x i) (sym a.one_house) one.formed) one.number one.left;
    other = goes_on l j a.other (subst (λ (x : House). IsWellFormed x j) (sym a.other_house) other.formed) other.number other.left;
    one_house = a.one_house;
    other_house = a.other_house;
    known = a.known;
    boxes = boxes_then;
    stamps =
        own_stamps u i.number (step k.store i).0.boxes k.stamps
        ∙ (λ p. stamps_after ((one.number ∙ a.next ∙ sym other.number) p) (boxes_then p) (a.stamps p))
        ∙ sym (own_stamps u j.number (step l.store j).0.boxes l.stamps);
    texts =
        subst (λ (rs : Boxes). all_bodies (is_alike (performed k i) (performed l j)) rs ≡ true) (sym kept_here)
        (bodies_weaker (is_held k l) (is_alike (performed k i) (performed l j)) (rows_of u k.store.boxes) still (agree_held h u k l a));
    next = ap (λ (n : ℕ). n + 1) a.next;
    deep = a.deep;
  }

-- the same item of the user in both
pub agree_own : (h : House) (u : User) (k l : Kept) (i j : Item) → Agree h u k l → CanFollow h k i → IsOwnItem u i j → Agree h u (performed k i) (performed l j)
agree_own h u k l i j a can own = subst (λ (x : Item). Agree h u (performed k i) (performed l x)) own.0 (agree_after h u k l a i can.formed can.number can.left own.1 own.2)

-- the same mail in both, which comes to the same of the user's mailboxes
pub agree_same : (h : House) (u : User) (k l : Kept) (i j : Item) → Agree h u k l → CanFollow h k i → CanFollow h l j → IsSameMail u k l i j → Agree h u (performed k i) (performed l j)
agree_same h u k l i j a one other (same, is, aims) =
    subst (λ (x : Item). Agree h u (performed k i) (performed l x)) same
    (agree_mailed h u k l a i one (subst (λ (x : Item). CanFollow h l x) (sym same) other) is aims)

-- runs that are alike for a user lead to stores that agree on the user
pub agree_run : (h : House) (u : User) (k l : Kept) (is js : List Item) → Agree h u k l → AreAlike h u k l is js → Agree h u (all_performed k is) (all_performed l js)
agree_run h u k l [] [] a alike = a
agree_run h u k l [] (j ∷ js) a alike = absurd alike
agree_run h u k l (i ∷ is) [] a alike = absurd alike
agree_run h u k l (i ∷ is) (j ∷ js) a (one, other, inl own, more) =
    agree_run h u (performed k i) (performed l j) is js
    (agree_own h u k l i j a one own) more
agree_run h u k l (i ∷ is) (j ∷ js) a (one, other, inr (inl mail), more) =
    agree_run h u (performed k i) (performed l j) is js
    (agree_same h u k l i j a one other mail) more
agree_run h u k l (i ∷ is) (j ∷ js) a (one, other, inr (inr spare), more) =
    agree_run h u (performed k i) (performed l j) is js (agree_beside h u k l a i j one other spare.0 spare.1) more
