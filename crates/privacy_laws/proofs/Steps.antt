-- Two stores in use that agree on a user agree again after the same item of that user.
use Rattle.std.proofs.Common.{◌≡◌, ℕ, ◌+◌, ◌<◌, Bool, true, false, cond, List, [], ◌∷◌, Option, None, unwrap_or, refl, ap, ap₂, sym, subst, ◌∙◌}
use Rattle.undo_base.specs.declared.keys.User.{User}
use Rattle.verb_core.specs.declared.conf.House.{House}
use Rattle.verb_core.specs.declared.item.Item.{Item}
use Rattle.verb_core.specs.declared.mailbox.Body.{Body}
use Rattle.verb_core.specs.declared.mailbox.BoxId.{BoxId}
use Rattle.verb_core.specs.Boxes.{row_at, rows_of, same_user}
use Rattle.verb_core.specs.Items.{IsWellFormed, actor, is_own}
use Rattle.verb_core.specs.Stamps.{stamps_after}
use Rattle.verb_core.specs.Step.{Boxes, step}
use Rattle.verb_core.proofs.Apart.{step_agree}
use Rattle.verb_core.proofs.BoxLaws.{row_at-rows_of}
use Rattle.verb_core.proofs.FateLaws.{count_held-step}
use Rattle.verb_core.proofs.StampLaws.{after-ids}
use Rattle.verb_core.proofs.Validity.{step-IsValid}
use Rattle.store_kept.specs.Kept.{Kept, origin_of, performed, store_of}
use Rattle.store_kept.specs.Texts.{all_bodies, has_text_kept}
use Rattle.store_kept.proofs.Coming.{comes_on}
use Rattle.store_kept.proofs.Known.{bodies_weaker}
use Rattle.mail_desk.specs.Desk.{IsDesk}
use Rattle.mail_desk.proofs.Going.{desk_goes_on}
use Rattle.privacy_laws.specs.Agreeing.{Agree, is_alike}
use Rattle.privacy_laws.proofs.Bodies.{all_after, bodies_both, body_of, rows_pass}
use Rattle.privacy_laws.proofs.Texts.{alike_after, alike_now, is_held, own_plain}

-- a user's stamps after an item are those of the user's mailboxes
pub own_stamps : (u : User) (number : ℕ) (boxes : Boxes) (stamps : List (BoxId × ℕ)) → rows_of u (stamps_after number boxes stamps) ≡ stamps_after number (rows_of u boxes) (rows_of u stamps)
own_stamps u number [] stamps = refl
own_stamps u number (r ∷ rs) stamps =
    elim (same_user u r.0.user) as (λ b. same_user u r.0.user ≡ b
    → cond b ((r.0, unwrap_or (row_at r.0 stamps) number) ∷ rows_of u (stamps_after number rs stamps)) (rows_of u (stamps_after number rs stamps)) ≡ stamps_after number (cond b (r ∷ rows_of u rs) (rows_of u rs)) (rows_of u stamps)) [
      | true ↦ λ e. ap₂ (λ (o : Option ℕ) (t : List (BoxId × ℕ)). (r.0, unwrap_or o number) ∷ t) (sym (row_at-rows_of r.0 u stamps ∙ ap (λ (b : Bool). cond b (row_at r.0 stamps) None) e)) (own_stamps u number rs stamps)
      | false ↦ λ e. own_stamps u number rs stamps
    ] refl

-- a store in use goes on by an item
pub goes_on : (kept : Kept) (item : Item) → IsDesk kept → IsWellFormed kept.house item → item.number ≡ kept.next → kept.next < 4194304 → IsDesk (performed kept item)
goes_on kept item desk formed number left =
    desk_goes_on count_held-step step-IsValid after-ids (λ kept item e h. comes_on (origin_of kept) kept.timeline kept.next item kept.undone e h) kept item desk formed number left

-- of each body that lies with the user the texts are alike, and there are some
pub agree_held : (h : House) (u : User) (k l : Kept) → Agree h u k l → all_bodies (is_held k l) (rows_of u (store_of k).boxes) ≡ true
agree_held h u k l a = bodies_both (is_alike k l) (has_text_kept k) (rows_of u (store_of k).boxes) a.texts (rows_pass (has_text_kept k) u (store_of k).boxes a.one.texts)

module _ (h : House) (u : User) (k l : Kept) (a : Agree h u k l) (item : Item) (formed : IsWellFormed h item) (number : item.number ≡ k.next) (left : k.next < 4194304) (own : is_own item.deed ≡ true) (acts : actor item.by item.deed ≡ u) where
  formed_here : IsWellFormed k.house item
  formed_here = subst (λ (x : House). IsWellFormed x item) (sym a.one_house) formed

  formed_there : IsWellFormed l.house item
  formed_there = subst (λ (x : House). IsWellFormed x item) (sym a.other_house) formed

  formed_in : IsWellFormed k.store.house item
  formed_in = subst (λ (x : House). IsWellFormed x item) (sym a.one.house_is) formed_here

  agrees : rows_of (actor item.by item.deed) k.store.boxes ≡ rows_of (actor item.by item.deed) l.store.boxes
  agrees = subst (λ (v : User). rows_of v k.store.boxes ≡ rows_of v l.store.boxes) (sym acts) a.boxes

  boxes_after : rows_of u (step k.store item).0.boxes ≡ rows_of u (step l.store item).0.boxes
  boxes_after =
      subst (λ (v : User). rows_of v (step k.store item).0.boxes ≡ rows_of v (step l.store item).0.boxes) acts
      (step_agree k.store l.store item own a.one.valid.rising a.other.valid.rising agrees).1

  stays : (body : Body) → is_alike k l body ≡ true → is_alike (performed k item) (performed l item) body ≡ true
  stays = alike_after k l item a.one.base a.other.base a.one.below a.other.below (own_plain item.deed own) number a.next

  texts_after : all_bodies (is_alike (performed k item) (performed l item)) (rows_of u (step k.store item).0.boxes) ≡ true
  texts_after =
      let test : Body → Bool = is_alike (performed k item) (performed l item) in
      let before : all_bodies test (rows_of u k.store.boxes) ≡ true = bodies_weaker (is_alike k l) test (rows_of u k.store.boxes) stays a.texts in
      subst (λ (v : User). all_bodies test (rows_of v (step k.store item).0.boxes) ≡ true) acts
      (all_after test k.store item a.one.valid formed_in own
      (subst (λ (v : User). all_bodies test (rows_of v k.store.boxes) ≡ true) (sym acts) before)
      (λ some. alike_now k l item a.one.base a.other.base a.one.below a.other.below (own_plain item.deed own) number a.next (body_of item) refl))

  pub agree_after : Agree h u (performed k item) (performed l item)
  agree_after = record {
    one = goes_on k item a.one formed_here number left;
    other = goes_on l item a.other formed_there (number ∙ a.next) (subst (λ (n : ℕ). n < 4194304) a.next left);
    one_house = a.one_house;
    other_house = a.other_house;
    known = a.known;
    boxes = boxes_after;
    stamps = own_stamps u item.number (step k.store item).0.boxes k.stamps ∙ (λ j. stamps_after item.number (boxes_after j) (a.stamps j)) ∙ sym (own_stamps u item.number (step l.store item).0.boxes l.stamps);
    texts = texts_after;
    next = ap (λ (n : ℕ). n + 1) a.next;
    deep = a.deep;
  }
