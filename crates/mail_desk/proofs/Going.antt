-- A desk goes on by an item.
use Rattle.std.proofs.Common.{◌≡◌, ℕ, ◌+◌, ◌<◌, ◌≤◌, true, false, cond, List, [], ◌∷◌, ◌++◌, map, Some, is_some, unwrap_or, ap, sym, subst, ◌∙◌, arith}
use Rattle.std.specs.List.{AllByRecursion}
use Rattle.std.specs.Ordering.{eq_by_cmp}
use Rattle.verb_core.specs.declared.conf.House.{House}
use Rattle.verb_core.specs.declared.item.Item.{Item}
use Rattle.verb_core.specs.declared.mailbox.Body.{Body}
use Rattle.verb_core.specs.declared.mailbox.BoxId.{BoxId}
use Rattle.verb_core.specs.declared.mailbox.Mailbox.{Mailbox}
use Rattle.verb_core.specs.Boxes.{box_cmp, row_at}
use Rattle.verb_core.specs.Items.{IsWellFormed, text_in, text_of}
use Rattle.verb_core.specs.Stamps.{stamps_after}
use Rattle.verb_core.specs.Step.{Boxes, step, run}
use Rattle.verb_core.specs.Store.{MailStore, IsValid}
use Rattle.store_kept.specs.Bases.{HasBase}
use Rattle.store_kept.specs.Coming.{HasUndone}
use Rattle.store_kept.specs.Kept.{BaseTexts, Kept, performed}
use Rattle.store_kept.specs.Texts.{all_bodies, has_text_among, has_text_with, text_before}
use Rattle.store_kept.proofs.Known.{MailIsKept, StepsKeep, bodies_weaker, run_known}
use Rattle.mail_desk.specs.Desk.{IsDesk}
use Rattle.mail_desk.specs.Timeline.{body_of, has_text, unshown}
use Rattle.mail_desk.proofs.Bases.{base_goes_on}
use Rattle.mail_desk.proofs.BodyTexts.{has_unshown, or_last, or_some, own_texts, text_added, text_ahead, text_behind, text_stays, with_weaker}
use Rattle.mail_desk.proofs.Timelines.{all_on, all_weaker, apart_on, below_on, others_below}

-- ---- the laws

abbrev pub StampsAreNamed : Type 0
StampsAreNamed = (number : ℕ) (boxes : List (BoxId × Mailbox)) (stamps : List (BoxId × ℕ)) →
    map (λ (r : BoxId × ℕ). r.0) (stamps_after number boxes stamps) ≡ map (λ (r : BoxId × Mailbox). r.0) boxes

more_known : (texts : BaseTexts) (t : List Item) (i : Item) (boxes : Boxes) → all_bodies (has_text_with texts t) boxes ≡ true → all_bodies (has_text_with texts (t ++ i ∷ [])) boxes ≡ true
more_known texts t i boxes all =
    bodies_weaker (has_text_with texts t) (has_text_with texts (t ++ i ∷ [])) boxes (λ body. with_weaker texts t (t ++ i ∷ []) body (text_stays t i body)) all

-- each item's own text is among them
pub own_with : (texts : BaseTexts) (t : List Item) → AllByRecursion (λ (i : Item). is_some (text_in i.deed) ≡ true → has_text_with texts t (body_of i) ≡ true) t
own_with texts t =
    all_weaker (λ (i : Item). is_some (text_in i.deed) ≡ true → has_text t (body_of i) ≡ true) (λ (i : Item). is_some (text_in i.deed) ≡ true → has_text_with texts t (body_of i) ≡ true)
    (λ i own some. or_some (text_of t (body_of i)) (text_before texts (body_of i)) (own some)) t (own_texts t)

-- ---- the desk

-- the stamp of a mailbox after an item of the next number
fresh_at : (number next : ℕ) (id : BoxId) (stamps : List (BoxId × ℕ)) → number ≡ next → AllByRecursion (λ (r : BoxId × ℕ). r.1 < next) stamps → unwrap_or (row_at id stamps) number < next + 1
fresh_at number next id [] is below = omega arith
fresh_at number next id (r ∷ rs) is below =
    let first : r.1 < next = below.0 in
    elim (eq_by_cmp box_cmp id r.0) as (λ b. unwrap_or (cond b (Some r.1) (row_at id rs)) number < next + 1) [
      | true ↦ omega arith
      | false ↦ fresh_at number next id rs is below.1
    ]

-- each of them is below the number after it
fresh_on : (number next : ℕ) (boxes : Boxes) (stamps : List (BoxId × ℕ)) → number ≡ next → AllByRecursion (λ (r : BoxId × ℕ). r.1 < next) stamps
    → AllByRecursion (λ (r : BoxId × ℕ). r.1 < next + 1) (stamps_after number boxes stamps)
fresh_on number next [] stamps is below = tt
fresh_on number next (b ∷ boxes) stamps is below = (fresh_at number next b.0 stamps is below, fresh_on number next boxes stamps is below)

-- what can be withdrawn can be once an item more was performed
abbrev pub UndoneStays : Type 0
UndoneStays = (kept : Kept) (item : Item) → item.number ≡ kept.next → HasUndone kept → HasUndone (performed kept item)

-- what is kept with an item more
pub desk_goes_on : MailIsKept → StepsKeep → StampsAreNamed → UndoneStays → (kept : Kept) (item : Item) → IsDesk kept → IsWellFormed kept.house item → item.number ≡ kept.next → kept.next < 4194304
    → IsDesk (performed kept item)
desk_goes_on keeps stays named undone kept item is in_house number left =
    let formed : IsWellFormed kept.store.house item = subst (λ (h : House). IsWellFormed h item) (sym is.house_is) in_house in
    let since : kept.marks.since ≤ kept.next = is.since in
    record {
      house = is.house;
      aliases = is.aliases;
      filters = is.filters;
      base = base_goes_on kept item is.base in_house number is.below;
      house_is = is.house_is;
      valid = stays kept.store item is.valid formed;
      next = omega arith;
      since = omega arith;
      stamps = named item.number (step kept.store item).0.boxes kept.stamps;
      fresh = fresh_on item.number kept.next (step kept.store item).0.boxes kept.stamps number is.fresh;
      formed = all_on (IsWellFormed kept.house) kept.timeline item is.formed in_house;
      apart = apart_on kept.timeline item is.apart (others_below kept.next kept.timeline item is.below number);
      below = below_on kept.next kept.timeline item is.below number;
      reports = is.reports;
      texts = run_known keeps stays (has_text_with kept.texts (kept.timeline ++ item ∷ [])) kept.store (item ∷ []) is.valid (formed, tt)
          ((λ some. or_some (text_of (kept.timeline ++ item ∷ []) (body_of item)) (text_before kept.texts (body_of item)) (text_added kept.timeline item some)), tt)
          (more_known kept.texts kept.timeline item kept.store.boxes is.texts);
      undone = undone kept item number is.undone;
    }

-- ---- the base

-- each body in it has a text, whatever the items
pub base_known : (kept : Kept) (items : List Item) → HasBase kept → all_bodies (has_text_among kept items) kept.base.boxes ≡ true
base_known kept items base =
    bodies_weaker (λ (body : Body). is_some (text_before kept.texts body)) (has_text_among kept items) kept.base.boxes (λ body has. or_last (text_of items body) (text_before kept.texts body) has) base.texts

-- ---- items behind others

-- items that bring their own texts, over a store of which each body has a text
pub known_run : MailIsKept → StepsKeep → (texts : BaseTexts) (base : MailStore) (t : List Item) → IsValid base → AllByRecursion (IsWellFormed base.house) t → all_bodies (has_text_with texts t) base.boxes ≡ true
    → all_bodies (has_text_with texts t) (run base t).boxes ≡ true
known_run keeps stays texts base t valid formed all = run_known keeps stays (has_text_with texts t) base t valid formed (own_with texts t) all

-- and behind others
pub known_behind : MailIsKept → StepsKeep → (texts : BaseTexts) (base : MailStore) (front t : List Item) → IsValid base → AllByRecursion (IsWellFormed base.house) t → all_bodies (has_text_with texts front) base.boxes ≡ true
    → all_bodies (has_text_with texts (front ++ t)) (run base t).boxes ≡ true
known_behind keeps stays texts base front t valid formed all =
    run_known keeps stays (has_text_with texts (front ++ t)) base t valid formed
    (all_weaker (λ (i : Item). is_some (text_in i.deed) ≡ true → has_text_with texts t (body_of i) ≡ true) (λ (i : Item). is_some (text_in i.deed) ≡ true → has_text_with texts (front ++ t) (body_of i) ≡ true)
    (λ i own some. with_weaker texts t (front ++ t) (body_of i) (text_behind front t (body_of i)) (own some)) t (own_with texts t))
    (bodies_weaker (has_text_with texts front) (has_text_with texts (front ++ t)) base.boxes (λ body. with_weaker texts front (front ++ t) body (text_ahead front t body)) all)

-- what items showed does not matter
pub known_unshown : (texts : BaseTexts) (t now : List Item) (boxes : Boxes) → map unshown now ≡ map unshown t → all_bodies (has_text_with texts t) boxes ≡ true → all_bodies (has_text_with texts now) boxes ≡ true
known_unshown texts t now boxes same all =
    bodies_weaker (has_text_with texts t) (has_text_with texts now) boxes
    (λ body. with_weaker texts t now body (λ has. has_unshown now body ∙ ap (λ (s : List Item). has_text s body) same ∙ sym (has_unshown t body) ∙ has)) all
