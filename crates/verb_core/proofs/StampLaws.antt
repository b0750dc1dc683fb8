-- Stamps name the mailboxes, and each is old or the item's number.
use Rattle.std.proofs.Common.{◌≡◌, ℕ, Bool, true, false, cond, List, [], ◌∷◌, map, Option, Some, None, is_some, refl, sym, ap, ◌∙◌, unwrap_or}
use Rattle.std.specs.Ordering.{eq_by_cmp}
use Rattle.verb_core.specs.declared.mailbox.BoxId.{BoxId}
use Rattle.verb_core.specs.declared.mailbox.Mailbox.{Mailbox}
use Rattle.verb_core.specs.Boxes.{box_cmp, has_row, row_at}
use Rattle.verb_core.specs.Store.{MailStore}
use Rattle.verb_core.specs.Step.{Boxes}
use Rattle.verb_core.specs.Stamps.{opening_stamps, stamps_after}
use Rattle.verb_core.proofs.BoxLaws.{tied}

abbrev ids_of : {A : Type 0} → List (BoxId × A) → List BoxId
ids_of rs = map (λ r. r.0) rs

ids_of-made : {A B : Type 0} (f : BoxId × A → B) (rs : List (BoxId × A)) → ids_of (map (λ r. (r.0, f r)) rs) ≡ ids_of rs
ids_of-made f [] = refl
ids_of-made f (r ∷ rs) = ap (λ (t : List BoxId). r.0 ∷ t) (ids_of-made f rs)

pub opening-ids : (s : MailStore) → ids_of (opening_stamps s) ≡ ids_of s.boxes
opening-ids s = ids_of-made _ s.boxes

pub after-ids : (number : ℕ) (boxes : Boxes) (stamps : List (BoxId × ℕ)) → ids_of (stamps_after number boxes stamps) ≡ ids_of boxes
after-ids number boxes stamps = ids_of-made (λ (r : BoxId × Mailbox). unwrap_or (row_at r.0 stamps) number) boxes

-- what is made of each mailbox's name stands in its row
row_at-made : {A B : Type 0} (f : BoxId → B) (id : BoxId) (rs : List (BoxId × A)) → row_at id (map (λ r. (r.0, f r.0)) rs) ≡ cond (has_row id rs) (Some (f id)) None
row_at-made f id [] = refl
row_at-made f id (r ∷ rs) =
    elim (eq_by_cmp box_cmp id r.0) as (λ b. eq_by_cmp box_cmp id r.0 ≡ b → cond b (Some (f r.0)) (row_at id (map (λ r. (r.0, f r.0)) rs)) ≡ cond (is_some (cond b (Some r.1) (row_at id rs))) (Some (f id)) None) [
      | true ↦ λ e. ap (λ (q : BoxId). Some (f q)) (sym (tied id r.0 e))
      | false ↦ λ e. row_at-made f id rs
    ] refl

-- whether there is a row depends on the names alone
has_row-ids : {A B : Type 0} (id : BoxId) (rs : List (BoxId × A)) (ss : List (BoxId × B)) → ids_of rs ≡ ids_of ss → has_row id rs ≡ has_row id ss
has_row-ids id rs ss same = by_ids id rs ∙ ap (among id) same ∙ sym (by_ids id ss)
  where
    among : BoxId → List BoxId → Bool
    among id [] = false
    among id (q ∷ qs) = cond (eq_by_cmp box_cmp id q) true (among id qs)

    by_ids : {A : Type 0} (id : BoxId) (rs : List (BoxId × A)) → has_row id rs ≡ among id (ids_of rs)
    by_ids id [] = refl
    by_ids id (r ∷ rs) =
        elim (eq_by_cmp box_cmp id r.0) as (λ b. is_some (cond b (Some r.1) (row_at id rs)) ≡ cond b true (among id (ids_of rs))) [
          | true ↦ refl
          | false ↦ by_ids id rs
        ]

pub stamp-each : (number : ℕ) (before after : Boxes) (stamps : List (BoxId × ℕ)) (id : BoxId) → ids_of stamps ≡ ids_of before
    → row_at id (stamps_after number after stamps) ≡ cond (has_row id after) (cond (has_row id before) (row_at id stamps) (Some number)) None
stamp-each number before after stamps id same =
    row_at-made (λ (q : BoxId). unwrap_or (row_at q stamps) number) id after
    ∙ ap (λ o. cond (has_row id after) o None) (there (row_at id stamps) ∙ ap (λ b. cond b (row_at id stamps) (Some number)) (has_row-ids id stamps before same))
  where
    there : (o : Option ℕ) → Some (unwrap_or o number) ≡ cond (is_some o) o (Some number)
    there None = refl
    there (Some n) = refl
