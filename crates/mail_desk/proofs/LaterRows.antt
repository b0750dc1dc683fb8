-- Rows of later users stand behind all that an item changes.
use Rattle.std.proofs.Common.{◌≡◌, ℕ, Bool, true, false, not, cond, List, [], ◌∷◌, ◌++◌, reverse, Some, is_some, refl, ap, sym, ◌∙◌, is_lt, Less, Equal, Greater, ltb-true}
use Rattle.std.proofs.lemmas.List.{append_assoc, reverse-append}
use Rattle.std.specs.List.{list_all}
use Rattle.std.specs.Ordering.{eq_by_cmp, nat_cmp, ordering_then}
use Rattle.std.specs.Cmp.{first_so, second_so}
use Rattle.std.specs.Cmp.Lexicographic.{slice_cmp}
use Rattle.std.specs.FinMap.Entries as rows
use Rattle.undo_base.specs.declared.keys.User.{User}
use Rattle.verb_core.specs.declared.mailbox.BoxId.{BoxId}
use Rattle.verb_core.specs.Boxes.{box_cmp, box_of, is_rising, row_at, has_row, add_row, drop_row}
use Rattle.verb_core.proofs.RowLists.{none_below}
use Rattle.verb_core.proofs.Searched.{lower_is}
use Rattle.mail_desk.specs.declared.restamp.StampChange.{StampChange}
use Rattle.mail_desk.specs.declared.restamp.StampChange.TheVariants.{Made, Put, Gone, Moved}
use Rattle.mail_desk.specs.Stamping.{StampRows, all_changed, changed, is_later}
use Rattle.mail_desk.proofs.RowPlaces.{dropped_none}

-- ---- what is done in front of them

all_below : (u : User) (name : List ℕ) (ts : StampRows) → list_all (is_later u) ts ≡ true → rows.below_all box_cmp (box_of u name) ts ≡ true
all_below u name [] later = refl
all_below u name (t ∷ ts) later =
    let less : box_cmp (box_of u name) t.0 ≡ Less = ap (λ o. ordering_then o (slice_cmp nat_cmp name t.0.name)) (lower_is u.0 t.0.user.0 (ltb-true u.0 t.0.user.0 (first_so _ _ later))) in
    rw less (all_below u name ts (second_so _ _ later))

module _ (id : BoxId) (ts : StampRows) (below : rows.below_all box_cmp id ts ≡ true) where
  added : (number : ℕ) (fs : StampRows) → add_row id number (fs ++ ts) ≡ add_row id number fs ++ ts
  added number [] =
      elim ts as (λ (es : StampRows). rows.below_all box_cmp id es ≡ true → add_row id number es ≡ (id, number) ∷ es) [
        | [] ↦ λ _. refl
        | t ∷ es ↦ λ b. elim (box_cmp id t.0) as (λ o. is_lt o ≡ true → rows.by_order o ((id, number) ∷ t ∷ es) ((t.0, number) ∷ es) (t ∷ add_row id number es) ≡ (id, number) ∷ t ∷ es) [
          | Less ↦ λ _. refl
          | Equal ↦ λ e. search e
          | Greater ↦ λ e. search e
        ] (first_so _ _ b)
      ] below
  added number (f ∷ fs) =
      elim (box_cmp id f.0) as (λ o. rows.by_order o ((id, number) ∷ f ∷ (fs ++ ts)) ((f.0, number) ∷ (fs ++ ts)) (f ∷ add_row id number (fs ++ ts)) ≡ rows.by_order o ((id, number) ∷ f ∷ fs) ((f.0, number) ∷ fs) (f ∷ add_row id number fs) ++ ts) [
        | Less ↦ refl
        | Equal ↦ refl
        | Greater ↦ ap (λ (es : StampRows). f ∷ es) (added number fs)
      ]

  dropped : (fs : StampRows) → drop_row id (fs ++ ts) ≡ drop_row id fs ++ ts
  dropped [] = dropped_none id ts below
  dropped (f ∷ fs) =
      elim (eq_by_cmp box_cmp id f.0) as (λ b. cond (not b) (f ∷ drop_row id (fs ++ ts)) (drop_row id (fs ++ ts)) ≡ cond (not b) (f ∷ drop_row id fs) (drop_row id fs) ++ ts) [
        | true ↦ dropped fs
        | false ↦ ap (λ (es : StampRows). f ∷ es) (dropped fs)
      ]

  there : (fs : StampRows) → has_row id (fs ++ ts) ≡ has_row id fs
  there [] = ap is_some (none_below id ts below)
  there (f ∷ fs) =
      elim (eq_by_cmp box_cmp id f.0) as (λ b. is_some (cond b (Some f.1) (row_at id (fs ++ ts))) ≡ is_some (cond b (Some f.1) (row_at id fs))) [
        | true ↦ refl
        | false ↦ there fs
      ]

chosen : (b : Bool) (xs ys ts : StampRows) → cond b (xs ++ ts) (ys ++ ts) ≡ cond b xs ys ++ ts
chosen true xs ys ts = refl
chosen false xs ys ts = refl

one_changed : (number : ℕ) (u : User) (c : StampChange) (fs ts : StampRows) → list_all (is_later u) ts ≡ true → changed number u c (fs ++ ts) ≡ changed number u c fs ++ ts
one_changed number u (Made name) fs ts later =
    let below = all_below u name ts later in
    ap (λ b. cond b (fs ++ ts) (add_row (box_of u name) number (fs ++ ts))) (there (box_of u name) ts below fs)
    ∙ ap (λ (es : StampRows). cond (has_row (box_of u name) fs) (fs ++ ts) es) (added (box_of u name) ts below number fs)
    ∙ chosen (has_row (box_of u name) fs) fs (add_row (box_of u name) number fs) ts
one_changed number u (Put name) fs ts later = added (box_of u name) ts (all_below u name ts later) number fs
one_changed number u (Gone name) fs ts later = dropped (box_of u name) ts (all_below u name ts later) fs
one_changed number u (Moved m) fs ts later =
    let from = box_of u m.from in
    let to = box_of u m.to in
    let below = all_below u m.from ts later in
    ap (λ b. cond b (add_row to number (drop_row from (fs ++ ts))) (fs ++ ts)) (there from ts below fs)
    ∙ ap (λ (es : StampRows). cond (has_row from fs) (add_row to number es) (fs ++ ts)) (dropped from ts below fs)
    ∙ ap (λ (es : StampRows). cond (has_row from fs) es (fs ++ ts)) (added to ts (all_below u m.to ts later) number (drop_row from fs))
    ∙ chosen (has_row from fs) (add_row to number (drop_row from fs)) fs ts

pub changed_before : (number : ℕ) (u : User) (cs : List StampChange) (fs ts : StampRows) → list_all (is_later u) ts ≡ true → all_changed number u cs (fs ++ ts) ≡ all_changed number u cs fs ++ ts
changed_before number u [] fs ts later = refl
changed_before number u (c ∷ cs) fs ts later =
    ap (all_changed number u cs) (one_changed number u c fs ts later) ∙ changed_before number u cs (changed number u c fs) ts later

-- ---- set aside

-- the rows in front of others rise
below_front : (id : BoxId) (fs ts : StampRows) → rows.below_all box_cmp id (fs ++ ts) ≡ true → rows.below_all box_cmp id fs ≡ true
below_front id [] ts h = refl
below_front id (f ∷ fs) ts h =
    let first : is_lt (box_cmp id f.0) ≡ true = first_so _ _ h in
    rw first (below_front id fs ts (second_so _ _ h))

pub rising_front : (fs ts : StampRows) → is_rising (fs ++ ts) ≡ true → is_rising fs ≡ true
rising_front [] ts h = refl
rising_front (f ∷ fs) ts h =
    let first : rows.below_all box_cmp f.0 fs ≡ true = below_front f.0 fs ts (first_so _ _ h) in
    rw first (rising_front fs ts (second_so _ _ h))

-- one more is set aside
pub aside_more : (fs gs : StampRows) (r : BoxId × ℕ) → fs ++ reverse (gs ++ r ∷ []) ≡ (fs ++ r ∷ []) ++ reverse gs
aside_more fs gs r = ap (λ (es : StampRows). fs ++ es) (reverse-append gs (r ∷ [])) ∙ sym (append_assoc fs (r ∷ []) (reverse gs))

pub later_more : (u : User) (gs : StampRows) (r : BoxId × ℕ) → is_later u r ≡ true → list_all (is_later u) (reverse gs) ≡ true → list_all (is_later u) (reverse (gs ++ r ∷ [])) ≡ true
later_more u gs r one all = ap (list_all (is_later u)) (reverse-append gs (r ∷ [])) ∙ rw one all
