-- The messages of a store, counted by the names of its mailboxes.
use Rattle.std.proofs.Common.{◌≡◌, ℕ, Bool, true, false, List, [], ◌∷◌, length, map, Some, cond, unwrap_or, refl, sym, ap, ◌∙◌}
use Rattle.std.specs.Prelude.{sum_by, option_map}
use Rattle.std.specs.List.{sum}
use Rattle.std.specs.Ordering.{eq_by_cmp, is_eq, is_lt, ordering_reverse}
use Rattle.std.specs.declared.cmp.Ordering.{Ordering}
use Rattle.std.specs.declared.cmp.Ordering.TheVariants.{Less, Equal, Greater}
use Rattle.std.specs.Cmp.{tied_itself}
use Rattle.std.specs.FinMap.Entries as rows
use Rattle.std.proofs.lemmas.Bool.{and_parts}
use Rattle.std.proofs.lemmas.List.Sums.{sum-map}
use Rattle.verb_core.specs.declared.mailbox.BoxId.{BoxId}
use Rattle.verb_core.specs.declared.mailbox.Mailbox.{Mailbox}
use Rattle.verb_core.specs.Boxes.{box_cmp, is_rising, mail_at, row_at}
use Rattle.verb_core.proofs.BoxLaws.{boxes_total}
use Rattle.mail_desk.specs.Counting.{messages_in}

abbrev Rows : Type 0
Rows = List (BoxId × Mailbox)

-- what comes after is another
not_tied : (a b : BoxId) → is_lt (box_cmp a b) ≡ true → eq_by_cmp box_cmp b a ≡ false
not_tied a b less = ap is_eq (boxes_total.antisymm b a) ∙ reversed (box_cmp a b) less
  where
    reversed : (o : Ordering) → is_lt o ≡ true → is_eq (ordering_reverse o) ≡ false
    reversed Less e = refl
    reversed Equal e = cc
    reversed Greater e = cc

-- below the first row nothing of it is seen
skipped : (e : BoxId × Mailbox) (es ds : Rows) → rows.below_all box_cmp e.0 ds ≡ true
    → map (λ (r : BoxId × Mailbox). length (mail_at r.0 (e ∷ es))) ds ≡ map (λ (r : BoxId × Mailbox). length (mail_at r.0 es)) ds
skipped e es [] below = refl
skipped e es (d ∷ ds) below =
    let parts = and_parts _ _ below in
    let first : length (mail_at d.0 (e ∷ es)) ≡ length (mail_at d.0 es) =
    ap (λ (b : Bool). length (unwrap_or (option_map (λ (m : Mailbox). m.entries) (cond b (Some e.1) (row_at d.0 es))) [])) (not_tied e.0 d.0 parts.0) in
    λ j. first j ∷ skipped e es ds parts.1 j

-- the lengths by name are those of the rows
lengths_by_name : (boxes : Rows) → is_rising boxes ≡ true
    → map (λ (r : BoxId × Mailbox). length (mail_at r.0 boxes)) boxes ≡ map (λ (r : BoxId × Mailbox). length r.1.entries) boxes
lengths_by_name [] rising = refl
lengths_by_name (e ∷ es) rising =
    let parts = and_parts _ _ rising in
    let first : length (mail_at e.0 (e ∷ es)) ≡ length e.1.entries =
    ap (λ (b : Bool). length (unwrap_or (option_map (λ (m : Mailbox). m.entries) (cond b (Some e.1) (row_at e.0 es))) [])) (ap is_eq (tied_itself boxes_total e.0)) in
    let rest = skipped e es es parts.0 ∙ lengths_by_name es parts.1 in
    λ j. first j ∷ rest j

-- of rows that name the mailboxes, by the sum over their names
pub messages_named : (stamps : List (BoxId × ℕ)) (boxes : Rows) → is_rising boxes ≡ true
    → map (λ (r : BoxId × ℕ). r.0) stamps ≡ map (λ (r : BoxId × Mailbox). r.0) boxes
    → sum_by (λ (r : BoxId × ℕ). length (mail_at r.0 boxes)) stamps ≡ messages_in boxes
messages_named stamps boxes rising named =
    let by_id = λ (id : BoxId). length (mail_at id boxes) in
    sym (sum-map (λ (r : BoxId × ℕ). by_id r.0) stamps)
    ∙ ap sum (map-through by_id stamps ∙ ap (map by_id) named ∙ sym (map-through by_id boxes) ∙ lengths_by_name boxes rising)
    ∙ sum-map (λ (r : BoxId × Mailbox). length r.1.entries) boxes
  where
    map-through : {X : Type 0} (f : BoxId → ℕ) (rs : List (BoxId × X)) → map (λ (r : BoxId × X). f r.0) rs ≡ map f (map (λ (r : BoxId × X). r.0) rs)
    map-through f [] = refl
    map-through f (r ∷ rs) = λ j. f r.0 ∷ map-through f rs j
