-- What stands in the rows after whole lists of rows are put, and after mailboxes are made.
use Rattle.std.proofs.Common.{◌≡◌, ℕ, Bool, true, false, ◌||◌, cond, List, [], ◌∷◌, map, Option, Some, None, is_some, refl, sym, ap, ◌∙◌, subst, true≢false, Less, Equal, Greater, is_eq, is_lt}
use Rattle.std.specs.Ordering.{eq_by_cmp}
use Rattle.std.specs.Cmp.{eq_by_cmp_equiv, first_so, second_so}
use Rattle.std.specs.FinMap.Entries as rows
use Rattle.undo_base.specs.declared.keys.User.{User}
use Rattle.verb_core.specs.declared.mailbox.BoxId.{BoxId}
use Rattle.verb_core.specs.declared.mailbox.Mailbox.{Mailbox}
use Rattle.verb_core.specs.Mailboxes.{no_mail}
use Rattle.verb_core.specs.Boxes.{box_cmp, box_of, has_row, row_at, add_row, add_rows, is_rising}
use Rattle.verb_core.specs.Step.{Boxes, created, all_created}
use Rattle.verb_core.specs.Touched.{is_one}
use Rattle.verb_core.proofs.BoxLaws.{boxes_total, tied, rising-add_row, row_at-add_row}

pub tied_turned : (a b : BoxId) → eq_by_cmp box_cmp a b ≡ eq_by_cmp box_cmp b a
tied_turned a b = (eq_by_cmp_equiv boxes_total).symm a b

-- what is there, or else the other
abbrev pub first_there : {A : Type 0} → Option A → Option A → Option A
first_there None o = o
first_there (Some m) o = Some m

pub first_there-none : {A : Type 0} (o : Option A) → first_there o None ≡ o
first_there-none None = refl
first_there-none (Some m) = refl

pub first_there-again : {A : Type 0} (a b : Bool) (o : Option A) (x : A) → first_there (first_there o (cond a (Some x) None)) (cond b (Some x) None) ≡ first_there o (cond (a || b) (Some x) None)
first_there-again a b (Some m) x = refl
first_there-again true b None x = refl
first_there-again false b None x = refl

-- ---- rows in order

module _ {A : Type 0} where
  -- behind a row in order there is no other of its mailbox
  pub none_below : (id : BoxId) (rs : List (BoxId × A)) → rows.below_all box_cmp id rs ≡ true → row_at id rs ≡ None
  none_below id [] h = refl
  none_below id (r ∷ rs) h =
      elim (box_cmp id r.0) as (λ o. is_lt o ≡ true → row_at id rs ≡ None → cond (is_eq o) (Some r.1) (row_at id rs) ≡ None) [
        | Less ↦ λ _ rest. rest
        | Equal ↦ λ p _. absurd (true≢false (sym p))
        | Greater ↦ λ _ rest. rest
      ] (first_so _ _ h) (none_below id rs (second_so _ _ h))

-- ---- rows that are put

module _ {A : Type 0} where
  -- of two rows of a mailbox the first list's stands
  pub row_at-add_rows : (q : BoxId) (cs rs : List (BoxId × A)) → row_at q (add_rows cs rs) ≡ first_there (row_at q cs) (row_at q rs)
  row_at-add_rows q [] rs = refl
  row_at-add_rows q (c ∷ cs) rs =
      row_at-add_row q c.0 c.1 (add_rows cs rs)
      ∙ elim (eq_by_cmp box_cmp q c.0) as (λ b. cond b (Some c.1) (row_at q (add_rows cs rs)) ≡ first_there (cond b (Some c.1) (row_at q cs)) (row_at q rs)) [ true ↦ refl | false ↦ row_at-add_rows q cs rs ]

  pub rising-add_rows : (cs rs : List (BoxId × A)) → is_rising rs ≡ true → is_rising (add_rows cs rs) ≡ true
  rising-add_rows [] rs h = h
  rising-add_rows (c ∷ cs) rs h = rising-add_row c.0 c.1 (add_rows cs rs) (rising-add_rows cs rs h)

-- ---- mailboxes that are made

pub row_at-created : (q id : BoxId) (rs : Boxes) → row_at q (created id rs) ≡ first_there (row_at q rs) (cond (eq_by_cmp box_cmp id q) (Some no_mail) None)
row_at-created q id rs =
    elim (row_at id rs) as (λ o. row_at id rs ≡ o → row_at q (cond (is_some o) rs (add_row id no_mail rs)) ≡ first_there (row_at q rs) (cond (eq_by_cmp box_cmp id q) (Some no_mail) None)) [
      | Some m ↦ λ e. elim (eq_by_cmp box_cmp id q) as (λ b. eq_by_cmp box_cmp id q ≡ b → row_at q rs ≡ first_there (row_at q rs) (cond b (Some no_mail) None)) [
        | true ↦ λ t. let here : row_at q rs ≡ Some m = subst (λ (p : BoxId). row_at p rs ≡ Some m) (tied id q t) e in rw here
        | false ↦ λ t. sym (first_there-none (row_at q rs))
      ] refl
      | None ↦ λ e. row_at-add_row q id no_mail rs
          ∙ ap (λ b. cond b (Some no_mail) (row_at q rs)) (tied_turned q id)
          ∙ elim (eq_by_cmp box_cmp id q) as (λ b. eq_by_cmp box_cmp id q ≡ b → cond b (Some no_mail) (row_at q rs) ≡ first_there (row_at q rs) (cond b (Some no_mail) None)) [
            | true ↦ λ t. let none : row_at q rs ≡ None = subst (λ (p : BoxId). row_at p rs ≡ None) (tied id q t) e in rw none
            | false ↦ λ t. sym (first_there-none (row_at q rs))
          ] refl
    ] refl

pub rising-created : (id : BoxId) (rs : Boxes) → is_rising rs ≡ true → is_rising (created id rs) ≡ true
rising-created id rs h = elim (has_row id rs) as (λ b. is_rising (cond b rs (add_row id no_mail rs)) ≡ true) [ true ↦ h | false ↦ rising-add_row id no_mail rs h ]

module _ (u : User) where
  -- a mailbox that is there stays, and of those that are missing each that is named is new
  pub row_at-all_created : (q : BoxId) (names : List (List ℕ)) (rs : Boxes) → row_at q (all_created u names rs) ≡ first_there (row_at q rs) (cond (is_one (map (box_of u) names) q) (Some no_mail) None)
  row_at-all_created q [] rs = sym (first_there-none (row_at q rs))
  row_at-all_created q (n ∷ names) rs =
      row_at-all_created q names (created (box_of u n) rs)
      ∙ ap (λ o. first_there o (cond (is_one (map (box_of u) names) q) (Some no_mail) None)) (row_at-created q (box_of u n) rs)
      ∙ first_there-again (eq_by_cmp box_cmp (box_of u n) q) (is_one (map (box_of u) names) q) (row_at q rs) no_mail

  pub rising-all_created : (names : List (List ℕ)) (rs : Boxes) → is_rising rs ≡ true → is_rising (all_created u names rs) ≡ true
  rising-all_created [] rs h = h
  rising-all_created (n ∷ names) rs h = rising-all_created names (created (box_of u n) rs) (rising-created (box_of u n) rs h)

  -- by what is there before, and the names
  pub has_row-all_created : (q : BoxId) (names : List (List ℕ)) (rs : Boxes) → has_row q (all_created u names rs) ≡ (has_row q rs || is_one (map (box_of u) names) q)
  has_row-all_created q names rs = ap is_some (row_at-all_created q names rs) ∙ some (row_at q rs) (is_one (map (box_of u) names) q)
    where
      some : (o : Option Mailbox) (b : Bool) → is_some (first_there o (cond b (Some no_mail) None)) ≡ (is_some o || b)
      some (Some m) b = refl
      some None true = refl
      some None false = refl
