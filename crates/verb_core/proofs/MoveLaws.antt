-- A RENAME gives each of its rows a name that no other row has.
use Rattle.std.proofs.Common.{◌≡◌, ℕ, ◌+◌, Bool, true, false, not, ◌||◌, cond, List, [], ◌∷◌, ◌++◌, map, filter, drop, length, Option, Some, None, is_some, refl, sym, ap, ◌∙◌, subst, true≢false, bytes_eq, eqb-true, append-nil}
use Rattle.std.specs.List.{list_all, list_any}
use Rattle.std.specs.Ordering.{eq_by_cmp}
use Rattle.std.specs.Cmp.{first_so, second_so}
use Rattle.std.specs.Cmp.Lexicographic.{bytes_decides}
use Rattle.undo_base.specs.declared.keys.User.{User}
use Rattle.verb_core.specs.declared.mailbox.BoxId.{BoxId}
use Rattle.verb_core.specs.declared.mailbox.Mailbox.{Mailbox}
use Rattle.verb_core.specs.Names.{is_empty, superiors, is_inferior, moved_name}
use Rattle.verb_core.specs.Boxes.{box_cmp, box_of, is_at_or_below, has_row, row_at, has_superiors, is_rising}
use Rattle.verb_core.specs.Step.{Boxes, all_created}
use Rattle.verb_core.specs.Touched.{is_one}
use Rattle.verb_core.proofs.BoxLaws.{tied, itself, bytes_eq-refl, row_at-where}
use Rattle.verb_core.proofs.NameLaws.{never_itself, through, below, below_parts, drop_front}
use Rattle.verb_core.proofs.RowLists.{none_below, has_row-all_created, rising-all_created}

-- ---- options and bools

pub none_is : {A : Type 0} (o : Option A) → is_some o ≡ false → o ≡ None
none_is None h = refl
none_is (Some x) h = absurd (true≢false h)

either_none : (b : Bool) → ◌≡◌ {A = Option Mailbox} (cond b None None) None
either_none true = refl
either_none false = refl

passed_over : {A : Type 0} (b : Bool) (x : A) (o : Option A) → cond b (Some x) o ≡ None → o ≡ None
passed_over true x o h = absurd (true≢false (ap is_some h))
passed_over false x o h = h

neither : (a b : Bool) → (a ≡ true → ⊥) → (b ≡ true → ⊥) → (a || b) ≡ false
neither true b p q = absurd (p refl)
neither false true p q = absurd (q refl)
neither false false p q = refl

untrue : (b : Bool) → (b ≡ true → ⊥) → b ≡ false
untrue true p = absurd (p refl)
untrue false p = refl

-- of all, also one that is among them
of_all : (p : List ℕ → Bool) (t : List ℕ) (xs : List (List ℕ)) → list_all p xs ≡ true → list_any (bytes_eq t) xs ≡ true → p t ≡ true
of_all p t [] h k = absurd (true≢false (sym k))
of_all p t (x ∷ xs) h k =
    elim (bytes_eq t x) as (λ b. bytes_eq t x ≡ b → (b || list_any (bytes_eq t) xs) ≡ true → p t ≡ true) [
      | true ↦ λ e _. subst (λ (n : List ℕ). p n ≡ true) (sym ((bytes_decides t x).0 e)) (first_so _ _ h)
      | false ↦ λ e k. of_all p t xs (second_so _ _ h) k
    ] refl k

-- ---- names

all_dropped : (xs : List ℕ) → drop (length xs) xs ≡ []
all_dropped [] = refl
all_dropped (x ∷ xs) = all_dropped xs

-- a name at or below the source begins with it
begins_with : (source n : List ℕ) → (bytes_eq source n || is_inferior source n) ≡ true → n ≡ source ++ drop (length source) n
begins_with source n h =
    elim (bytes_eq source n) as (λ b. bytes_eq source n ≡ b → (b || is_inferior source n) ≡ true → n ≡ source ++ drop (length source) n) [
      | true ↦ λ e _. subst (λ (m : List ℕ). m ≡ source ++ drop (length source) m) ((bytes_decides source n).0 e) (sym (append-nil source) ∙ ap (λ (t : List ℕ). source ++ t) (sym (all_dropped source)))
      | false ↦ λ e h. let parts : (r : List ℕ) × (n ≡ source ++ 47 ∷ r) = below_parts source n h in
          subst (λ (m : List ℕ). m ≡ source ++ drop (length source) m) (sym parts.1) (ap (λ (t : List ℕ). source ++ t) (sym (drop_front source (47 ∷ parts.0))))
    ] refl h

-- ---- rows

module _ (a : User) where
  -- the superiors of a mailbox that is there are there
  superior_there : (n t : List ℕ) (rs ss : Boxes) → list_all (has_superiors ss) rs ≡ true → has_row (box_of a n) rs ≡ true → is_inferior t n ≡ true → has_row (box_of a t) ss ≡ true
  superior_there n t [] ss whole there below = absurd (true≢false (sym there))
  superior_there n t (r ∷ rs) ss whole there below =
      elim (eq_by_cmp box_cmp (box_of a n) r.0) as (λ b. eq_by_cmp box_cmp (box_of a n) r.0 ≡ b → is_some (cond b (Some r.1) (row_at (box_of a n) rs)) ≡ true → has_row (box_of a t) ss ≡ true) [
        | true ↦ λ e _. of_all (λ name. has_row (box_of a name) ss) t (superiors n) (subst (λ (q : BoxId). list_all (λ name. has_row (box_of q.user name) ss) (superiors q.name) ≡ true) (sym (tied (box_of a n) r.0 e)) (first_so _ _ whole)) below
        | false ↦ λ e there. superior_there n t rs ss (second_so _ _ whole) there below
      ] refl there

  -- a mailbox that is made as a superior has its name
  is_superior : (n : List ℕ) (names : List (List ℕ)) → is_one (map (box_of a) names) (box_of a n) ≡ true → list_any (bytes_eq n) names ≡ true
  is_superior n [] h = h
  is_superior n (m ∷ names) h =
      elim (eq_by_cmp box_cmp (box_of a m) (box_of a n)) as (λ b. eq_by_cmp box_cmp (box_of a m) (box_of a n) ≡ b → (b || is_one (map (box_of a) names) (box_of a n)) ≡ true → (bytes_eq n m || list_any (bytes_eq n) names) ≡ true) [
        | true ↦ λ e _. let is : m ≡ n = ap (λ (q : BoxId). q.name) (tied (box_of a m) (box_of a n) e) in
            ap (λ b. b || list_any (bytes_eq n) names) (subst (λ (k : List ℕ). bytes_eq n k ≡ true) (sym is) (bytes_eq-refl n))
        | false ↦ λ e h. ap (λ b. bytes_eq n m || b) (is_superior n names h) ∙ or_true (bytes_eq n m)
      ] refl h
    where
      or_true : (b : Bool) → (b || true) ≡ true
      or_true true = refl
      or_true false = refl

  -- where the superiors of a free target are made, it is free still
  pub target_free : (rs : Boxes) (target : List ℕ) → has_row (box_of a target) rs ≡ false → row_at (box_of a target) (all_created a (superiors target) rs) ≡ None
  target_free rs target free =
      none_is _ (has_row-all_created a (box_of a target) (superiors target) rs
      ∙ neither _ _ (λ h. true≢false (sym h ∙ free)) (λ h. true≢false (sym (is_superior target (superiors target) h) ∙ never_itself target)))

  -- and so are the names below it, where each mailbox has its superiors
  below_free : (rs : Boxes) (target n : List ℕ) → list_all (has_superiors rs) rs ≡ true → has_row (box_of a target) rs ≡ false → is_inferior target n ≡ true → row_at (box_of a n) (all_created a (superiors target) rs) ≡ None
  below_free rs target n whole free below =
      none_is _ (has_row-all_created a (box_of a n) (superiors target) rs
      ∙ neither _ _
      (λ h. true≢false (sym (superior_there n target rs rs whole h below) ∙ free))
      (λ h. true≢false (sym (through target n target below (is_superior n (superiors target) h)) ∙ never_itself target)))

-- ---- the new rows

-- each row of the first list is new to those behind it and to the second list
abbrev pub AllNew : Boxes → Boxes → Type 0
AllNew [] rs = Unit {0}
AllNew (c ∷ cs) rs = (row_at c.0 cs ≡ None) × (row_at c.0 rs ≡ None) × AllNew cs rs

-- the rows under their new names
abbrev pub news : User → List ℕ → List ℕ → Boxes → Boxes
news a source target rs = map (λ (r : BoxId × Mailbox). (box_of a (moved_name source target r.0.name), r.1)) rs

module _ (a : User) (source target : List ℕ) where
  -- two names at or below the source that come to one name are one
  one_name : (m n : List ℕ) → (bytes_eq source m || is_inferior source m) ≡ true → (bytes_eq source n || is_inferior source n) ≡ true → moved_name source target m ≡ moved_name source target n → m ≡ n
  one_name m n h k is =
      let rests : drop (length source) m ≡ drop (length source) n = sym (drop_front target (drop (length source) m)) ∙ ap (drop (length target)) is ∙ drop_front target (drop (length source) n) in
      begins_with source m h ∙ ap (λ (t : List ℕ). source ++ t) rests ∙ sym (begins_with source n k)

  -- two rows of which one stands apart from the other get two names
  unlike : (r q : BoxId × Mailbox) → is_at_or_below a source r.0 ≡ true → is_at_or_below a source q.0 ≡ true → (o : Option Mailbox) → cond (eq_by_cmp box_cmp r.0 q.0) (Some q.1) o ≡ None → moved_name source target r.0.name ≡ moved_name source target q.0.name → ⊥
  unlike r q h k o none is =
      let names : r.0.name ≡ q.0.name = one_name r.0.name q.0.name (second_so _ _ h) (second_so _ _ k) is in
      let users : r.0.user.0 ≡ q.0.user.0 = sym (eqb-true a.0 r.0.user.0 (first_so _ _ h)) ∙ eqb-true a.0 q.0.user.0 (first_so _ _ k) in
      let same : r.0 ≡ q.0 = λ j. record { user = record { 0 = users j }; name = names j } in
      true≢false (ap (λ b. is_some (cond b (Some q.1) o)) (sym (subst (λ (p : BoxId). eq_by_cmp box_cmp r.0 p ≡ true) same (itself r.0))) ∙ ap is_some none)

  not_again : (r : BoxId × Mailbox) (rs : Boxes) → is_at_or_below a source r.0 ≡ true → row_at r.0 rs ≡ None → row_at (box_of a (moved_name source target r.0.name)) (news a source target (filter (λ q. is_at_or_below a source q.0) rs)) ≡ None
  not_again r [] below none = refl
  not_again r (q ∷ rs) below none =
      let later : row_at r.0 rs ≡ None = passed_over (eq_by_cmp box_cmp r.0 q.0) q.1 (row_at r.0 rs) none in
      elim (is_at_or_below a source q.0) as (λ b. is_at_or_below a source q.0 ≡ b →
      row_at (box_of a (moved_name source target r.0.name)) (news a source target (cond b (q ∷ filter (λ p. is_at_or_below a source p.0) rs) (filter (λ p. is_at_or_below a source p.0) rs))) ≡ None) [
        | true ↦ λ e. elim (eq_by_cmp box_cmp (box_of a (moved_name source target r.0.name)) (box_of a (moved_name source target q.0.name))) as (λ b.
            eq_by_cmp box_cmp (box_of a (moved_name source target r.0.name)) (box_of a (moved_name source target q.0.name)) ≡ b →
            cond b (Some q.1) (row_at (box_of a (moved_name source target r.0.name)) (news a source target (filter (λ p. is_at_or_below a source p.0) rs))) ≡ None) [
              | true ↦ λ t. absurd (unlike r q below e (row_at r.0 rs) none (ap (λ (p : BoxId). p.name) (tied (box_of a (moved_name source target r.0.name)) (box_of a (moved_name source target q.0.name)) t)))
              | false ↦ λ t. not_again r rs below later
            ] refl
        | false ↦ λ e. not_again r rs below later
      ] refl

  pub all_news : (rs olds : Boxes) → is_rising rs ≡ true → ((m : List ℕ) → (bytes_eq source m || is_inferior source m) ≡ true → row_at (box_of a (moved_name source target m)) olds ≡ None)
      → AllNew (news a source target (filter (λ r. is_at_or_below a source r.0) rs)) olds
  all_news [] olds rising free = tt
  all_news (r ∷ rs) olds rising free =
      elim (is_at_or_below a source r.0) as (λ b. is_at_or_below a source r.0 ≡ b → AllNew (news a source target (cond b (r ∷ filter (λ q. is_at_or_below a source q.0) rs) (filter (λ q. is_at_or_below a source q.0) rs))) olds) [
        | true ↦ λ e. (not_again r rs e (none_below r.0 rs (first_so _ _ rising)), free r.0.name (second_so _ _ e), all_news rs olds (second_so _ _ rising) free)
        | false ↦ λ e. all_news rs olds (second_so _ _ rising) free
      ] refl

  -- where the superiors of a free target are made, the rows at and below the source get names that are new
  pub moved_free : (rs : Boxes) → list_all (has_superiors rs) rs ≡ true → is_empty target ≡ false → has_row (box_of a target) rs ≡ false → (m : List ℕ) → (bytes_eq source m || is_inferior source m) ≡ true
      → row_at (box_of a (moved_name source target m)) (all_created a (superiors target) rs) ≡ None
  moved_free rs whole named free m h =
      elim (bytes_eq source m) as (λ b. bytes_eq source m ≡ b → (b || is_inferior source m) ≡ true → row_at (box_of a (moved_name source target m)) (all_created a (superiors target) rs) ≡ None) [
        | true ↦ λ e _. subst (λ (n : List ℕ). row_at (box_of a n) (all_created a (superiors target) rs) ≡ None)
            (sym (append-nil target) ∙ ap (λ (t : List ℕ). target ++ t) (sym (all_dropped source) ∙ ap (drop (length source)) ((bytes_decides source m).0 e))) (target_free a rs target free)
        | false ↦ λ e h. let parts : (r : List ℕ) × (m ≡ source ++ 47 ∷ r) = below_parts source m h in
            subst (λ (n : List ℕ). row_at (box_of a n) (all_created a (superiors target) rs) ≡ None)
            (ap (λ (t : List ℕ). target ++ t) (sym (drop_front source (47 ∷ parts.0)) ∙ ap (drop (length source)) (sym parts.1)))
            (below_free a rs target (target ++ 47 ∷ parts.0) whole free (below target parts.0 named))
      ] refl h

  pub all_new : (rs : Boxes) → is_rising rs ≡ true → list_all (has_superiors rs) rs ≡ true → is_empty target ≡ false → has_row (box_of a target) rs ≡ false
      → AllNew (news a source target (filter (λ r. is_at_or_below a source r.0) (all_created a (superiors target) rs))) (filter (λ r. not (is_at_or_below a source r.0)) (all_created a (superiors target) rs))
  all_new rs rising whole named free = all_news (all_created a (superiors target) rs) _ (rising-all_created a (superiors target) rs rising) (λ m h.
      row_at-where (λ q. not (is_at_or_below a source q)) (box_of a (moved_name source target m)) (all_created a (superiors target) rs)
      ∙ ap (λ o. cond (not (is_at_or_below a source (box_of a (moved_name source target m)))) o None) (moved_free rs whole named free m h)
      ∙ either_none (not (is_at_or_below a source (box_of a (moved_name source target m)))))
