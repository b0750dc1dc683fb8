-- Whether two values are the same, of types whose values are told apart by numbers.
use Rattle.std.proofs.Common.{◌≡◌, ◌⊎◌, ℕ, List, refl, ap, subst, inl, inr}
use Rattle.std.proofs.lemmas.Bool.Decides.{eqb_tells}
use Rattle.std.specs.Coded.{Coded, codes}
use base.Stored.{Gv, gnil, gnum, gcons}
use Rattle.store_kept.specs.Kept.{Kept}

abbrev pub IsSame : {A : Type 0} → A → A → Type 0
IsSame x y = (x ≡ y) ⊎ (x ≡ y → ⊥)

abbrev IsNil : Gv → Type 0
IsNil gnil = Unit {0}
IsNil (gnum n) = ⊥
IsNil (gcons a b) = ⊥

abbrev IsNum : Gv → Type 0
IsNum gnil = ⊥
IsNum (gnum n) = Unit {0}
IsNum (gcons a b) = ⊥

abbrev IsCons : Gv → Type 0
IsCons gnil = ⊥
IsCons (gnum n) = ⊥
IsCons (gcons a b) = Unit {0}

abbrev num_of : Gv → ℕ
num_of gnil = 0
num_of (gnum n) = n
num_of (gcons a b) = 0

abbrev head_of : Gv → Gv
head_of gnil = gnil
head_of (gnum n) = gnil
head_of (gcons a b) = a

abbrev tail_of : Gv → Gv
tail_of gnil = gnil
tail_of (gnum n) = gnil
tail_of (gcons a b) = b

same_nums : (m n : ℕ) → IsSame (gnum m) (gnum n)
same_nums m n = elim (eqb_tells m n) as (λ _. IsSame (gnum m) (gnum n)) [
  | inl same ↦ inl (ap gnum same.1)
  | inr other ↦ inr (λ e. other.1 (ap num_of e))
]

same_pairs : (a b c d : Gv) → IsSame a c → IsSame b d → IsSame (gcons a b) (gcons c d)
same_pairs a b c d (inl e) (inl f) = inl (λ i. gcons (e i) (f i))
same_pairs a b c d (inl e) (inr f) = inr (λ g. f (ap tail_of g))
same_pairs a b c d (inr e) other = inr (λ g. e (ap head_of g))

same_values : (x y : Gv) → IsSame x y
same_values gnil gnil = inl refl
same_values gnil (gnum n) = inr (λ e. subst IsNil e tt)
same_values gnil (gcons c d) = inr (λ e. subst IsNil e tt)
same_values (gnum m) gnil = inr (λ e. subst IsNum e tt)
same_values (gnum m) (gnum n) = same_nums m n
same_values (gnum m) (gcons c d) = inr (λ e. subst IsNum e tt)
same_values (gcons a b) gnil = inr (λ e. subst IsCons e tt)
same_values (gcons a b) (gnum n) = inr (λ e. subst IsCons e tt)
same_values (gcons a b) (gcons c d) = same_pairs a b c d (same_values a c) (same_values b d)

same_coded : {A : Type 0} → (coded : Coded A) → (x y : A) → IsSame (coded.code x) (coded.code y) → IsSame x y
same_coded coded x y (inl e) = inl (coded.inj x y e)
same_coded coded x y (inr e) = inr (λ f. e (ap coded.code f))

-- two values are the same, or they are not
pub decided : {A : Type 0} → (coded : Coded A) → (x y : A) → IsSame x y
decided coded x y = same_coded coded x y (same_values (coded.code x) (coded.code y))

-- two of what is kept
pub kept_decided : (x y : Kept) → IsSame x y
kept_decided x y = decided (Prim.hlevel (codes)) x y

-- two texts
pub text_decided : (x y : List ℕ) → IsSame x y
text_decided x y = decided (Prim.hlevel (codes)) x y
