-- What holds of what an option has.
use Rattle.std.proofs.Common.{◌≡◌, ℕ, zero, suc, Bool, true, false, cond, List, [], ◌∷◌, Option, None, Some, option_map, slice_get, refl}
use Rattle.std.specs.Prelude.{IfSome}
use Rattle.std.specs.Option.{option_and_then}
use Rattle.std.specs.List.{AllByRecursion}

-- of one of two, whichever it is
pub if_has : {A : Type 0} (P : A → Type 0) (b : Bool) (x y : Option A) → IfSome x P → IfSome y P → IfSome (cond b x y) P
if_has P true x y h k = h
if_has P false x y h k = k

-- of one, where it is there
pub when_has : {A : Type 0} (P : A → Type 0) (b : Bool) (x : A) → (b ≡ true → P x) → IfSome (cond b (Some x) None) P
when_has P true x h = h refl
when_has P false x h = tt

module _ {A B : Type 0} (Q : A → Type 0) (P : B → Type 0) where
  pub then_has : (f : A → Option B) (o : Option A) → IfSome o Q → ((x : A) → Q x → IfSome (f x) P) → IfSome (option_and_then f o) P
  then_has f None h so = tt
  then_has f (Some x) h so = so x h

  pub mapped_has : (f : A → B) (o : Option A) → IfSome o Q → ((x : A) → Q x → P (f x)) → IfSome (option_map f o) P
  mapped_has f None h so = tt
  mapped_has f (Some x) h so = so x h

-- of whatever a thing gives
pub any_then : {A B : Type 0} (P : B → Type 0) (f : A → Option B) (o : Option A) → ((x : A) → IfSome (f x) P) → IfSome (option_and_then f o) P
any_then P f None so = tt
any_then P f (Some x) so = so x

pub any_mapped : {A B : Type 0} (P : B → Type 0) (f : A → B) (o : Option A) → ((x : A) → P (f x)) → IfSome (option_map f o) P
any_mapped P f None so = tt
any_mapped P f (Some x) so = so x

-- what each has, the one at a place has
pub at_has : {A : Type 0} (P : A → Type 0) (xs : List A) (k : ℕ) → AllByRecursion P xs → IfSome (slice_get xs k) P
at_has P [] k h = tt
at_has P (x ∷ xs) zero h = h.0
at_has P (x ∷ xs) (suc k) h = at_has P xs k h.1
