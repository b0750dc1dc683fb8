-- What may be there has a property.
use Rattle.std.proofs.Common.{◌≡◌, Bool, true, false, Option, Some, None, refl}
use Rattle.std.specs.Prelude.{option_and_then, option_map, if◌then◌else◌}

-- what is there has the property
abbrev pub Each : {A : Type 0} → (A → Type 0) → Option A → Type 0
Each P None = Unit {0}
Each P (Some x) = P x

pub each_then : {A B : Type 0} (P : A → Type 0) (Q : B → Type 0) (f : A → Option B) → ((x : A) → P x → Each Q (f x)) → (o : Option A) → Each P o → Each Q (option_and_then f o)
each_then P Q f so None h = tt
each_then P Q f so (Some x) h = so x h

pub each_map : {A B : Type 0} (P : A → Type 0) (Q : B → Type 0) (f : A → B) → ((x : A) → P x → Q (f x)) → (o : Option A) → Each P o → Each Q (option_map f o)
each_map P Q f so None h = tt
each_map P Q f so (Some x) h = so x h

pub each_weaker : {A : Type 0} (P Q : A → Type 0) → ((x : A) → P x → Q x) → (o : Option A) → Each P o → Each Q o
each_weaker P Q so None h = tt
each_weaker P Q so (Some x) h = so x h

abbrev pub Anything : {A : Type 0} → A → Type 0
Anything x = Unit {0}

pub anything : {A : Type 0} (o : Option A) → Each Anything o
anything None = tt
anything (Some x) = tt

-- what is there where a test passes
pub each_if : {A : Type 0} (P : A → Type 0) (t : Bool) (o : Option A) → Each P o → Each P (if t then o else None)
each_if P true o h = h
each_if P false o h = tt

-- what is there because a test passes
pub each_when : {A : Type 0} (P : A → Type 0) (t : Bool) (x : A) → (t ≡ true → P x) → Each P (if t then Some x else None)
each_when P true x h = h refl
each_when P false x h = tt
