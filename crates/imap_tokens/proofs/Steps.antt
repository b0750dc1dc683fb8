-- What an optional step was made from.
use Rattle.std.proofs.Common.{◌≡◌, Option, None, Some, option_map, option_and_then, refl}
use Rattle.std.proofs.lemmas.Option.{same_Some}

pub record Stepped {X Y : Type 0} (o : Option X) (f : X → Option Y) (y : Y) : Type 0 where
  pub value : X
  pub was : o ≡ Some value
  pub gives : f value ≡ Some y

pub stepped : {X Y : Type 0} (o : Option X) (f : X → Option Y) (y : Y) → option_and_then f o ≡ Some y → Stepped o f y
stepped None f y e = absurd (let wrong : None ≡ Some y = e in cc)
stepped (Some x) f y e = record { value = x; was = refl; gives = e }

pub record Mapped {X Y : Type 0} (o : Option X) (f : X → Y) (y : Y) : Type 0 where
  pub value : X
  pub was : o ≡ Some value
  pub is : f value ≡ y

pub mapped : {X Y : Type 0} (o : Option X) (f : X → Y) (y : Y) → option_map f o ≡ Some y → Mapped o f y
mapped None f y e = absurd (let wrong : None ≡ Some y = e in cc)
mapped (Some x) f y e = record { value = x; was = refl; is = same_Some _ _ e }
