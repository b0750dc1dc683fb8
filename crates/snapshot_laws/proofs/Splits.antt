-- One more behind a list, and where a split of it falls.
use Rattle.std.proofs.Common.{◌≡◌, ◌⊎◌, inl, inr, List, [], ◌∷◌, ◌++◌, refl, ap}

-- it is the one at which the list is split, or is behind that one
pub record IsBehind {A : Type 0} (xs : List A) (r : A) (front : List A) (x : A) (rest : List A) : Type 0 where
  pub mid : List A
  pub rest_is : rest ≡ mid ++ r ∷ []
  pub split : xs ≡ front ++ x ∷ mid

pub record IsThere {A : Type 0} (xs : List A) (r : A) (front : List A) (x : A) (rest : List A) : Type 0 where
  pub none : rest ≡ []
  pub one : r ≡ x
  pub front_is : xs ≡ front

no_more : {A : Type 0} (front : List A) (x : A) (rest : List A) → [] ≡ front ++ x ∷ rest → ⊥
no_more [] x rest e = cc
no_more (f ∷ front) x rest e = cc

pub splits_end : {A : Type 0} (xs : List A) (r : A) (front : List A) (x : A) (rest : List A) → xs ++ r ∷ [] ≡ front ++ x ∷ rest → IsThere xs r front x rest ⊎ IsBehind xs r front x rest
splits_end [] r [] x rest e = inl (record { none = cc; one = cc; front_is = refl })
splits_end [] r (f ∷ front) x rest e = absurd (no_more front x rest (let none : [] ≡ front ++ x ∷ rest = cc in none))
splits_end (y ∷ ys) r [] x rest e = inr (record { mid = ys; rest_is = cc; split = (let same : y ≡ x = cc in ap (λ z. z ∷ ys) same) })
splits_end (y ∷ ys) r (f ∷ front) x rest e = by (splits_end ys r front x rest (let behind : ys ++ r ∷ [] ≡ front ++ x ∷ rest = cc in behind))
  where
    by : IsThere ys r front x rest ⊎ IsBehind ys r front x rest → IsThere (y ∷ ys) r (f ∷ front) x rest ⊎ IsBehind (y ∷ ys) r (f ∷ front) x rest
    by (inl there) = inl (record { none = there.none; one = there.one; front_is = (let same : ys ≡ front = there.front_is in cc) })
    by (inr behind) = inr (record { mid = behind.mid; rest_is = behind.rest_is; split = (let same : ys ≡ front ++ x ∷ behind.mid = behind.split in cc) })
