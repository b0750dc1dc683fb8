-- The newest snapshot, where one was taken behind the last item.
use Rattle.std.proofs.Common.{◌≡◌, ◌∙◌, ℕ, ◌-◌, arith, Bool, cond, true, false, refl, ap, ap₂, nat_le, nat_lt, List, [], ◌∷◌, ◌++◌, filter, get_or, length, length-append}
use Rattle.std.proofs.lemmas.Bool.Decides.{nat_tests}
use Rattle.std.proofs.lemmas.List.Elements.{filter-append}
use Rattle.std.proofs.Math.Seq.{get_or-append_seam}
use Rattle.store_kept.specs.Kept.{newest_at, not_behind, placed}

abbrev below : ℕ → List ℕ → List ℕ
below n xs = filter (λ (p : ℕ). nat_lt p n) xs

abbrev above : ℕ → List ℕ → List ℕ
above n xs = filter (λ (p : ℕ). nat_lt n p) xs

lower_stay : (n : ℕ) (xs : List ℕ) → not_behind n (below n xs) ≡ below n xs
lower_stay n [] = refl
lower_stay n (x ∷ xs) = by (lower_stay n xs) (nat_lt x n) refl
  where
    by : not_behind n (below n xs) ≡ below n xs → (b : Bool) → nat_lt x n ≡ b → not_behind n (cond b (x ∷ below n xs) (below n xs)) ≡ cond b (x ∷ below n xs) (below n xs)
    by rests true lower =
        let le : nat_le x n ≡ true = grind (arith, nat_tests) in
        ap (λ (b : Bool). cond b (x ∷ not_behind n (below n xs)) (not_behind n (below n xs))) le ∙ ap (λ (rest : List ℕ). x ∷ rest) rests
    by rests false higher = rests

higher_go : (n : ℕ) (xs : List ℕ) → not_behind n (above n xs) ≡ []
higher_go n [] = refl
higher_go n (x ∷ xs) = by (higher_go n xs) (nat_lt n x) refl
  where
    by : not_behind n (above n xs) ≡ [] → (b : Bool) → nat_lt n x ≡ b → not_behind n (cond b (x ∷ above n xs) (above n xs)) ≡ []
    by rests true higher =
        let not_le : nat_le x n ≡ false = grind (arith, nat_tests) in
        ap (λ (b : Bool). cond b (x ∷ not_behind n (above n xs)) (not_behind n (above n xs))) not_le ∙ rests
    by rests false lower = rests

itself_stays : (n : ℕ) (xs : List ℕ) → not_behind n (n ∷ above n xs) ≡ n ∷ []
itself_stays n xs =
    let le : nat_le n n ≡ true = grind (arith, nat_tests) in
    ap (λ (b : Bool). cond b (n ∷ not_behind n (above n xs)) (not_behind n (above n xs))) le ∙ ap (λ (rest : List ℕ). n ∷ rest) (higher_go n xs)

-- it is the one that was taken there
pub newest_here : (n : ℕ) (places : List ℕ) → newest_at n (placed n places) ≡ n
newest_here n places =
    let low : List ℕ = below n places in
    let rest : not_behind n (placed n places) ≡ low ++ n ∷ [] =
    filter-append (λ (p : ℕ). nat_le p n) low (n ∷ above n places) ∙ ap₂ (λ (xs ys : List ℕ). xs ++ ys) (lower_stay n places) (itself_stays n places) in
    let last : length (low ++ n ∷ []) - 1 ≡ length low = omega (arith, length-append low (n ∷ [])) in
    ap (λ (xs : List ℕ). get_or xs (length xs - 1) 0) rest
    ∙ ap (λ (k : ℕ). get_or (low ++ n ∷ []) k 0) last
    ∙ get_or-append_seam low n [] 0
