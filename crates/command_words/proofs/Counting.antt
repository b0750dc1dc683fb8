-- Lists of words by their number.
use Rattle.std.proofs.Common.{◌≡◌, ℕ, List, [], ◌∷◌, map, length, get_or, ◌<◌, ◌≤◌, Some, None, arith, refl}
use Rattle.command_words.specs.Usage.{with_two, with_ports, some_port, by_number}

-- five words
pub five : {X : Type 0} (f : X → List ℕ) (xs : List X) (a c d e : X) → 5 ≤ length xs → length xs < 6
    → a ≡ get_or xs 0 a → c ≡ get_or xs 2 c → d ≡ get_or xs 3 d → e ≡ get_or xs 4 e
    → with_ports (f a) (f c) (f d) (f e) (Some None) ≡ by_number (map f xs)
five f [] a c d e l u p q r t = absurd (omega arith)
five f (x ∷ []) a c d e l u p q r t = absurd (omega arith)
five f (x ∷ s ∷ []) a c d e l u p q r t = absurd (omega arith)
five f (x ∷ s ∷ y ∷ []) a c d e l u p q r t = absurd (omega arith)
five f (x ∷ s ∷ y ∷ z ∷ []) a c d e l u p q r t = absurd (omega arith)
five f (x ∷ s ∷ y ∷ z ∷ w ∷ []) a c d e l u p q r t = rw (p, q, r, t) refl
five f (x ∷ s ∷ y ∷ z ∷ w ∷ v ∷ rest) a c d e l u p q r t = absurd (omega arith)

-- six words
pub six : {X : Type 0} (f : X → List ℕ) (xs : List X) (a c d e g : X) → 6 ≤ length xs → length xs < 7
    → a ≡ get_or xs 0 a → c ≡ get_or xs 2 c → d ≡ get_or xs 3 d → e ≡ get_or xs 4 e → g ≡ get_or xs 5 g
    → with_ports (f a) (f c) (f d) (f e) (some_port (f g)) ≡ by_number (map f xs)
six f [] a c d e g l u p q r t o = absurd (omega arith)
six f (x ∷ []) a c d e g l u p q r t o = absurd (omega arith)
six f (x ∷ s ∷ []) a c d e g l u p q r t o = absurd (omega arith)
six f (x ∷ s ∷ y ∷ []) a c d e g l u p q r t o = absurd (omega arith)
six f (x ∷ s ∷ y ∷ z ∷ []) a c d e g l u p q r t o = absurd (omega arith)
six f (x ∷ s ∷ y ∷ z ∷ w ∷ []) a c d e g l u p q r t o = absurd (omega arith)
six f (x ∷ s ∷ y ∷ z ∷ w ∷ v ∷ []) a c d e g l u p q r t o = rw (p, q, r, t, o) refl
six f (x ∷ s ∷ y ∷ z ∷ w ∷ v ∷ k ∷ rest) a c d e g l u p q r t o = absurd (omega arith)

-- three words
pub three : {X : Type 0} (f : X → List ℕ) (xs : List X) (a c : X) → 3 ≤ length xs → length xs < 4 → a ≡ get_or xs 0 a → c ≡ get_or xs 2 c
    → with_two (f a) (f c) ≡ by_number (map f xs)
three f [] a c l u p q = absurd (omega arith)
three f (x ∷ []) a c l u p q = absurd (omega arith)
three f (x ∷ s ∷ []) a c l u p q = absurd (omega arith)
three f (x ∷ s ∷ y ∷ []) a c l u p q = rw (p, q) refl
three f (x ∷ s ∷ y ∷ z ∷ rest) a c l u p q = absurd (omega arith)

-- four
pub between : {X : Type 0} (f : X → List ℕ) (xs : List X) → 4 ≤ length xs → length xs < 5 → None ≡ by_number (map f xs)
between f [] l u = absurd (omega arith)
between f (x ∷ []) l u = absurd (omega arith)
between f (x ∷ s ∷ []) l u = absurd (omega arith)
between f (x ∷ s ∷ y ∷ []) l u = absurd (omega arith)
between f (x ∷ s ∷ y ∷ z ∷ []) l u = refl
between f (x ∷ s ∷ y ∷ z ∷ w ∷ rest) l u = absurd (omega arith)

-- more than six
pub above : {X : Type 0} (f : X → List ℕ) (xs : List X) → 7 ≤ length xs → None ≡ by_number (map f xs)
above f [] l = absurd (omega arith)
above f (x ∷ []) l = absurd (omega arith)
above f (x ∷ s ∷ []) l = absurd (omega arith)
above f (x ∷ s ∷ y ∷ []) l = absurd (omega arith)
above f (x ∷ s ∷ y ∷ z ∷ []) l = absurd (omega arith)
above f (x ∷ s ∷ y ∷ z ∷ w ∷ []) l = absurd (omega arith)
above f (x ∷ s ∷ y ∷ z ∷ w ∷ v ∷ []) l = absurd (omega arith)
above f (x ∷ s ∷ y ∷ z ∷ w ∷ v ∷ k ∷ rest) l = refl
