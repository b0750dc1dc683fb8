-- Lists of sealed payloads.
use Rattle.std.proofs.Common.{◌≡◌, ◌⊎◌, inl, inr, ℕ, zero, suc, ◌<◌, ◌≤◌, List, [], ◌∷◌, ◌++◌, length, take, drop, refl, sym, ◌∙◌, ap, subst, arith, append_assoc}
use Rattle.std.proofs.lemmas.List.{append-nil, take-append-drop, take-append-le, take_at, drop_at, drop-append-le}
use Rattle.std.proofs.lemmas.List.Concat.{flat_map-append}
use Rattle.std.specs.List.{AllByRecursion}
use Rattle.seal_log.specs.Journal.{frame, sealed, BeginsClosed, IsPayload, StandsFor}
use Rattle.seal_log.specs.Loading.{GoesOn}

pub sealed-append : (a b : List (List ℕ)) → sealed (a ++ b) ≡ sealed a ++ sealed b
sealed-append a b = flat_map-append (λ (p : List ℕ). 85 ∷ frame p) a b

pub all-append : (a b : List (List ℕ)) → AllByRecursion IsPayload a → AllByRecursion IsPayload b → AllByRecursion IsPayload (a ++ b)
all-append [] b fit_a fit_b = fit_b
all-append (p ∷ a) b fit_a fit_b = (fit_a.0, all-append a b fit_a.1 fit_b)

pub all_first : (a b : List (List ℕ)) → AllByRecursion IsPayload (a ++ b) → AllByRecursion IsPayload a
all_first [] b fit = tt
all_first (p ∷ a) b fit = (fit.0, all_first a b fit.1)

pub all_last : (a b : List (List ℕ)) → AllByRecursion IsPayload (a ++ b) → AllByRecursion IsPayload b
all_last [] b fit = fit
all_last (p ∷ a) b fit = all_last a b fit.1

-- whatever stands behind a gate that is not open
pub closed_then : (rest more : List ℕ) → BeginsClosed rest → BeginsClosed (rest ++ more)
closed_then [] more closed = absurd closed
closed_then (gate ∷ rest) more closed = closed

pub closed_take : (k : ℕ) (rest : List ℕ) → 0 < k → BeginsClosed rest → BeginsClosed (take k rest)
closed_take zero rest some closed = absurd (omega (arith, some))
closed_take (suc k) [] some closed = absurd closed
closed_take (suc k) (gate ∷ rest) some closed = closed

pub some_closed : (rest : List ℕ) → BeginsClosed rest → 0 < length rest
some_closed [] closed = absurd closed
some_closed (gate ∷ rest) closed = omega arith

-- the beginning of an image that has these payloads in front
pub sealed_split : (first more : List (List ℕ)) (image : List ℕ) → (stands : StandsFor image (first ++ more)) → image ≡ sealed first ++ (sealed more ++ stands.rest)
sealed_split first more image stands =
    stands.split ∙ ap (λ (l : List ℕ). l ++ stands.rest) (sealed-append first more) ∙ append_assoc (sealed first) (sealed more) stands.rest

-- what follows in a list of bytes that has this front in common with another
pub behind_front : (bytes others front back : List ℕ) → bytes ++ others ≡ front ++ back → length front ≤ length bytes
    → (bytes ≡ front ++ drop (length front) bytes) × (drop (length front) bytes ++ others ≡ back)
behind_front bytes others front back same long =
    let n = length front in
    let begins : take n bytes ≡ front = sym (take-append-le n bytes others long) ∙ ap (take n) same ∙ take_at front back n refl in
    let split : bytes ≡ front ++ drop n bytes = sym (take-append-drop n bytes) ∙ ap (λ (l : List ℕ). l ++ drop n bytes) begins in
    (split, sym (drop-append-le n bytes others long) ∙ ap (drop n) same ∙ drop_at front back n refl)

-- what the law of seal_log says of two readings
abbrev pub Agree : Type 0
Agree = (a b : List (List ℕ)) (r s : List ℕ) → AllByRecursion IsPayload a → AllByRecursion IsPayload b → sealed a ++ r ≡ sealed b ++ s → GoesOn a r b s ⊎ GoesOn b s a r

no_more : (more : List (List ℕ)) (r s : List ℕ) → s ≡ sealed more ++ r → BeginsClosed s → more ≡ []
no_more [] r s is closed = refl
no_more (p ∷ more) r s is closed = absurd ((subst BeginsClosed is closed) refl)

-- an image that begins with these payloads stands for them and maybe more
pub more_than : Agree → (first payloads : List (List ℕ)) (image rest : List ℕ) → AllByRecursion IsPayload first → image ≡ sealed first ++ rest → StandsFor image payloads
    → (more : List (List ℕ)) × (payloads ≡ first ++ more)
more_than agree first payloads image rest fit split stands = elim (agree first payloads rest stands.rest fit stands.short (sym split ∙ stands.split)) [
  | inl on ↦ (on.more, on.payloads)
  | inr on ↦ ([], sym (on.payloads ∙ ap (λ (l : List (List ℕ)). payloads ++ l) (no_more on.more rest stands.rest on.rest stands.closed) ∙ append-nil payloads) ∙ sym (append-nil first))
]
