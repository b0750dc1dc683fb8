-- What is seen sealed stays.
use Rattle.std.proofs.Common.{◌≡◌, inl, inr, ℕ, zero, suc, ◌+◌, ◌-◌, ◌<◌, ◌≤◌, List, [], ◌∷◌, ◌++◌, length, take, drop, Some, refl, sym, ◌∙◌, ap, subst, arith, append_assoc, length-drop}
use Rattle.std.proofs.Math.Seq.{take-add}
use Rattle.std.proofs.lemmas.Bool.{cases_lt}
use Rattle.std.proofs.lemmas.List.{take-append-drop}
use Rattle.std.specs.Prelude.{slice_get}
use Rattle.seal_log.specs.Journal.{frame, sealed, BeginsClosed, StandsFor, StandsForFront}
use Rattle.copy_laws.specs.Copies.{Keeps}
use Rattle.copy_laws.proofs.Sealed.{sealed_split}

-- what the law of seal_log says of an image
abbrev pub OneReading : Type 0
OneReading = (image : List ℕ) (a b : List (List ℕ)) → StandsFor image a → StandsFor image b → a ≡ b

-- an image of payloads begins with the first of them
begins_with : (a more b : List (List ℕ)) (image : List ℕ) → b ≡ a ++ more → StandsFor image b → (rest : List ℕ) × (image ≡ sealed a ++ rest)
begins_with a more b image is stands =
    let here : StandsFor image (a ++ more) = subst (StandsFor image) is stands in
    (sealed more ++ here.rest, sealed_split a more image here)

-- what was being sealed stands behind, with what was sealed since
pub keeps_behind : OneReading → (first added sealing : List (List ℕ)) (earlier later : List ℕ) → StandsForFront first added earlier → StandsForFront (first ++ added) sealing later → Keeps earlier later
keeps_behind one first added sealing earlier later early late payloads stands =
    let k = early.count in
    let is : first ++ take k added ≡ payloads = one earlier (first ++ take k added) payloads early.stands stands in
    let all : (first ++ added) ++ take late.count sealing ≡ payloads ++ (drop k added ++ take late.count sealing) =
    ap (λ (l : List (List ℕ)). (first ++ l) ++ take late.count sealing) (sym (take-append-drop k added))
    ∙ ap (λ (l : List (List ℕ)). l ++ take late.count sealing) (sym (append_assoc first (take k added) (drop k added)) ∙ ap (λ (l : List (List ℕ)). l ++ drop k added) is)
    ∙ append_assoc payloads (drop k added) (take late.count sealing) in
    begins_with payloads (drop k added ++ take late.count sealing) ((first ++ added) ++ take late.count sealing) later all late.stands

get_at : (front : List ℕ) (x : ℕ) (rest : List ℕ) → slice_get (front ++ x ∷ rest) (length front) ≡ Some x
get_at [] x rest = refl
get_at (y ∷ front) x rest = get_at front x rest

-- a gate behind payloads, where more are sealed
opened : (payloads more : List (List ℕ)) (payload image : List ℕ) → StandsFor image (payloads ++ payload ∷ more) → slice_get image (length (sealed payloads)) ≡ Some 85
opened payloads more payload image stands =
    ap (λ (l : List ℕ). slice_get l (length (sealed payloads))) (sealed_split payloads (payload ∷ more) image stands)
    ∙ get_at (sealed payloads) 85 ((frame payload ++ sealed more) ++ stands.rest)

-- and where none are
shut : (payloads : List (List ℕ)) (image : List ℕ) → StandsFor image payloads → slice_get image (length (sealed payloads)) ≡ Some 85 → ⊥
shut payloads image stands open' = by_rest stands.rest stands.split stands.closed
  where
    by_rest : (rest : List ℕ) → image ≡ sealed payloads ++ rest → BeginsClosed rest → ⊥
    by_rest [] split closed = closed
    by_rest (gate ∷ rest) split closed =
        let same : Some gate ≡ Some 85 = sym (ap (λ (l : List ℕ). slice_get l (length (sealed payloads))) split ∙ get_at (sealed payloads) gate rest) ∙ open' in
        closed (cc same)

take_some : (n : ℕ) (l : List (List ℕ)) → 0 < n → 0 < length l → (payload : List ℕ) × (more : List (List ℕ)) × (take n l ≡ payload ∷ more)
take_some zero l some there = absurd (omega (arith, some))
take_some (suc n) [] some there = absurd (omega (arith, there))
take_some (suc n) (payload ∷ l) some there = (payload, take n l, refl)

front_then : (first sealing : List (List ℕ)) (k n : ℕ) → first ++ take (k + n) sealing ≡ (first ++ take k sealing) ++ take n (drop k sealing)
front_then first sealing k n = ap (λ (l : List (List ℕ)). first ++ l) (take-add k n sealing) ∙ sym (append_assoc first (take k sealing) (take n (drop k sealing)))

open_by : (first sealing : List (List ℕ)) (image : List ℕ) (less n : ℕ) (payload : List ℕ) (more : List (List ℕ)) → take n (drop less sealing) ≡ payload ∷ more
    → StandsFor image (first ++ take (less + n) sealing) → slice_get image (length (sealed (first ++ take less sealing))) ≡ Some 85
open_by first sealing image less n payload more is stands =
    opened (first ++ take less sealing) more payload image
    (subst (StandsFor image) (front_then first sealing less n ∙ ap (λ (l : List (List ℕ)). (first ++ take less sealing) ++ l) is) stands)

-- the gate of each payload is open that an image stands for
open_within : (first sealing : List (List ℕ)) (image : List ℕ) (less count : ℕ) → less < count → count ≤ length sealing → StandsFor image (first ++ take count sealing)
    → slice_get image (length (sealed (first ++ take less sealing))) ≡ Some 85
open_within first sealing image less count within few stands =
    let n = count - less in
    let sum : count ≡ less + n = omega (arith, within) in
    let some : 0 < n = omega (arith, within) in
    let (payload, more, is) = take_some n (drop less sealing) some (omega (arith, within, few, length-drop less sealing)) in
    open_by first sealing image less n payload more is (subst (λ (k : ℕ). StandsFor image (first ++ take k sealing)) sum stands)

begins_by : (first sealing payloads : List (List ℕ)) (image : List ℕ) (k n : ℕ) → first ++ take k sealing ≡ payloads → StandsFor image (first ++ take (k + n) sealing) → (rest : List ℕ) × (image ≡ sealed payloads ++ rest)
begins_by first sealing payloads image k n is stands =
    begins_with payloads (take n (drop k sealing)) (first ++ take (k + n) sealing) image
    (front_then first sealing k n ∙ ap (λ (l : List (List ℕ)). l ++ take n (drop k sealing)) is) stands

-- what was seen sealed is there later, where no gate that was seen open is seen closed
pub keeps_gates : OneReading → (first sealing : List (List ℕ)) (earlier later : List ℕ) → StandsForFront first sealing earlier → StandsForFront first sealing later
    → ((count : ℕ) → count < length sealing → slice_get earlier (length (sealed (first ++ take count sealing))) ≡ Some 85 → slice_get later (length (sealed (first ++ take count sealing))) ≡ Some 85)
    → Keeps earlier later
keeps_gates one first sealing earlier later early late gates payloads stands = elim (cases_lt late.count early.count) [
  | inl less ↦ absurd (shut (first ++ take late.count sealing) later late.stands
      (gates late.count (omega (arith, less, early.few)) (open_within first sealing earlier late.count early.count less early.few early.stands)))
  | inr near ↦
      let n = late.count - early.count in
      let sum : late.count ≡ early.count + n = omega (arith, near) in
      begins_by first sealing payloads later early.count n (one earlier (first ++ take early.count sealing) payloads early.stands stands)
      (subst (λ (k : ℕ). StandsFor later (first ++ take k sealing)) sum late.stands)
]
