-- Images of gates and frames.
use Rattle.std.proofs.Common.{◌≡◌, ◌≢◌, inl, inr, ℕ, suc, ◌+◌, List, [], ◌∷◌, ◌++◌, length, take, sym, ◌∙◌, ap, subst, arith, append_assoc, length-append}
use Rattle.std.proofs.lemmas.List.{append-nil, take-append-le, take_all}
use Rattle.std.proofs.lemmas.List.Concat.{flat_map-append}
use Rattle.std.proofs.lemmas.Bool.{cases_eq}
use Rattle.std.specs.List.{AllByRecursion}
use Rattle.std.specs.Int.{w32, to_be_bytes}
use Rattle.seal_log.specs.Journal.{frame, sealed, IsPayload, StandsFor, StandsForFront}

pub length-frame : (payload : List ℕ) → length (frame payload) ≡ 4 + length payload
length-frame payload = length-append (to_be_bytes w32 (length payload)) payload

-- one payload more
pub sealed-push : (payloads : List (List ℕ)) (payload : List ℕ) → sealed (payloads ++ payload ∷ []) ≡ sealed payloads ++ 85 ∷ frame payload
sealed-push payloads payload =
    flat_map-append (λ (p : List ℕ). 85 ∷ frame p) payloads (payload ∷ []) ∙ ap (λ (l : List ℕ). sealed payloads ++ 85 ∷ l) (append-nil (frame payload))

pub length-sealed-push : (payloads : List (List ℕ)) (payload : List ℕ) → length (sealed (payloads ++ payload ∷ [])) ≡ length (sealed payloads) + 5 + length payload
length-sealed-push payloads payload =
    omega (arith, ap length (sealed-push payloads payload), length-append (sealed payloads) (85 ∷ frame payload), length-frame payload)

pub all-push : (payloads : List (List ℕ)) (payload : List ℕ) → AllByRecursion IsPayload payloads → IsPayload payload → AllByRecursion IsPayload (payloads ++ payload ∷ [])
all-push [] payload all short = (short, tt)
all-push (p ∷ payloads) payload all short = (all.0, all-push payloads payload all.1 short)

-- behind the payloads stands a gate that is not open
pub stands_before : (payloads : List (List ℕ)) (image : List ℕ) (gate : ℕ) (rest : List ℕ) → AllByRecursion IsPayload payloads → gate ≢ 85 → image ≡ sealed payloads ++ gate ∷ rest → StandsFor image payloads
stands_before payloads image gate rest short shut split = record { rest = gate ∷ rest; split = split; closed = shut; short = short }

-- behind an open gate stands one payload more, and behind it a closed gate
pub stands_after : (payloads : List (List ℕ)) (payload image rest : List ℕ) → AllByRecursion IsPayload payloads → IsPayload payload → image ≡ sealed payloads ++ 85 ∷ (frame payload ++ 0 ∷ rest)
    → StandsFor image (payloads ++ payload ∷ [])
stands_after payloads payload image rest short fits split = record {
  rest = 0 ∷ rest;
  split = split
      ∙ sym (append_assoc (sealed payloads) (85 ∷ frame payload) (0 ∷ rest))
      ∙ ap (λ (l : List ℕ). l ++ 0 ∷ rest) (sym (sealed-push payloads payload));
  closed = λ same. absurd (omega arith);
  short = all-push payloads payload short fits;
}

-- nothing of what is being sealed counts yet
pub front_before : (payloads sealing : List (List ℕ)) (image : List ℕ) → StandsFor image payloads → StandsForFront payloads sealing image
front_before payloads sealing image stands = record { count = 0; few = omega arith; stands = subst (StandsFor image) (sym (append-nil payloads)) stands }

-- all of it counts
pub front_after : (payloads sealing : List (List ℕ)) (image : List ℕ) → StandsFor image (payloads ++ sealing) → StandsForFront payloads sealing image
front_after payloads sealing image stands =
    record { count = length sealing; few = omega arith; stands = subst (λ (l : List (List ℕ)). StandsFor image (payloads ++ l)) (sym (take_all (length sealing) sealing (omega arith))) stands }

-- whatever the gate is, the image stands for the payloads, with one more or without
pub front_gate : (payloads : List (List ℕ)) (payload image rest : List ℕ) (gate : ℕ) → AllByRecursion IsPayload payloads → IsPayload payload → image ≡ sealed payloads ++ gate ∷ (frame payload ++ 0 ∷ rest)
    → StandsForFront payloads (payload ∷ []) image
front_gate payloads payload image rest gate short fits split = elim (cases_eq gate 85) [
  | inl is_open ↦ front_after payloads (payload ∷ []) image
      (stands_after payloads payload image rest short fits (split ∙ ap (λ (x : ℕ). sealed payloads ++ x ∷ (frame payload ++ 0 ∷ rest)) is_open))
  | inr shut ↦ front_before payloads (payload ∷ []) image (stands_before payloads image gate (frame payload ++ 0 ∷ rest) short shut split)
]

take_past : (xs ys : List (List ℕ)) (n : ℕ) → take (length xs + n) (xs ++ ys) ≡ xs ++ take n ys
take_past [] ys n =
    let same : 0 + n ≡ n = omega arith in
    ap (λ (k : ℕ). take k ys) same
take_past (x ∷ xs) ys n =
    let same : length (x ∷ xs) + n ≡ suc (length xs + n) = omega arith in
    ap (λ (k : ℕ). take k (x ∷ (xs ++ ys))) same ∙ ap (λ (l : List (List ℕ)). x ∷ l) (take_past xs ys n)

-- a stretch in the middle of a run: what is sealed there stands behind what was sealed before
pub front_within : (first before sealing after : List (List ℕ)) (image : List ℕ) → StandsForFront (first ++ before) sealing image → StandsForFront first (before ++ (sealing ++ after)) image
front_within first before sealing after image front = record {
  count = length before + front.count;
  few = omega (arith, front.few, length-append before (sealing ++ after), length-append sealing after);
  stands = subst (StandsFor image)
      (append_assoc first before (take front.count sealing)
      ∙ ap (λ (l : List (List ℕ)). first ++ (before ++ l)) (sym (take-append-le front.count sealing after front.few))
      ∙ ap (λ (l : List (List ℕ)). first ++ l) (sym (take_past before (sealing ++ after) front.count)))
      front.stands;
}
