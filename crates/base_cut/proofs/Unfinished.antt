-- Journals whose end is missing.
use Rattle.std.proofs.Common.{◌≡◌, ◌⊎◌, inl, inr, ℕ, zero, suc, ◌+◌, ◌<◌, ◌≤◌, List, [], ◌∷◌, ◌++◌, length, take, drop, refl, sym, ◌∙◌, ap, subst, arith, append_assoc, length-append}
use Rattle.std.proofs.lemmas.List.{append-nil}
use Rattle.std.proofs.lemmas.List.Concat.{flat_map-append}
use Rattle.std.proofs.lemmas.Nat.{from_be_bytes-to_be_bytes_4}
use Rattle.std.specs.List.{AllByRecursion}
use Rattle.std.specs.Int.{w32, to_be_bytes, from_be_bytes}
use Rattle.seal_log.specs.Journal.{frame, sealed, BeginsClosed, IsPayload, StandsFor}
use Rattle.seal_log.specs.Loading.{BeginsCut, IsDamagedAt}
use Rattle.base_cut.specs.Cutting.{IsUnfinished, closed_journal}

length-frame : (payload : List ℕ) → length (frame payload) ≡ 4 + length payload
length-frame payload = length-append (to_be_bytes w32 (length payload)) payload

-- an open gate, and its frame or a first part of that
cut_frame : (payload front back : List ℕ) → IsPayload payload → frame payload ≡ front ++ back → BeginsCut (85 ∷ front)
cut_frame payload [] back fits e = (refl, omega arith)
cut_frame payload (a ∷ []) back fits e = (refl, omega arith)
cut_frame payload (a ∷ b ∷ []) back fits e = (refl, omega arith)
cut_frame payload (a ∷ b ∷ c ∷ []) back fits e = (refl, omega arith)
cut_frame payload (a ∷ b ∷ c ∷ d ∷ front) back fits e =
    let same : to_be_bytes w32 (length payload) ≡ a ∷ b ∷ c ∷ d ∷ [] = ap (take 4) e in
    let count : from_be_bytes w32 (a ∷ b ∷ c ∷ d ∷ []) ≡ length payload = ap (from_be_bytes w32) (sym same) ∙ from_be_bytes-to_be_bytes_4 (length payload) fits in
    let within : length (frame payload) ≡ length (a ∷ b ∷ c ∷ d ∷ front) + length back = ap length e ∙ length-append (a ∷ b ∷ c ∷ d ∷ front) back in
    (refl, omega (arith, count, within, length-frame payload))

-- the same of any first part of an open gate and its frame
pub unfinished_frame : (payload front back : List ℕ) → IsPayload payload → 85 ∷ frame payload ≡ front ++ back → IsUnfinished front
unfinished_frame payload [] back fits e = inl refl
unfinished_frame payload (gate ∷ front) back fits e =
    let open_ : 85 ≡ gate = cc e in
    let behind : frame payload ≡ front ++ back = ap (drop 1) e in
    inr (0, record { payloads = []; rest = gate ∷ front; split = refl; cut = subst (λ (g : ℕ). BeginsCut (g ∷ front)) open_ (cut_frame payload front back fits behind); place_is = refl; short = tt })

pub both_short : (first second : List (List ℕ)) → AllByRecursion IsPayload first → AllByRecursion IsPayload second → AllByRecursion IsPayload (first ++ second)
both_short [] second a b = b
both_short (p ∷ first) second a b = (a.0, both_short first second a.1 b)

few_short : (count : ℕ) (payloads : List (List ℕ)) → AllByRecursion IsPayload payloads → AllByRecursion IsPayload (take count payloads)
few_short zero payloads short = tt
few_short (suc count) [] short = tt
few_short (suc count) (p ∷ payloads) short = (short.0, few_short count payloads short.1)

pub sealed_both : (first second : List (List ℕ)) → sealed (first ++ second) ≡ sealed first ++ sealed second
sealed_both first second = flat_map-append (λ (payload : List ℕ). 85 ∷ frame payload) first second

-- payloads with no gate behind them: the last one's frame is cut
ended : (p : List ℕ) (payloads : List (List ℕ)) → AllByRecursion IsPayload (p ∷ payloads) → (place : ℕ) × IsDamagedAt (sealed (p ∷ payloads)) place
ended p [] short =
    let all : frame p ≡ (frame p ++ []) ++ [] = sym (append-nil (frame p)) ∙ sym (append-nil (frame p ++ [])) in
    (0, record { payloads = []; rest = 85 ∷ (frame p ++ []); split = refl; cut = cut_frame p (frame p ++ []) [] short.0 all; place_is = refl; short = tt })
ended p (q ∷ payloads) short =
    let more = ended q payloads short.1 in
    let d = more.1 in (
      length (sealed (p ∷ d.payloads)),
      record {
        payloads = p ∷ d.payloads;
        rest = d.rest;
        split = ap (λ (l : List ℕ). (85 ∷ frame p) ++ l) d.split ∙ sym (append_assoc (85 ∷ frame p) (sealed d.payloads) d.rest);
        cut = d.cut;
        place_is = refl;
        short = (short.0, d.short);
      },
    )

unfinished_done : (payloads : List (List ℕ)) → AllByRecursion IsPayload payloads → IsUnfinished (sealed payloads)
unfinished_done [] short = inl refl
unfinished_done (p ∷ payloads) short = inr (ended p payloads short)

damaged_behind : (done : List (List ℕ)) (bytes : List ℕ) (place : ℕ) → AllByRecursion IsPayload done → IsDamagedAt bytes place
    → IsDamagedAt (sealed done ++ bytes) (length (sealed done) + place)
damaged_behind done bytes place short d = record {
  payloads = done ++ d.payloads;
  rest = d.rest;
  split = ap (λ (l : List ℕ). sealed done ++ l) d.split
      ∙ sym (append_assoc (sealed done) (sealed d.payloads) d.rest)
      ∙ ap (λ (l : List ℕ). l ++ d.rest) (sym (sealed_both done d.payloads));
  cut = d.cut;
  place_is = omega (arith, d.place_is, ap length (sealed_both done d.payloads), length-append (sealed done) (sealed d.payloads));
  short = both_short done d.payloads short d.short;
}

-- what is unfinished stays so behind payloads
pub unfinished_behind : (done : List (List ℕ)) (bytes : List ℕ) → AllByRecursion IsPayload done → IsUnfinished bytes → IsUnfinished (sealed done ++ bytes)
unfinished_behind done bytes short (inl none) =
    subst (λ (l : List ℕ). IsUnfinished (sealed done ++ l)) (sym none) (subst IsUnfinished (sym (append-nil (sealed done))) (unfinished_done done short))
unfinished_behind done bytes short (inr (place, damaged)) = inr (length (sealed done) + place, damaged_behind done bytes place short damaged)

-- ---- first parts of a closed journal

-- a first part of two pieces is one of the first, or the first and a first part of the second
abbrev Parts : List ℕ → List ℕ → List ℕ → List ℕ → Type 0
Parts xs ys front back = ((more : List ℕ) × (xs ≡ front ++ more)) ⊎ ((behind : List ℕ) × (front ≡ xs ++ behind) × (ys ≡ behind ++ back))

parts_more : (x y : ℕ) (xs ys front back : List ℕ) → x ≡ y → Parts xs ys front back → Parts (x ∷ xs) ys (y ∷ front) back
parts_more x y xs ys front back same (inl (more, is)) = inl (more, cc (same, is))
parts_more x y xs ys front back same (inr (behind, is, rest)) = inr (behind, cc (same, is), rest)

parts : (xs ys front back : List ℕ) → xs ++ ys ≡ front ++ back → Parts xs ys front back
parts [] ys front back e = inr (front, refl, e)
parts (x ∷ xs) ys [] back e = inl (x ∷ xs, refl)
parts (x ∷ xs) ys (y ∷ front) back e =
    let same : x ≡ y = cc e in
    let rest : xs ++ ys ≡ front ++ back = ap (drop 1) e in
    parts_more x y xs ys front back same (parts xs ys front back rest)

abbrev pub EndsWithin : List (List ℕ) → List ℕ → Type 0
EndsWithin payloads front =
    (front ≡ []) ⊎ ((count : ℕ) × (part : List ℕ) × (count ≤ length payloads) × (front ≡ sealed (take count payloads) ++ part) × BeginsCut part)

within_first : (p : List ℕ) (payloads : List (List ℕ)) (front more : List ℕ) → IsPayload p → 85 ∷ frame p ≡ front ++ more → EndsWithin (p ∷ payloads) front
within_first p payloads [] more fits e = inl refl
within_first p payloads (gate ∷ front) more fits e =
    let open_ : 85 ≡ gate = cc e in
    let behind : frame p ≡ front ++ more = ap (drop 1) e in
    inr (0, gate ∷ front, omega arith, refl, subst (λ (g : ℕ). BeginsCut (g ∷ front)) open_ (cut_frame p front more fits behind))

within_more : (p : List ℕ) (payloads : List (List ℕ)) (front behind : List ℕ) → IsPayload p → front ≡ (85 ∷ frame p) ++ behind → EndsWithin payloads behind
    → EndsWithin (p ∷ payloads) front
within_more p payloads front behind fits e (inl none) =
    within_first p payloads front [] fits (sym (append-nil (85 ∷ frame p)) ∙ ap (λ (l : List ℕ). (85 ∷ frame p) ++ l) (sym none) ∙ sym e ∙ sym (append-nil front))
within_more p payloads front behind fits e (inr (count, part, few, is, cut)) =
    inr (
      suc count,
      part,
      omega (arith, few),
      e ∙ ap (λ (l : List ℕ). (85 ∷ frame p) ++ l) is ∙ sym (append_assoc (85 ∷ frame p) (sealed (take count payloads)) part),
      cut,
    )

pub ends_within : (payloads : List (List ℕ)) (front back : List ℕ) → AllByRecursion IsPayload payloads → closed_journal payloads ≡ front ++ back → 0 < length back
    → EndsWithin payloads front
ends_within [] [] back short e some = inl refl
ends_within [] (x ∷ front) back short e some = absurd (omega (arith, some, ap length e, length-append (x ∷ front) back))
ends_within (p ∷ payloads) front back short e some =
    elim (parts (85 ∷ frame p) (closed_journal payloads) front back (sym (append_assoc (85 ∷ frame p) (sealed payloads) (0 ∷ [])) ∙ e)) [
      | inl (more, is) ↦ within_first p payloads front more short.0 is
      | inr (behind, is, rest) ↦ within_more p payloads front behind short.0 is (ends_within payloads behind back short.1 rest some)
    ]

pub unfinished_part : (payloads : List (List ℕ)) (front : List ℕ) → AllByRecursion IsPayload payloads → EndsWithin payloads front → IsUnfinished front
unfinished_part payloads front short (inl none) = inl none
unfinished_part payloads front short (inr (count, part, few, is, cut)) =
    inr (
      length (sealed (take count payloads)),
      record {
        payloads = take count payloads;
        rest = part;
        split = is;
        cut = cut;
        place_is = refl;
        short = few_short count payloads short;
      },
    )

-- ---- what they stand for

-- a closed journal stands for its payloads
pub stands_closed : (payloads : List (List ℕ)) → AllByRecursion IsPayload payloads → StandsFor (closed_journal payloads) payloads
stands_closed payloads short = record { rest = 0 ∷ []; split = refl; closed = λ same. absurd (omega (arith, same)); short = short }

nothing_closed : (payloads : List (List ℕ)) (rest : List ℕ) → sealed payloads ++ rest ≡ [] → BeginsClosed rest → ⊥
nothing_closed [] rest is closed = subst BeginsClosed is closed
nothing_closed (p ∷ payloads) rest is closed = absurd (cc is)

-- nothing stands for no payloads
pub nothing_stands : (bytes : List ℕ) (payloads : List (List ℕ)) → bytes ≡ [] → StandsFor bytes payloads → ⊥
nothing_stands bytes payloads none stands = nothing_closed payloads stands.rest (sym stands.split ∙ none) stands.closed
