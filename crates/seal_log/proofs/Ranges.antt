-- A payload as a range of an image.
use Rattle.std.proofs.Common.{◌≡◌, ℕ, ◌+◌, ◌-◌, ◌≤◌, List, ◌∷◌, ◌++◌, length, take, drop, sym, ◌∙◌, ap, arith, append_assoc, length-append, length-drop}
use Rattle.std.proofs.lemmas.List.{take-append-le, drop-append-le, drop-drop, drop_at}
use Rattle.std.proofs.lemmas.List.Concat.{flat_map-append}
use Rattle.std.specs.List.{slice_range}
use Rattle.std.specs.Int.{w32, to_be_bytes}
use Rattle.seal_log.specs.Journal.{frame, sealed, LiesAt}

-- what stands before a payload, the payload, and what stands behind it
pub split_at : (payloads : List (List ℕ)) (gate count : ℕ) (payload rest : List ℕ) (lies : LiesAt payloads gate count payload)
    → sealed payloads ++ rest ≡ (sealed lies.before ++ 85 ∷ to_be_bytes w32 (length payload)) ++ (payload ++ (sealed lies.after ++ rest))
split_at payloads gate count payload rest lies =
    let header = 85 ∷ to_be_bytes w32 (length payload) in
    ap (λ (l : List (List ℕ)). sealed l ++ rest) lies.split
    ∙ ap (λ (l : List ℕ). l ++ rest) (flat_map-append (λ (p : List ℕ). 85 ∷ frame p) lies.before (payload ∷ lies.after))
    ∙ append_assoc (sealed lies.before) (header ++ payload ++ sealed lies.after) rest
    ∙ ap (λ (l : List ℕ). sealed lies.before ++ l) (ap (λ (l : List ℕ). l ++ rest) (append_assoc header payload (sealed lies.after)) ∙ append_assoc header (payload ++ sealed lies.after) rest ∙ ap (λ (l : List ℕ). header ++ l) (append_assoc payload (sealed lies.after) rest))
    ∙ sym (append_assoc (sealed lies.before) header (payload ++ (sealed lies.after ++ rest)))

-- a range of the middle one of three lists
middle : (pre xs post : List ℕ) (start from count : ℕ) → start ≡ length pre → from + count ≤ length xs → take count (drop (start + from) (pre ++ (xs ++ post))) ≡ take count (drop from xs)
middle pre xs post start from count start_is within =
    ap (take count) (sym (drop-drop from start (pre ++ (xs ++ post))) ∙ ap (drop from) (drop_at pre (xs ++ post) start (sym start_is)) ∙ drop-append-le from xs post (omega arith))
    ∙ take-append-le count (drop from xs) post (omega (arith, length-drop from xs))

pub range_of_payload : (payloads : List (List ℕ)) (gate count : ℕ) (payload image rest : List ℕ) (from length' : ℕ) → LiesAt payloads gate count payload → image ≡ sealed payloads ++ rest → from + length' ≤ count
    → slice_range image (gate + 5 + from) (gate + 5 + from + length') ≡ slice_range payload from (from + length')
range_of_payload payloads gate count payload image rest from length' lies split within =
    let pre = sealed lies.before ++ 85 ∷ to_be_bytes w32 (length payload) in
    let same : gate + 5 + from + length' - (gate + 5 + from) ≡ length' = omega arith in
    let same' : from + length' - from ≡ length' = omega arith in
    ap (λ (n : ℕ). take n (drop (gate + 5 + from) image)) same
    ∙ ap (λ (l : List ℕ). take length' (drop (gate + 5 + from) l)) (split ∙ split_at payloads gate count payload rest lies)
    ∙ middle pre payload (sealed lies.after ++ rest) (gate + 5) from length' (omega (arith, lies.gate_is, length-append (sealed lies.before) (85 ∷ to_be_bytes w32 (length payload)))) (omega (arith, lies.count_is))
    ∙ ap (λ (n : ℕ). take n (drop from payload)) (sym same')
