-- The length of a payload, where it lies.
use Rattle.std.proofs.Common.{◌≡◌, ℕ, ◌+◌, ◌-◌, ◌<◌, ◌^◌, List, [], ◌∷◌, ◌++◌, length, take, drop, sym, ◌∙◌, ap, arith, append_assoc, length-append, refl}
use Rattle.std.proofs.lemmas.List.{drop_at, take_at}
use Rattle.std.proofs.lemmas.Nat.{from_be_bytes-to_be_bytes_4}
use Rattle.std.specs.List.{slice_range}
use Rattle.std.specs.Int.{from_be_bytes, to_be_bytes, w32}
use Rattle.seal_log.specs.Journal.{LiesAt, sealed}
use Rattle.seal_log.proofs.Ranges.{split_at}

four : (n : ℕ) → length (to_be_bytes w32 n) ≡ 4
four n = refl

-- four bytes behind its gate have it
pub length_there : (payloads : List (List ℕ)) (gate count : ℕ) (payload image rest : List ℕ) → LiesAt payloads gate count payload → image ≡ sealed payloads ++ rest → slice_range image (gate + 1) (gate + 1 + 4) ≡ to_be_bytes w32 count
length_there payloads gate count payload image rest lies split =
    let pre = sealed lies.before ++ 85 ∷ [] in
    let more = payload ++ (sealed lies.after ++ rest) in
    let header = to_be_bytes w32 (length payload) in
    let long : length (sealed lies.before ++ 85 ∷ []) ≡ gate + 1 = length-append (sealed lies.before) (85 ∷ []) ∙ ap (λ (n : ℕ). n + 1) (sym lies.gate_is) in
    let apart : image ≡ (sealed lies.before ++ 85 ∷ []) ++ (header ++ more) =
    split ∙ split_at payloads gate count payload rest lies
    ∙ append_assoc (sealed lies.before) (85 ∷ header) more ∙ sym (append_assoc (sealed lies.before) (85 ∷ []) (header ++ more)) in
    let size : gate + 1 + 4 - (gate + 1) ≡ 4 = omega arith in
    ap (λ (n : ℕ). take n (drop (gate + 1) image)) size
    ∙ ap (λ (l : List ℕ). take 4 (drop (gate + 1) l)) apart
    ∙ ap (take 4) (drop_at (sealed lies.before ++ 85 ∷ []) (header ++ more) (gate + 1) long)
    ∙ take_at header more 4 (four (length payload))
    ∙ ap (to_be_bytes w32) (sym lies.count_is)

-- a number whose four bytes stand there is the length
pub length_is : (number count : ℕ) → number < 2 ^ 32 → count < 2 ^ 32 → to_be_bytes w32 number ≡ to_be_bytes w32 count → number ≡ count
length_is number count fits fits' same = sym (from_be_bytes-to_be_bytes_4 number fits) ∙ ap (from_be_bytes w32) same ∙ from_be_bytes-to_be_bytes_4 count fits'
