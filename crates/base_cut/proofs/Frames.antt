-- The bytes of a frame, piece by piece.
use Rattle.std.proofs.Common.{◌≡◌, ◌<◌, ◌^◌, ◌+◌, ◌∙◌, ℕ, List, [], ◌∷◌, ◌++◌, length, ap, sym, arith, append_assoc, length-append}
use Rattle.std.proofs.lemmas.List.{append-nil}
use Rattle.std.specs.Int.{w32, to_be_bytes}
use Rattle.seal_log.specs.Journal.{frame, IsPayload}
use Rattle.verb_bytes.specs.Holes.{parted}

pub payload_bytes : (payload front : List ℕ) → front ≡ 85 ∷ (to_be_bytes w32 (length payload) ++ []) → front ++ (payload ++ []) ≡ 85 ∷ frame payload
payload_bytes payload front e =
    ap (λ (l : List ℕ). l ++ (payload ++ [])) e ∙ ap (λ (l : List ℕ). 85 ∷ (to_be_bytes w32 (length payload) ++ l)) (append-nil payload)

length-parted : (front text back : List ℕ) → length (parted front text back) ≡ length front + 4 + length text + length back
length-parted front text back =
    omega (arith, length-append front (to_be_bytes w32 (length text) ++ (text ++ back)), length-append (to_be_bytes w32 (length text)) (text ++ back), length-append text back)

pub parted_fits : (front text back : List ℕ) → length front + 4 + length text + length back < 2 ^ 32 → IsPayload (parted front text back)
parted_fits front text back small = omega (arith, small, length-parted front text back)

pub parted_bytes : (front text back first : List ℕ) (count : ℕ) → count ≡ length front + 4 + length text + length back
    → first ≡ 85 ∷ (to_be_bytes w32 count ++ (front ++ to_be_bytes w32 (length text))) → first ++ (text ++ back) ≡ 85 ∷ frame (parted front text back)
parted_bytes front text back first count is e =
    ap (λ (l : List ℕ). l ++ (text ++ back)) e
    ∙ ap (λ (l : List ℕ). 85 ∷ (to_be_bytes w32 count ++ l)) (append_assoc front (to_be_bytes w32 (length text)) (text ++ back))
    ∙ ap (λ (n : ℕ). 85 ∷ (to_be_bytes w32 n ++ parted front text back)) (is ∙ sym (length-parted front text back))
