-- Lists of messages: their lines, and what a mark leaves.
use Rattle.std.proofs.Common.{◌≡◌, ℕ, zero, suc, ◌+◌, ◌<◌, ◌≤◌, List, [], ◌∷◌, ◌++◌, take, length, get_or, slice_set, refl, ap, sym, ◌∙◌, arith}
use Rattle.std.specs.List.{enumerate_from, flat_map}
use Rattle.std.proofs.lemmas.List.{append_assoc, append-nil, set_past}
use Rattle.pop_session.specs.declared.maildrop.Message.{Message}

-- the lines of one element more
pub listed_more : (f : ℕ × Message → List ℕ) (n : ℕ) (xs : List Message) (i : ℕ) (d : Message) → i < length xs
    → flat_map f (enumerate_from n (take (i + 1) xs)) ≡ flat_map f (enumerate_from n (take i xs)) ++ f (n + i, get_or xs i d)
listed_more f n [] i d within = absurd (omega arith)
listed_more f n (x ∷ xs) zero d within =
    let same : n + 0 ≡ n = omega arith in
    rw same (append-nil (f (n, x)))
listed_more f n (x ∷ xs) (suc i) d within =
    let same : n + suc i ≡ n + 1 + i = omega arith in
    let up : suc i + 1 ≡ suc (i + 1) = omega arith in
    rw up (ap (λ (l : List ℕ). f (n, x) ++ l) (listed_more f (n + 1) xs i d (omega arith)) ∙ sym (append_assoc (f (n, x)) (flat_map f (enumerate_from (n + 1) (take i xs))) (f (n + 1 + i, get_or xs i d))) ∙ rw same refl)

-- a mark past the end
pub marked_past : (messages : List Message) (place : ℕ) (m : Message) → length messages ≤ place → slice_set messages place m ≡ messages
marked_past messages place m past = set_past messages place m past

-- one line more behind those that are there
pub lines_more : (f : ℕ × Message → List ℕ) (ms : List Message) (i n : ℕ) (d : Message) (start before after : List ℕ) → i < length ms → n ≡ 1 + i → before ≡ start ++ flat_map f (enumerate_from 1 (take i ms)) → after ≡ before ++ f (n, get_or ms i d)
    → after ≡ start ++ flat_map f (enumerate_from 1 (take (i + 1) ms))
lines_more f ms i n d start before after within place is more =
    more ∙ rw (is, place) (append_assoc start (flat_map f (enumerate_from 1 (take i ms))) (f (1 + i, get_or ms i d))) ∙ ap (λ (l : List ℕ). start ++ l) (sym (listed_more f 1 ms i d within))
