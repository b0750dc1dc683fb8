-- Lines of a text, one after the other, and its top.
use Rattle.std.proofs.Common.{◌≡◌, ℕ, zero, suc, ◌+◌, ◌-◌, ◌<◌, ◌≤◌, List, [], ◌∷◌, ◌++◌, take, drop, length, refl, ap, ap₂, sym, ◌∙◌, arith}
use Rattle.std.proofs.lemmas.List.{length-take-le}
use Rattle.std.proofs.Math.Seq.{take-add}
use Rattle.header_fields.specs.Header.{header_of}
use Rattle.header_fields.specs.Lines.{joined, lines_of}
use Rattle.pop_session.specs.Sending.{top}

take_none : {X : Type 0} (n : ℕ) → take n (let xs : List X = [] in xs) ≡ []
take_none zero = refl
take_none (suc n) = refl

one_less : (n : ℕ) → suc n - 1 ≡ n
one_less n = omega arith

-- one line more, where there is one
pub line_more : (rest : List ℕ) (n left : ℕ) → n ≤ length rest → (0 < length rest → lines_of rest ≡ take n rest ∷ lines_of (drop n rest)) → 0 < left
    → take n rest ++ joined (take (left - 1) (lines_of (drop n rest))) ≡ joined (take left (lines_of rest))
line_more rest n zero within is some = absurd (omega arith)
line_more [] zero (suc left) within is some = rw (one_less left) (ap joined (take_none left))
line_more [] (suc n) (suc left) within is some = absurd (omega arith)
line_more (b ∷ rest) n (suc left) within is some = rw (one_less left) (ap (λ (ls : List (List ℕ)). joined (take (suc left) ls)) (sym (is (omega arith))))

pub top_is : (text : List ℕ) (h m k : ℕ) → h ≤ length text → take h text ≡ header_of text → take m (drop h text) ≡ joined (take k (lines_of (drop h text))) → take (h + m) text ≡ top k text
top_is text h m k within head more =
    let size : length (header_of text) ≡ h = ap length (sym head) ∙ length-take-le h text within in
    take-add h m text ∙ ap₂ (λ (xs ys : List ℕ). xs ++ ys) head more ∙ ap (λ q. header_of text ++ joined (take k (lines_of (drop q text)))) (sym size)
