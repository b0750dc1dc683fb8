-- Worked rows: copies of a journal to which a second record comes while they are made.
use Rattle.std.specs.Prelude.{slice_get}
use Rattle.std.proofs.Common.{◌≡◌, ◌<◌, ℕ, zero, suc, List, [], ◌∷◌, ◌++◌, length, take, Some, refl, sym, ◌∙◌, arith}
use Rattle.seal_log.specs.Journal.{sealed, StandsFor, StandsForFront}
use Rattle.seal_log.proofs.Readings.{agree, one_list}
use Rattle.copy_laws.specs.Copies.{GoForward, IsOfAMoment, IsToEnd, Look, copy_of}
use Rattle.copy_laws.proofs.Reading.{copy_whole, grows_all}
use Rattle.copy_laws.proofs.Forward.{OneReading, keeps_gates}

-- one record is sealed; then half of the frame of a second one stands behind the gate; then all of it, and the gate behind it; then its gate is open
abbrev one : List ℕ
one = 85 ∷ 0 ∷ 0 ∷ 0 ∷ 1 ∷ 7 ∷ 0 ∷ []

abbrev half : List ℕ
half = 85 ∷ 0 ∷ 0 ∷ 0 ∷ 1 ∷ 7 ∷ 0 ∷ 0 ∷ 0 ∷ 0 ∷ []

abbrev framed : List ℕ
framed = 85 ∷ 0 ∷ 0 ∷ 0 ∷ 1 ∷ 7 ∷ 0 ∷ 0 ∷ 0 ∷ 0 ∷ 2 ∷ 8 ∷ 9 ∷ 0 ∷ []

abbrev two : List ℕ
two = 85 ∷ 0 ∷ 0 ∷ 0 ∷ 1 ∷ 7 ∷ 85 ∷ 0 ∷ 0 ∷ 0 ∷ 2 ∷ 8 ∷ 9 ∷ 0 ∷ []

one_is : one ≡ sealed ((7 ∷ []) ∷ []) ++ 0 ∷ []
one_is = refl

two_is : two ≡ sealed ((7 ∷ []) ∷ (8 ∷ 9 ∷ []) ∷ []) ++ 0 ∷ []
two_is = refl

abbrev look : List ℕ → ℕ → Look
look view most = record { view = view; most = most }

-- reads of five bytes: the second sees the gate closed, so what is read behind it later does not count
closed_gate : copy_of (look one 5 ∷ look half 5 ∷ look two 5 ∷ []) ≡ sealed ((7 ∷ []) ∷ []) ++ 0 ∷ 0 ∷ 0 ∷ 0 ∷ 2 ∷ 8 ∷ 9 ∷ 0 ∷ []
closed_gate = refl

-- the second sees it open, so the frame behind it stands
open_gate : copy_of (look framed 5 ∷ look two 5 ∷ look two 5 ∷ []) ≡ two
open_gate = refl

abbrev first : List (List ℕ)
first = (7 ∷ []) ∷ []

abbrev second : List (List ℕ)
second = (8 ∷ 9 ∷ []) ∷ []

-- and what the law wants holds of these reads: no one goes back, and the last one comes to the end
framed_stands : StandsFor framed first
framed_stands = record { rest = 0 ∷ 0 ∷ 0 ∷ 0 ∷ 2 ∷ 8 ∷ 9 ∷ 0 ∷ []; split = refl; closed = λ same. absurd (omega (arith, same)); short = (omega arith, tt) }

two_stands : StandsFor two (first ++ second)
two_stands = record { rest = 0 ∷ []; split = refl; closed = λ same. absurd (omega (arith, same)); short = (omega arith, (omega arith, tt)) }

framed_front : StandsForFront first second framed
framed_front = record { count = 0; few = omega arith; stands = framed_stands }

two_front : StandsForFront first second two
two_front = record { count = 1; few = omega arith; stands = two_stands }

one_reading : OneReading
one_reading image a b these those = one_list a b these.rest those.rest these.short those.short these.closed those.closed (sym these.split ∙ those.split)

-- the gate of the second record, which the first of these reads does not see open
gates : (count : ℕ) → count < length second → slice_get framed (length (sealed (first ++ take count second))) ≡ Some 85
    → slice_get two (length (sealed (first ++ take count second))) ≡ Some 85
gates zero few shown = refl
gates (suc count) few shown = absurd (omega (arith, few))

forward : GoForward (look framed 5 ∷ look two 5 ∷ look two 5 ∷ [])
forward = (keeps_gates one_reading first second framed two framed_front two_front gates, (λ payloads stands. (stands.rest, stands.split), tt))

to_end : IsToEnd (look framed 5 ∷ look two 5 ∷ look two 5 ∷ [])
to_end = omega arith

stands : IsOfAMoment (look framed 5 ∷ look two 5 ∷ look two 5 ∷ []) first two
stands =
    copy_whole first (look framed 5) (look two 5 ∷ look two 5 ∷ [])
    (grows_all agree first (look framed 5) (look two 5 ∷ look two 5 ∷ []) framed_stands ((first ++ second, two_stands), ((first ++ second, two_stands), tt)) forward) to_end

-- the length is looked for first: what is read then ends with the open gate of the second record, and with a closed one there it is the first one's journal
of_length : copy_of (look one 0 ∷ look one 5 ∷ look two 2 ∷ []) ≡ 85 ∷ 0 ∷ 0 ∷ 0 ∷ 1 ∷ 7 ∷ 85 ∷ []
of_length = refl
