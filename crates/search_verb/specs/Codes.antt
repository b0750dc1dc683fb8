-- What is asked, told by a list of steps that make it again: by it a value is told from others.
use Rattle.std.specs.Prelude.{◌≡◌, ℕ, ℤ, pos, ◌==◌, List, [], ◌∷◌, Option, if◌then◌else◌, refl}
use Rattle.std.proofs.Common.{ap, ◌∙◌}
use Rattle.std.specs.Coded.{Coded, code_by, coded×, coded_ℕ, coded_ℤ, coded_list, coded_option}
use Rattle.search_verb.specs.declared.keys.SearchRange.{SearchRange}
use Rattle.search_verb.specs.Asked.{Asked, Every, Never, Answered, Deleted, Draft, Flagged, Seen, Places, Uids, Before, On, Since, Larger, Smaller, Field, Body, Text, Not, Or, And}

abbrev pub RangeEnds : Type 0
RangeEnds = Option ℕ × Option ℕ

-- a number for what is made, a day, a size, two strings and ranges
abbrev pub Step : Type 0
Step = ℕ × (ℤ × (ℕ × (List ℕ × (List ℕ × List RangeEnds))))

abbrev pub plain : ℕ → Step
plain n = (n, (pos 0, (0, ([], ([], [])))))

abbrev pub on_day : ℕ → ℤ → Step
on_day n day = (n, (day, (0, ([], ([], [])))))

abbrev pub of_size : ℕ → ℕ → Step
of_size n size = (n, (pos 0, (size, ([], ([], [])))))

abbrev pub of_strings : ℕ → List ℕ → List ℕ → Step
of_strings n first second = (n, (pos 0, (0, (first, (second, [])))))

abbrev pub ends_of : List SearchRange → List RangeEnds
ends_of [] = []
ends_of (range ∷ ranges) = (range.from, range.to) ∷ ends_of ranges

abbrev pub ranges_of : List RangeEnds → List SearchRange
ranges_of [] = []
ranges_of (ends ∷ rest) = record { from = ends.0; to = ends.1 } ∷ ranges_of rest

abbrev pub of_ranges : ℕ → List SearchRange → Step
of_ranges n ranges = (n, (pos 0, (0, ([], ([], ends_of ranges)))))

-- the steps that make what is asked, before others
abbrev pub steps_before : List Step → Asked → List Step
steps_before rest Every = plain 0 ∷ rest
steps_before rest Never = plain 1 ∷ rest
steps_before rest Answered = plain 2 ∷ rest
steps_before rest Deleted = plain 3 ∷ rest
steps_before rest Draft = plain 4 ∷ rest
steps_before rest Flagged = plain 5 ∷ rest
steps_before rest Seen = plain 6 ∷ rest
steps_before rest (Places ranges) = of_ranges 7 ranges ∷ rest
steps_before rest (Uids ranges) = of_ranges 8 ranges ∷ rest
steps_before rest (Before day) = on_day 9 day ∷ rest
steps_before rest (On day) = on_day 10 day ∷ rest
steps_before rest (Since day) = on_day 11 day ∷ rest
steps_before rest (Larger size) = of_size 12 size ∷ rest
steps_before rest (Smaller size) = of_size 13 size ∷ rest
steps_before rest (Field name bytes) = of_strings 14 name bytes ∷ rest
steps_before rest (Body bytes) = of_strings 15 bytes [] ∷ rest
steps_before rest (Text bytes) = of_strings 16 bytes [] ∷ rest
steps_before rest (Not asked) = steps_before (plain 17 ∷ rest) asked
steps_before rest (Or first second) = steps_before (steps_before (plain 18 ∷ rest) second) first
steps_before rest (And first second) = steps_before (steps_before (plain 19 ∷ rest) second) first

-- the last one made, changed
abbrev pub of_last : List Asked → List Asked
of_last [] = []
of_last (a ∷ made) = Not a ∷ made

-- the last two made, put together
abbrev pub of_two : (Asked → Asked → Asked) → List Asked → List Asked
of_two join [] = []
of_two join (b ∷ []) = []
of_two join (b ∷ a ∷ made) = join a b ∷ made

-- what a step adds to what was made before
abbrev pub leaf_of : Step → Asked
leaf_of (n, (day, (size, (first, (second, ends))))) =
    if n == 0 then Every else if n == 1 then Never else if n == 2 then Answered else if n == 3 then Deleted else if n == 4 then Draft
    else if n == 5 then Flagged else if n == 6 then Seen else if n == 7 then Places (ranges_of ends) else if n == 8 then Uids (ranges_of ends)
    else if n == 9 then Before day else if n == 10 then On day else if n == 11 then Since day else if n == 12 then Larger size
    else if n == 13 then Smaller size else if n == 14 then Field first second else if n == 15 then Body first else Text first

abbrev pub made_by : Step → List Asked → List Asked
made_by step made =
    if step.0 == 17 then of_last made else if step.0 == 18 then of_two Or made else if step.0 == 19 then of_two And made
    else leaf_of step ∷ made

abbrev pub made_from : List Step → List Asked → List Asked
made_from [] made = made
made_from (step ∷ steps) made = made_from steps (made_by step made)

abbrev pub last_of : List Asked → Asked
last_of [] = Never
last_of (asked ∷ made) = asked

abbrev pub steps_of : Asked → List Step
steps_of asked = steps_before [] asked

abbrev pub asked_from : List Step → Asked
asked_from steps = last_of (made_from steps [])

same_ranges : (ranges : List SearchRange) → ranges_of (ends_of ranges) ≡ ranges
same_ranges [] = refl
same_ranges (range ∷ ranges) = ap (λ rest. range ∷ rest) (same_ranges ranges)

made_again : (asked : Asked) (rest : List Step) (made : List Asked) → made_from (steps_before rest asked) made ≡ made_from rest (asked ∷ made)
made_again Every rest made = refl
made_again Never rest made = refl
made_again Answered rest made = refl
made_again Deleted rest made = refl
made_again Draft rest made = refl
made_again Flagged rest made = refl
made_again Seen rest made = refl
made_again (Places ranges) rest made = ap (λ rs. made_from rest (Places rs ∷ made)) (same_ranges ranges)
made_again (Uids ranges) rest made = ap (λ rs. made_from rest (Uids rs ∷ made)) (same_ranges ranges)
made_again (Before day) rest made = refl
made_again (On day) rest made = refl
made_again (Since day) rest made = refl
made_again (Larger size) rest made = refl
made_again (Smaller size) rest made = refl
made_again (Field name bytes) rest made = refl
made_again (Body bytes) rest made = refl
made_again (Text bytes) rest made = refl
made_again (Not asked) rest made = made_again asked (plain 17 ∷ rest) made
made_again (Or first second) rest made =
    made_again first (steps_before (plain 18 ∷ rest) second) made ∙ made_again second (plain 18 ∷ rest) (first ∷ made)
made_again (And first second) rest made =
    made_again first (steps_before (plain 19 ∷ rest) second) made ∙ made_again second (plain 19 ∷ rest) (first ∷ made)

-- the steps give back what was asked
pub asked_again : (asked : Asked) → asked_from (steps_of asked) ≡ asked
asked_again asked = ap last_of (made_again asked [] [])

abbrev pub step_code : Coded Step
step_code =
    coded× coded_ℕ (coded× coded_ℤ (coded× coded_ℕ (coded× (coded_list coded_ℕ) (coded× (coded_list coded_ℕ)
    (coded_list (coded× (coded_option coded_ℕ) (coded_option coded_ℕ)))))))

abbrev pub asked_code : Coded Asked
asked_code = code_by (List Step) (coded_list step_code) steps_of asked_from asked_again

abbrev pub asked_list_code : Coded (List Asked)
asked_list_code = coded_list asked_code
