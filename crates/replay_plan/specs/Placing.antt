-- The plan of a replay: the level of each item, and the places of the items of each level.
use Rattle.std.specs.Prelude.{ℕ, zero, suc, ◌+◌, max, Bool, not, ◌&&◌, ◌||◌, ◌==◌, nat_lt, if◌then◌else◌, List, [], ◌∷◌, ◌++◌, map, filter, length}
use Rattle.std.specs.List.{list_all, enumerate_from}
use Rattle.touch_rules.specs.declared.touched.Touch.{Touch}
use Rattle.touch_rules.specs.Commuting.{are_independent, commute}

-- an item that has its level: what it touches, and the level
abbrev pub Placed : Type 0
Placed = List Touch × ℕ

-- whether an item may have a level behind these: each of them that does not commute with it has a lower level, and each
-- that is not independent of it has another
abbrev pub may_have : List Placed → List Touch → ℕ → Bool
may_have earlier touches level = list_all (λ e. (commute e.0 touches || nat_lt e.1 level) && (are_independent e.0 touches || not (e.1 == level))) earlier

-- the least number from `low` on, of `count` many, that passes; else the one behind them
abbrev pub least_from : (ℕ → Bool) → ℕ → ℕ → ℕ
least_from passes zero low = low
least_from passes (suc count) low = if passes low then low else least_from passes count (low + 1)

-- the level of an item behind these: the least from 1 that it may have. There is one up to the number of all of them
abbrev pub level_behind : List Placed → List Touch → ℕ
level_behind earlier touches = least_from (may_have earlier touches) (length earlier) 1

-- the levels of items, in order, behind these
abbrev pub levels_behind : List Placed → List (List Touch) → List ℕ
levels_behind earlier [] = []
levels_behind earlier (touches ∷ rest) = level_behind earlier touches ∷ levels_behind (earlier ++ (touches, level_behind earlier touches) ∷ []) rest

-- the level of each item of a list
abbrev pub levels_by_item : List (List Touch) → List ℕ
levels_by_item all = levels_behind [] all

-- the places, from 0, where a level stands
abbrev pub places_of : List ℕ → ℕ → List ℕ
places_of levels level = map (λ (p : ℕ × ℕ). p.0) (filter (λ p. p.1 == level) (enumerate_from 0 levels))

-- the numbers from `low` on, so many
abbrev pub run_from : ℕ → ℕ → List ℕ
run_from low zero = []
run_from low (suc count) = low ∷ run_from (low + 1) count

-- the highest level
abbrev pub highest : List ℕ → ℕ
highest [] = 0
highest (level ∷ rest) = max level (highest rest)

-- the places of each level from 1 up to the highest
abbrev pub grouped : List ℕ → List (List ℕ)
grouped levels = map (places_of levels) (run_from 1 (highest levels))

-- the plan of items, by what each touches: for each level the places of its items, rising
abbrev pub levels_of : List (List Touch) → List (List ℕ)
levels_of all = grouped (levels_by_item all)
