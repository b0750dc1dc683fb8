-- Items, and the place of each number among them.
use Rattle.std.specs.Prelude.{◌≡◌, ℕ, ◌<◌, ◌≤◌, List, length, get_or}
use Rattle.std.specs.List.{All, Contains}
use Rattle.std.specs.List.Sorted.{IsNonDecreasingBy}
use Rattle.verb_core.specs.declared.item.Item.{Item}

-- items in order, and room for so many more
pub record Placed : Type 0 where
  pub items : List Item
  pub room : ℕ

-- a number and its place: the item there has the number
pub record IsPlaceIn (t : List Item) (r : ℕ × ℕ) : Type 0 where
  pub within : r.1 < length t
  pub number : (d : Item) → (get_or t r.1 d).number ≡ r.0

-- rows that are right, and among them one of each of the first so many items
pub record HasPlaces (rows : List (ℕ × ℕ)) (t : List Item) (count : ℕ) : Type 0 where
  pub right : All (IsPlaceIn t) rows
  pub whole : (place : ℕ) (d : Item) → place < count → Contains rows ((get_or t place d).number, place)

-- numbers, none below one before it, each with its place: those of all items
pub record IsIndex (rows : List (ℕ × ℕ)) (t : List Item) : Type 0 where
  pub ordered : IsNonDecreasingBy (λ (r : ℕ × ℕ). r.0) rows
  pub right : All (IsPlaceIn t) rows
  pub whole : (place : ℕ) (d : Item) → place < length t → Contains rows ((get_or t place d).number, place)

-- a place at which a number comes in among rising ones: none before it is higher, and none from it on is lower
pub record IsPlaceAmong (number : ℕ) (rows : List (ℕ × ℕ)) (place : ℕ) : Type 0 where
  pub within : place ≤ length rows
  pub before : (k : ℕ) (d : ℕ × ℕ) → k < place → (get_or rows k d).0 ≤ number
  pub behind : (k : ℕ) (d : ℕ × ℕ) → place ≤ k → k < length rows → number ≤ (get_or rows k d).0
