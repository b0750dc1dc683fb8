-- Arrays and tables of TOML as lists.
use Rattle.std.specs.Prelude.{ℕ, List, [], ◌∷◌, Option, Some, option_map, option_and_then}
use Rattle.toml.specs.Data.{Data, Items, no_items, item, Members, no_members, member}

infixl 10 ◌>>=◌
abbrev pub ◌>>=◌ : {A B : Type 0} → Option A → (A → Option B) → Option B
o >>= f = option_and_then f o

-- the values of an array
abbrev pub items_list : Items → List Data
items_list no_items = []
items_list (item d ds) = d ∷ items_list ds

-- the keys of a table, each with its value
abbrev pub entries_list : Members → List (List ℕ × Data)
entries_list no_members = []
entries_list (member k d ms) = (k, d) ∷ entries_list ms

-- what each stands for, if each stands for something
abbrev pub each_of : {A B : Type 0} → (A → Option B) → List A → Option (List B)
each_of f [] = Some []
each_of f (x ∷ xs) = f x >>= (λ y. option_map (λ ys. y ∷ ys) (each_of f xs))
