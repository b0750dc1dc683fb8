-- Users by their names.
use Rattle.std.proofs.Common.{◌≡◌, ◌&&◌, ◌||◌, not, Bool, ℕ, List, [], ◌∷◌, map, refl, ap, ◌∙◌}
use Rattle.std.specs.Prelude.{bytes_eq}
use Rattle.std.specs.List.{list_any}
use Rattle.verb_core.specs.declared.conf.Account.{Account}
use Rattle.house_text.specs.Beginning.{have_own_names}
use Rattle.house_text.specs.Words.{are_distinct}

-- a name among those of the users
any_named : (name : List ℕ) (accounts : List Account) → list_any (bytes_eq name) (map (λ a. a.name) accounts) ≡ list_any (λ a. bytes_eq name a.name) accounts
any_named name [] = refl
any_named name (a ∷ accounts) = ap (λ (b : Bool). bytes_eq name a.name || b) (any_named name accounts)

-- no name stands twice where each user's is his own
pub own_names : (accounts : List Account) → are_distinct (map (λ a. a.name) accounts) ≡ have_own_names accounts
own_names [] = refl
own_names (a ∷ accounts) =
    ap (λ (b : Bool). not b && are_distinct (map (λ a. a.name) accounts)) (any_named a.name accounts) ∙ ap (λ (b : Bool). not (list_any (λ b. bytes_eq a.name b.name) accounts) && b) (own_names accounts)
