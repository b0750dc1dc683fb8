-- The users whose names are listed, one after another.
use Rattle.std.proofs.Common.{◌≡◌, ℕ, ◌+◌, ◌<◌, true, false, List, [], ◌∷◌, ◌++◌, length, drop, get_or, map, filter, ap, ◌∙◌, append_assoc}
use Rattle.std.specs.List.{enumerate_from}
use Rattle.std.proofs.lemmas.List.{drop_more}
use Rattle.toml.specs.Data.{Data}
use Rattle.undo_base.specs.declared.keys.User.{User}
use Rattle.verb_core.specs.declared.conf.Account.{Account}
use Rattle.house_text.specs.Configuration.{is_listed, listed_users}

-- the users from a number on whose names are listed
abbrev pub users_from : List Data → ℕ → List Account → List User
users_from values n accounts = map (λ a. record { 0 = a.0 }) (filter (λ a. is_listed values a.1.name) (enumerate_from n accounts))

-- those that were found, and those that the rest gives
abbrev pub ListedSoFar : List Data → List User → ℕ → List Account → Type 0
ListedSoFar values users place accounts = users ++ users_from values place (drop place accounts) ≡ listed_users accounts values

cut : (values : List Data) (place : ℕ) (accounts : List Account) (a : Account) → place < length accounts
    → users_from values place (drop place accounts) ≡ users_from values place (get_or accounts place a ∷ drop (place + 1) accounts)
cut values place accounts a h = ap (users_from values place) (drop_more accounts place a h)

pub listed_more : (values : List Data) (users more : List User) (place : ℕ) (accounts : List Account) (a : Account) → place < length accounts
    → is_listed values (get_or accounts place a).name ≡ true → more ≡ users ++ record { 0 = place } ∷ [] → ListedSoFar values users place accounts → ListedSoFar values more (place + 1) accounts
listed_more values users more place accounts a h is made far =
    ap (λ (us : List User). us ++ users_from values (place + 1) (drop (place + 1) accounts)) made
    ∙ append_assoc users (record { 0 = place } ∷ []) (users_from values (place + 1) (drop (place + 1) accounts))
    ∙ rw (cut values place accounts a h, is) at far

pub listed_less : (values : List Data) (users : List User) (place : ℕ) (accounts : List Account) (a : Account) → place < length accounts
    → is_listed values (get_or accounts place a).name ≡ false → ListedSoFar values users place accounts → ListedSoFar values users (place + 1) accounts
listed_less values users place accounts a h is far = rw (cut values place accounts a h, is) at far
