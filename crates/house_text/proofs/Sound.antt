-- What every house and every configuration that is read is like.
use Rattle.std.proofs.Common.{◌≡◌, ℕ, ◌+◌, ◌<◌, ◌≤◌, Bool, true, nat_lt, List, [], ◌∷◌, length, map, filter, Option, Some, None, option_map, refl, sym, ap, ◌∙◌, arith, inl, inr}
use Rattle.std.specs.Prelude.{IsTrue}
use Rattle.std.specs.List.{list_all, enumerate_from}
use Rattle.std.proofs.lemmas.Bool.{and_parts, cases_Bool, leb-true, lt-ltb, le-leb}
use Rattle.toml.specs.Data.{Data, as_array, as_table}
use Rattle.undo_base.specs.declared.keys.User.{User}
use Rattle.verb_core.specs.declared.conf.Account.{Account}
use Rattle.verb_core.specs.declared.conf.Alias.{Alias}
use Rattle.verb_core.specs.declared.conf.House.{House}
use Rattle.verb_core.specs.Store.{is_house}
use Rattle.house_text.specs.Documents.{◌>>=◌, items_list, entries_list, each_of}
use Rattle.house_text.specs.Configuration.{if_passes, are_accounts, is_alias, are_users, is_listed, listed_users, alias_of, aliases_of, are_known}

-- ---- the house

pub some_account : (accounts : List Account) → true ≡ are_accounts accounts → 1 ≤ length accounts
some_account accounts e = leb-true 1 (length accounts) (and_parts _ _ (and_parts _ _ (sym e)).0).0

pub few_accounts : (accounts : List Account) → true ≡ are_accounts accounts → length accounts ≤ 200
few_accounts accounts e = leb-true (length accounts) 200 (and_parts _ _ (and_parts _ _ (sym e)).0).1

pub house_sound : (house : House) → 1 ≤ length house.accounts → length house.accounts ≤ 200 → house.postmaster.0 < length house.accounts → 2 ≤ house.first → house.first ≤ 4194303 → IsTrue (is_house house)
house_sound house some few known low high =
    rw (le-leb 1 (length house.accounts) some, le-leb (length house.accounts) 200 few, lt-ltb house.postmaster.0 (length house.accounts) known, le-leb 2 house.first low, le-leb house.first 4194303 high) refl

-- ---- the aliases

-- numbers from n on are below the end
listed_below : (keeps : ℕ × Account → Bool) (n most : ℕ) (accounts : List Account) → n + length accounts ≤ most
    → list_all (λ (u : User). nat_lt u.0 most) (map (λ (a : ℕ × Account). record { 0 = a.0 }) (filter keeps (enumerate_from n accounts))) ≡ true
listed_below keeps n most [] fits = refl
listed_below keeps n most (a ∷ accounts) fits =
    elim (cases_Bool (keeps (n, a))) [
      | inl kept ↦ rw (kept, lt-ltb n most (omega arith)) (listed_below keeps (n + 1) most accounts (omega arith))
      | inr left_out ↦ rw left_out (listed_below keeps (n + 1) most accounts (omega arith))
    ]

pub users_known : (accounts : List Account) (values : List Data) → list_all (λ (u : User). nat_lt u.0 (length accounts)) (listed_users accounts values) ≡ true
users_known accounts values = listed_below (λ a. is_listed values a.1.name) 0 (length accounts) accounts (omega arith)

alias_known : (accounts : List Account) (entry : List ℕ × Data) (alias : Alias) → alias_of accounts entry ≡ Some alias → list_all (λ (u : User). nat_lt u.0 (length accounts)) alias.users ≡ true
alias_known accounts entry alias = named (if_passes (is_alias accounts) entry.0)
  where
    valued : (local : List ℕ) (values : Option (List Data)) → option_map (λ values. record { local = local; users = listed_users accounts values }) values ≡ Some alias → list_all (λ (u : User). nat_lt u.0 (length accounts)) alias.users ≡ true
    valued local None e = cc
    valued local (Some values) e =
        let same : listed_users accounts values ≡ alias.users = cc in
        ap (list_all (λ (u : User). nat_lt u.0 (length accounts))) (sym same) ∙ users_known accounts values

    named : (local : Option (List ℕ)) → (local >>= (λ local. option_map (λ values. record { local = local; users = listed_users accounts values }) (option_map items_list (as_array entry.1) >>= if_passes (are_users accounts)))) ≡ Some alias
        → list_all (λ (u : User). nat_lt u.0 (length accounts)) alias.users ≡ true
    named None e = cc
    named (Some local) e = valued local (option_map items_list (as_array entry.1) >>= if_passes (are_users accounts)) e

aliases_known : (accounts : List Account) (entries : List (List ℕ × Data)) (aliases : List Alias) → each_of (alias_of accounts) entries ≡ Some aliases → are_known accounts aliases ≡ true
aliases_known accounts [] aliases e = let same : [] ≡ aliases = cc in ap (are_known accounts) (sym same)
aliases_known accounts (entry ∷ entries) aliases e = first (alias_of accounts entry) refl (λ others more. aliases_known accounts entries others more) e
  where
    rest : (alias : Alias) → alias_of accounts entry ≡ Some alias → (more : Option (List Alias)) → ((others : List Alias) → more ≡ Some others → are_known accounts others ≡ true) → option_map (λ others. alias ∷ others) more ≡ Some aliases → are_known accounts aliases ≡ true
    rest alias is None known e = cc
    rest alias is (Some others) known e =
        let same : alias ∷ others ≡ aliases = cc in
        ap (are_known accounts) (sym same) ∙ rw (alias_known accounts entry alias is) (known others refl)

    first : (alias : Option Alias) → alias_of accounts entry ≡ alias → ((others : List Alias) → each_of (alias_of accounts) entries ≡ Some others → are_known accounts others ≡ true)
        → (alias >>= (λ alias. option_map (λ others. alias ∷ others) (each_of (alias_of accounts) entries))) ≡ Some aliases → are_known accounts aliases ≡ true
    first None is known e = cc
    first (Some alias) is known e = rest alias is (each_of (alias_of accounts) entries) known e

pub listed_aliases_known : (accounts : List Account) (value : Option Data) (aliases : List Alias) → aliases_of accounts value ≡ Some aliases → IsTrue (are_known accounts aliases)
listed_aliases_known accounts None aliases e = aliases_known accounts [] aliases e
listed_aliases_known accounts (Some value) aliases e = tabled (option_map entries_list (as_table value)) e
  where
    tabled : (entries : Option (List (List ℕ × Data))) → (entries >>= each_of (alias_of accounts)) ≡ Some aliases → are_known accounts aliases ≡ true
    tabled None e = cc
    tabled (Some entries) e = aliases_known accounts entries aliases e
