-- Reading the values of a list one after another.
use Rattle.std.proofs.Common.{◌≡◌, ℕ, ◌+◌, ◌<◌, List, [], ◌∷◌, ◌++◌, Option, Some, None, length, drop, get_or, map, refl, sym, ap, ◌∙◌, append_assoc, option_map, string_bytes, String, Global}
use Rattle.std.proofs.lemmas.List.{drop_more, append-nil}
use Rattle.toml.specs.declared.value.Value.{Value}
use Rattle.toml.specs.Data.{Data}
use Rattle.toml.specs.View.{view, members_view}
use Rattle.toml.proofs.Views.{Entry}
use Rattle.verb_core.specs.declared.conf.Account.{Account}
use Rattle.verb_core.specs.declared.conf.Alias.{Alias}
use Rattle.house_text.specs.Documents.{entries_list, each_of}
use Rattle.house_text.specs.Configuration.{domain_of, account_of, alias_of}
use Rattle.house_text.proofs.Lists.{seen_entry, entries_seen}

module _ {A B : Type 0} (f : A → Option B) where
  -- what was read, and what the rest is read as
  abbrev pub ReadSoFar : List B → List A → List A → Type 0
  ReadSoFar done rest all = option_map (λ ys. done ++ ys) (each_of f rest) ≡ each_of f all

  put_before : (done : List B) (y : B) (o : Option (List B)) → option_map (λ ys. done ++ ys) (option_map (λ ys. y ∷ ys) o) ≡ option_map (λ ys. (done ++ y ∷ []) ++ ys) o
  put_before done y None = refl
  put_before done y (Some ys) = ap Some (sym (append_assoc done (y ∷ []) ys))

  pub each_none : (all : List A) → ReadSoFar [] all all
  each_none all = elim (each_of f all) as (λ o. option_map (λ ys. [] ++ ys) o ≡ o) [ None ↦ refl | Some ys ↦ refl ]

  pub each_more : (done : List B) (x : A) (y : B) (rest all : List A) → Some y ≡ f x → ReadSoFar done (x ∷ rest) all → ReadSoFar (done ++ y ∷ []) rest all
  each_more done x y rest all e far = sym (put_before done y (each_of f rest)) ∙ rw (← e) at far

  pub each_bad : (done : List B) (x : A) (rest all : List A) → None ≡ f x → ReadSoFar done (x ∷ rest) all → None ≡ each_of f all
  each_bad done x rest all e far = rw (← e) at far

  pub each_all : (done : List B) (all : List A) → ReadSoFar done [] all → Some done ≡ each_of f all
  each_all done all far = ap Some (sym (append-nil done)) ∙ far

module _ {B : Type 0} (f : Data → Option B) where
  -- of the values of an array, this many were read
  abbrev pub ValuesSoFar : List B → ℕ → List Value → Type 0
  ValuesSoFar done i all = ReadSoFar f done (map view (drop i all)) (map view all)

  cut_values : (all : List Value) (i : ℕ) (v : Value) → i < length all → map view (drop i all) ≡ view (get_or all i v) ∷ map view (drop (i + 1) all)
  cut_values all i v h = ap (map view) (drop_more all i v h)

  pub values_more : (done : List B) (all : List Value) (i : ℕ) (y : B) (v : Value) → i < length all → Some y ≡ f (view (get_or all i v)) → ValuesSoFar done i all → ValuesSoFar (done ++ y ∷ []) (i + 1) all
  values_more done all i y v h e far = each_more f done (view (get_or all i v)) y (map view (drop (i + 1) all)) (map view all) e (rw (cut_values all i v h) at far)

  pub values_bad : (done : List B) (all : List Value) (i : ℕ) (v : Value) → i < length all → None ≡ f (view (get_or all i v)) → ValuesSoFar done i all → None ≡ each_of f (map view all)
  values_bad done all i v h e far = each_bad f done (view (get_or all i v)) (map view (drop (i + 1) all)) (map view all) e (rw (cut_values all i v h) at far)

-- ---- domains, users and aliases

pub domains_none : (all : List Value) → ValuesSoFar domain_of [] 0 all
domains_none all = each_none domain_of (map view all)

pub domains_more : (done : List (List ℕ)) (all : List Value) (i : ℕ) (y : List ℕ) (v : Value) → i < length all → Some y ≡ domain_of (view (get_or all i v))
    → ValuesSoFar domain_of done i all → ValuesSoFar domain_of (done ++ y ∷ []) (i + 1) all
domains_more = values_more domain_of

pub domains_bad : (done : List (List ℕ)) (all : List Value) (i : ℕ) (v : Value) → i < length all → None ≡ domain_of (view (get_or all i v))
    → ValuesSoFar domain_of done i all → None ≡ each_of domain_of (map view all)
domains_bad = values_bad domain_of

pub accounts_none : (all : List Value) → ValuesSoFar account_of [] 0 all
accounts_none all = each_none account_of (map view all)

pub accounts_more : (done : List Account) (all : List Value) (i : ℕ) (y : Account) (v : Value) → i < length all → Some y ≡ account_of (view (get_or all i v))
    → ValuesSoFar account_of done i all → ValuesSoFar account_of (done ++ y ∷ []) (i + 1) all
accounts_more = values_more account_of

pub accounts_bad : (done : List Account) (all : List Value) (i : ℕ) (v : Value) → i < length all → None ≡ account_of (view (get_or all i v))
    → ValuesSoFar account_of done i all → None ≡ each_of account_of (map view all)
accounts_bad = values_bad account_of

-- of the entries of a table, these are left
abbrev pub AliasesSoFar : List Account → List Alias → List Entry → List Entry → Type 0
AliasesSoFar accounts done rest all = ReadSoFar (alias_of accounts) done (map seen_entry rest) (map seen_entry all)

pub aliases_none : (accounts : List Account) (all : List Entry) → AliasesSoFar accounts [] all all
aliases_none accounts all = each_none (alias_of accounts) (map seen_entry all)

pub aliases_more : (accounts : List Account) (done : List Alias) (rest more all : List Entry) (y : Alias) (k : String Global) (v : Value) → rest ≡ (k, v) ∷ more
    → Some y ≡ alias_of accounts (string_bytes k, view v) → AliasesSoFar accounts done rest all → AliasesSoFar accounts (done ++ y ∷ []) more all
aliases_more accounts done rest more all y k v cut e far =
    each_more (alias_of accounts) done (string_bytes k, view v) y (map seen_entry more) (map seen_entry all) e (rw cut at far)

pub aliases_bad : (accounts : List Account) (done : List Alias) (rest more all : List Entry) (k : String Global) (v : Value) → rest ≡ (k, v) ∷ more
    → None ≡ alias_of accounts (string_bytes k, view v) → AliasesSoFar accounts done rest all → None ≡ each_of (alias_of accounts) (entries_list (members_view all))
aliases_bad accounts done rest more all k v cut e far =
    rw (entries_seen all) (each_bad (alias_of accounts) done (string_bytes k, view v) (map seen_entry more) (map seen_entry all) e (rw cut at far))

pub aliases_all : (accounts : List Account) (done : List Alias) (all : List Entry) → AliasesSoFar accounts done [] all → Some done ≡ each_of (alias_of accounts) (entries_list (members_view all))
aliases_all accounts done all far = rw (entries_seen all) (each_all (alias_of accounts) done (map seen_entry all) far)
