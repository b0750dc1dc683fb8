-- The houses and opening configurations that a text can give.
use Rattle.std.specs.Prelude.{ℕ, Bool, ◌&&◌, not, true, List, [], ◌∷◌, map, nat_le, nat_lt, bytes_eq}
use Rattle.std.specs.List.{list_all, list_any}
use Rattle.std.specs.Cmp.Lexicographic.{slice_cmp}
use Rattle.std.specs.Ordering.{nat_cmp, is_lt}
use Rattle.undo_base.specs.declared.keys.User.{User}
use Rattle.verb_core.specs.declared.conf.Account.{Account}
use Rattle.verb_core.specs.declared.conf.Alias.{Alias}
use Rattle.verb_core.specs.declared.conf.Conf.{Conf}
use Rattle.verb_core.specs.declared.conf.House.{House}
use Rattle.verb_core.specs.Names.{is_empty}
use Rattle.verb_core.specs.Store.{is_house, is_known}
use Rattle.house_text.specs.Configuration.{is_alias}
use Rattle.house_text.specs.Words.{is_host, is_password, is_user_name, are_distinct}

-- ---- the house

abbrev pub is_lower : ℕ → Bool
is_lower b = not (nat_le 65 b && nat_le b 90)

-- a domain, in lower case
abbrev pub is_domain : List ℕ → Bool
is_domain text = is_host text && list_all is_lower text

-- at least one domain, no two the same
abbrev pub are_domains : List (List ℕ) → Bool
are_domains domains = not (is_empty domains) && list_all is_domain domains && are_distinct domains

-- a user's name and password
abbrev pub is_account : Account → Bool
is_account a = is_user_name a.name && is_password a.password

-- users, no two of one name
abbrev pub are_accounts : List Account → Bool
are_accounts accounts = list_all is_account accounts && are_distinct (map (λ a. a.name) accounts)

-- the same, told user by user
abbrev pub have_own_names : List Account → Bool
have_own_names [] = true
have_own_names (a ∷ as_) = not (list_any (λ b. bytes_eq a.name b.name) as_) && have_own_names as_

-- ---- the aliases

-- whether a user's number is below that of the first
abbrev pub user_comes_first : User → List User → Bool
user_comes_first u [] = true
user_comes_first u (v ∷ vs) = nat_lt u.0 v.0

abbrev pub users_rise : List User → Bool
users_rise [] = true
users_rise (u ∷ us) = user_comes_first u us && users_rise us

-- at least one user of the house, rising
abbrev pub are_users : House → List User → Bool
are_users house users = not (is_empty users) && list_all (is_known house) users && users_rise users

-- a local part that is no user's name, for users of the house
abbrev pub can_alias : House → Alias → Bool
can_alias house a = is_alias house.accounts a.local && are_users house a.users

-- whether a local part stands before that of the first, in byte order
abbrev pub alias_comes_first : Alias → List Alias → Bool
alias_comes_first a [] = true
alias_comes_first a (b ∷ bs) = is_lt (slice_cmp nat_cmp a.local b.local)

abbrev pub aliases_rise : List Alias → Bool
aliases_rise [] = true
aliases_rise (a ∷ as_) = alias_comes_first a as_ && aliases_rise as_

-- ---- both

-- whether a text can give this house and this opening configuration
abbrev pub can_begin : House → Conf → Bool
can_begin house conf =
    is_house house && is_host house.host && are_domains house.domains && are_accounts house.accounts
    && list_all (can_alias house) conf.aliases && aliases_rise conf.aliases && is_empty conf.filters
