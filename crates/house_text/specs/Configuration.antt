-- The house and the opening configuration of a TOML document.
use Rattle.std.specs.Prelude.{◌≡◌, ℕ, ◌+◌, Bool, ◌==◌, ◌&&◌, not, false, ℤ, pos, negsuc, List, [], length, map, filter, position, nat_le, nat_lt, bytes_eq, codes, Option, None, Some, option_map, if◌then◌else◌, Result, Ok, Err, IsUtf8}
use Rattle.std.specs.List.{list_all, list_any, enumerate_from}
use Rattle.std.specs.Option.{option_map_or}
use Rattle.std.specs.Str.{str_to_ascii_lowercase}
use Rattle.toml.specs.Data.{Data, Members, get_member, as_str, as_integer, as_array, as_table}
use Rattle.toml.specs.Parse.{parse_document}
use Rattle.undo_base.specs.declared.limits.TheConstants.{LAST_NUMBER}
use Rattle.undo_base.specs.declared.keys.User.{User}
use Rattle.verb_core.specs.declared.conf.Account.{Account}
use Rattle.verb_core.specs.declared.conf.Alias.{Alias}
use Rattle.verb_core.specs.declared.conf.Conf.{Conf}
use Rattle.verb_core.specs.declared.conf.House.{House}
use Rattle.house_text.specs.declared.read.ConfigRefused.{ConfigRefused}
use Rattle.house_text.specs.declared.read.ConfigRefused.TheVariants.{Text, NoMemory}
use Rattle.house_text.specs.Documents.{◌>>=◌, items_list, entries_list, each_of}
use Rattle.house_text.specs.Words.{is_host, is_password, is_user_name, are_distinct}

-- the value that a test passes
abbrev pub if_passes : {A : Type 0} → (A → Bool) → A → Option A
if_passes test x = if test x then Some x else None

-- ---- keys of a table

abbrev pub text_at : List ℕ → Members → Option (List ℕ)
text_at key table = get_member key table >>= as_str

-- the values of the array at a key
abbrev pub list_at : List ℕ → Members → Option (List Data)
list_at key table = option_map items_list (get_member key table >>= as_array)

-- ---- the house

abbrev pub host_of : Members → Option (List ℕ)
host_of table = text_at (codes "host") table >>= if_passes is_host

-- a domain is kept in lower case
abbrev pub domain_of : Data → Option (List ℕ)
domain_of value = option_map str_to_ascii_lowercase (as_str value >>= if_passes is_host)

-- at least one domain, each once in lower case
abbrev pub are_domains : List (List ℕ) → Bool
are_domains domains = nat_le 1 (length domains) && are_distinct domains

abbrev pub domains_of : Members → Option (List (List ℕ))
domains_of table = list_at (codes "domains") table >>= each_of domain_of >>= if_passes are_domains

abbrev pub name_in : Members → Option (List ℕ)
name_in table = text_at (codes "name") table >>= if_passes is_user_name

abbrev pub password_in : Members → Option (List ℕ)
password_in table = text_at (codes "password") table >>= if_passes is_password

-- a table with `name` and `password`, and no other key
abbrev pub account_in : Members → Option Account
account_in table =
    if length (entries_list table) == 2 then
    name_in table >>= (λ name. option_map (λ password. record { name = name; password = password }) (password_in table))
    else None

abbrev pub account_of : Data → Option Account
account_of value = as_table value >>= account_in

-- 1 to 200 users, no two of one name
abbrev pub are_accounts : List Account → Bool
are_accounts accounts = nat_le 1 (length accounts) && nat_le (length accounts) 200 && are_distinct (map (λ a. a.name) accounts)

abbrev pub accounts_of : Members → Option (List Account)
accounts_of table = list_at (codes "user") table >>= each_of account_of >>= if_passes are_accounts

-- the number of the user of that name
abbrev pub user_named : List Account → List ℕ → Option User
user_named accounts name = option_map (λ n. record { 0 = n }) (position (λ a. bytes_eq a.name name) accounts)

abbrev pub postmaster_of : List Account → Members → Option User
postmaster_of accounts table = text_at (codes "postmaster") table >>= user_named accounts

-- the first number that an item can have
abbrev pub first_number : ℤ → Option ℕ
first_number (pos n) = if nat_le 2 n && nat_le n LAST_NUMBER then Some n else None
first_number (negsuc n) = None

-- 2 where there is none
abbrev pub first_of : Option Data → Option ℕ
first_of None = Some 2
first_of (Some value) = as_integer value >>= first_number

abbrev pub house_of : Members → Option House
house_of table =
    host_of table >>= (λ host.
    domains_of table >>= (λ domains.
    accounts_of table >>= (λ accounts.
    postmaster_of accounts table >>= (λ postmaster.
    option_map (λ first. record { host = host; domains = domains; accounts = accounts; postmaster = postmaster; first = first })
    (first_of (get_member (codes "first") table))))))

-- ---- the aliases

-- whether a user has that name
abbrev pub is_named : List Account → List ℕ → Bool
is_named accounts name = list_any (λ a. bytes_eq a.name name) accounts

-- whether the value is the name of a user
abbrev pub is_user : List Account → Data → Bool
is_user accounts value = option_map_or (is_named accounts) (as_str value) false

-- whether the value is that name
abbrev pub is_text : Data → List ℕ → Bool
is_text value name = option_map_or (λ text. bytes_eq text name) (as_str value) false

-- whether the name stands among the values
abbrev pub is_listed : List Data → List ℕ → Bool
is_listed values name = list_any (λ value. is_text value name) values

-- the users whose names stand among the values, rising, each once
abbrev pub listed_users : List Account → List Data → List User
listed_users accounts values = map (λ a. record { 0 = a.0 }) (filter (λ a. is_listed values a.1.name) (enumerate_from 0 accounts))

-- at least one user name, and nothing else
abbrev pub are_users : List Account → List Data → Bool
are_users accounts values = nat_le 1 (length values) && list_all (is_user accounts) values

-- a local part that is no user's name and not `postmaster`
abbrev pub is_alias : List Account → List ℕ → Bool
is_alias accounts local = is_user_name local && not (is_named accounts local)

abbrev pub alias_of : List Account → List ℕ × Data → Option Alias
alias_of accounts entry =
    if_passes (is_alias accounts) entry.0 >>= (λ local.
    option_map (λ values. record { local = local; users = listed_users accounts values })
    (option_map items_list (as_array entry.1) >>= if_passes (are_users accounts)))

-- no alias where there are none
abbrev pub aliases_of : List Account → Option Data → Option (List Alias)
aliases_of accounts None = Some []
aliases_of accounts (Some value) = option_map entries_list (as_table value) >>= each_of (alias_of accounts)

-- whether each alias's users are users
abbrev pub are_known : List Account → List Alias → Bool
are_known accounts aliases = list_all (λ a. list_all (λ u. nat_lt u.0 (length accounts)) a.users) aliases

-- ---- the configuration

-- how many of the keys that may be left out are there
abbrev pub count_some : Option Data → ℕ
count_some None = 0
count_some (Some value) = 1

-- `host`, `domains`, `postmaster` and `user`, maybe `first` and `aliases`, and no other key
abbrev pub has_no_other : Members → Bool
has_no_other table = length (entries_list table) == 4 + count_some (get_member (codes "first") table) + count_some (get_member (codes "aliases") table)

abbrev pub conf_of : List Account → Members → Option Conf
conf_of accounts table = option_map (λ aliases. record { aliases = aliases; filters = [] }) (aliases_of accounts (get_member (codes "aliases") table))

abbrev pub config_of : Members → Option (House × Conf)
config_of table =
    if has_no_other table then house_of table >>= (λ house. option_map (λ conf. (house, conf)) (conf_of house.accounts table))
    else None

-- what a text configures, by what the text means as TOML
unfoldable pub configured : List ℕ → Option (House × Conf)
configured text = parse_document text >>= config_of

-- A text in UTF-8 that configures something is read so; every other text is refused.
abbrev pub ReadsConfig : List ℕ → Result (House × Conf) ConfigRefused → Type 0
ReadsConfig text (Ok config) = IsUtf8 text × (configured text ≡ Some config)
ReadsConfig text (Err Text) = IsUtf8 text → configured text ≡ None
ReadsConfig text (Err NoMemory) = Unit {0}
