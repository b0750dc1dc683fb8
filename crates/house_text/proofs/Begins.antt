-- A document that configures something can begin a store.
use Rattle.std.proofs.Common.{◌≡◌, ◌<◌, ◌==◌, ◌+◌, ◌&&◌, ℕ, suc, Bool, true, false, not, nat_lt, nat_le, List, [], ◌∷◌, length, map, filter, Option, Some, None, option_map, refl, sym, ap, ◌∙◌, string_bytes, Less, arith, inl, inr}
use Rattle.std.specs.Prelude.{if◌then◌else◌, codes, bytes_eq}
use Rattle.std.specs.Int.{IsInRange}
use Rattle.std.specs.List.{list_all, enumerate_from, AllByRecursion}
use Rattle.std.specs.List.Sorted.{IsStrictlySortedBy}
use Rattle.std.specs.Map.{keys_of}
use Rattle.std.specs.String.{string_cmp}
use Rattle.std.specs.Option.{option_map_or}
use Rattle.std.specs.Char.{to_ascii_lowercase}
use Rattle.std.specs.Str.{str_to_ascii_lowercase}
use Rattle.std.proofs.lemmas.Bool.{and_parts, cases_Bool, lt-ltb}
use Rattle.std.proofs.lemmas.Bool.Decides.{nat_tests}
use Rattle.std.proofs.lemmas.Slice.Eq.{bytes_eq-Decides}
use Rattle.std.proofs.lemmas.Str.Ascii.{lowercase_is}
use Rattle.toml.specs.Data.{Data, Members, as_str, as_array, as_table, get_member}
use Rattle.toml.proofs.Views.{Entry}
use Rattle.undo_base.specs.declared.keys.User.{User}
use Rattle.verb_core.specs.declared.conf.Account.{Account}
use Rattle.verb_core.specs.declared.conf.Alias.{Alias}
use Rattle.verb_core.specs.declared.conf.Conf.{Conf}
use Rattle.verb_core.specs.declared.conf.House.{House}
use Rattle.verb_core.specs.Names.{is_empty}
use Rattle.verb_core.specs.Store.{is_house}
use Rattle.house_text.specs.Documents.{◌>>=◌, items_list, entries_list, each_of}
use Rattle.house_text.specs.Words.{is_host, is_sized, is_visible, is_user_name, is_password, are_distinct}
use Rattle.house_text.specs.Configuration as spec
use Rattle.house_text.specs.Configuration.{if_passes}
use Rattle.house_text.specs.Beginning as begin
use Rattle.house_text.proofs.Lists.{seen_entry}
use Rattle.house_text.proofs.Sound.{users_known}

-- ---- readings that gave something

bound : {A B : Type 0} (o : Option A) (f : A → Option B) (b : B) → (o >>= f) ≡ Some b → (a : A) × (o ≡ Some a) × (f a ≡ Some b)
bound {A} {B} None f b e = absurd (let wrong : ◌≡◌ {A = Option B} None (Some b) = e in cc)
bound (Some a) f b e = (a, refl, e)

mapped : {A B : Type 0} (o : Option A) (f : A → B) (b : B) → option_map f o ≡ Some b → (a : A) × (o ≡ Some a) × (f a ≡ b)
mapped {A} {B} None f b e = absurd (let wrong : ◌≡◌ {A = Option B} None (Some b) = e in cc)
mapped (Some a) f b e = (a, refl, cc)

passed : {A : Type 0} (test : A → Bool) (x y : A) → if_passes test x ≡ Some y → (x ≡ y) × (test y ≡ true)
passed {A} test x y e = by_test (test x) refl e
  where
    by_test : (b : Bool) → test x ≡ b → (if b then Some x else None) ≡ Some y → (x ≡ y) × (test y ≡ true)
    by_test true is e = let same : x ≡ y = cc in (same, ap test (sym same) ∙ is)
    by_test false is e = absurd (let wrong : ◌≡◌ {A = Option A} None (Some y) = e in cc)

module _ {A B : Type 0} (f : A → Option B) (p : B → Bool) (good : (x : A) (y : B) → f x ≡ Some y → p y ≡ true) where
  rest : (x : A) (y : B) → f x ≡ Some y → (more : Option (List B)) (ys : List B) → ((zs : List B) → more ≡ Some zs → list_all p zs ≡ true)
      → option_map (λ zs. y ∷ zs) more ≡ Some ys → list_all p ys ≡ true
  rest x y is None ys passes e = absurd (let wrong : ◌≡◌ {A = Option (List B)} None (Some ys) = e in cc)
  rest x y is (Some zs) ys passes e = let same : y ∷ zs ≡ ys = cc in ap (list_all p) (sym same) ∙ rw (good x y is) (passes zs refl)

  -- what is read of each passes
  each_passes : (xs : List A) (ys : List B) → each_of f xs ≡ Some ys → list_all p ys ≡ true
  each_passes [] ys e = let same : [] ≡ ys = cc in ap (list_all p) (sym same)
  each_passes (x ∷ xs) ys e =
      let (y, is, more) = bound (f x) (λ y. option_map (λ zs. y ∷ zs) (each_of f xs)) ys e in
      rest x y is (each_of f xs) ys (λ zs same. each_passes xs zs same) more

-- ---- the house

visible_lowered : (b : ℕ) → is_visible b ≡ true → is_visible (to_ascii_lowercase b) ≡ true
visible_lowered b is = by_case (to_ascii_lowercase b) (lowercase_is b)
  where
    by_case : (c : ℕ) → (IsInRange 65 90 b → c ≡ b + 32) × (b < 65 → c ≡ b) × (90 < b → c ≡ b) → is_visible c ≡ true
    by_case c (upper, below, above) =
        elim (cases_Bool (nat_lt b 65)) [
          | inl low ↦ rw (below (grind (arith, nat_tests))) is
          | inr high ↦ elim (cases_Bool (nat_lt 90 b)) [
            | inl over ↦ rw (above (grind (arith, nat_tests))) is
            | inr under ↦ rw (upper (grind (arith, nat_tests), grind (arith, nat_tests))) (grind (arith, nat_tests))
          ]
        ]

lower_lowered : (b : ℕ) → begin.is_lower (to_ascii_lowercase b) ≡ true
lower_lowered b = by_case (to_ascii_lowercase b) (lowercase_is b)
  where
    by_case : (c : ℕ) → (IsInRange 65 90 b → c ≡ b + 32) × (b < 65 → c ≡ b) × (90 < b → c ≡ b) → begin.is_lower c ≡ true
    by_case c (upper, below, above) =
        elim (cases_Bool (nat_lt b 65)) [
          | inl low ↦ rw (below (grind (arith, nat_tests))) (grind (arith, nat_tests))
          | inr high ↦ elim (cases_Bool (nat_lt 90 b)) [
            | inl over ↦ rw (above (grind (arith, nat_tests))) (grind (arith, nat_tests))
            | inr under ↦ rw (upper (grind (arith, nat_tests), grind (arith, nat_tests))) (grind (arith, nat_tests))
          ]
        ]

all_visible_lowered : (text : List ℕ) → list_all is_visible text ≡ true → list_all is_visible (str_to_ascii_lowercase text) ≡ true
all_visible_lowered [] is = refl
all_visible_lowered (b ∷ text) is =
    let (here, more) = and_parts (is_visible b) (list_all is_visible text) is in
    rw (visible_lowered b here) (all_visible_lowered text more)

all_lower_lowered : (text : List ℕ) → list_all begin.is_lower (str_to_ascii_lowercase text) ≡ true
all_lower_lowered [] = refl
all_lower_lowered (b ∷ text) = rw (lower_lowered b) (all_lower_lowered text)

length_lowered : (text : List ℕ) → length (str_to_ascii_lowercase text) ≡ length text
length_lowered [] = refl
length_lowered (b ∷ text) = ap suc (length_lowered text)

lowered_host : (text : List ℕ) → is_host text ≡ true → begin.is_domain (str_to_ascii_lowercase text) ≡ true
lowered_host text is =
    let (sized, visible) = and_parts (is_sized 200 text) (list_all is_visible text) is in
    rw (length_lowered text, sized, all_visible_lowered text visible, all_lower_lowered text) refl

domain_begins : (value : Data) (domain : List ℕ) → spec.domain_of value ≡ Some domain → begin.is_domain domain ≡ true
domain_begins value domain e =
    let (text, good, is) = mapped (as_str value >>= if_passes is_host) str_to_ascii_lowercase domain e in
    let (raw, found, tested) = bound (as_str value) (if_passes is_host) text good in
    ap begin.is_domain (sym is) ∙ lowered_host text (passed is_host raw text tested).1

not_none : {A : Type 0} (xs : List A) → nat_le 1 (length xs) ≡ true → not (is_empty xs) ≡ true
not_none [] e = absurd (let wrong : false ≡ true = e in cc)
not_none (x ∷ xs) e = refl

domains_begin : (table : Members) (domains : List (List ℕ)) → spec.domains_of table ≡ Some domains → begin.are_domains domains ≡ true
domains_begin table domains e =
    let (read, some, tested) = bound (spec.list_at (codes "domains") table >>= each_of spec.domain_of) (if_passes spec.are_domains) domains e in
    let (values, found, each) = bound (spec.list_at (codes "domains") table) (each_of spec.domain_of) read some in
    let (same, are) = passed spec.are_domains read domains tested in
    let (least, distinct) = and_parts (nat_le 1 (length domains)) (are_distinct domains) are in
    rw (not_none domains least, ap (list_all begin.is_domain) (sym same) ∙ each_passes spec.domain_of begin.is_domain domain_begins values read each, distinct) refl

account_in_begins : (table : Members) (account : Account) → spec.account_in table ≡ Some account → begin.is_account account ≡ true
account_in_begins table account e = by_count (length (entries_list table) == 2) e
  where
    by_count : (b : Bool)
        → (if b then spec.name_in table >>= (λ name. option_map (λ password. record { name = name; password = password }) (spec.password_in table)) else None) ≡ Some account
        → begin.is_account account ≡ true
    by_count false e = absurd (let wrong : ◌≡◌ {A = Option Account} None (Some account) = e in cc)
    by_count true e =
        let (name, named, more) = bound (spec.name_in table) (λ name. option_map (λ password. record { name = name; password = password }) (spec.password_in table)) account e in
        let (password, given, is) = mapped (spec.password_in table) (λ password. record { name = name; password = password }) account more in
        let (n, n_found, n_tested) = bound (spec.text_at (codes "name") table) (if_passes is_user_name) name named in
        let (p, p_found, p_tested) = bound (spec.text_at (codes "password") table) (if_passes is_password) password given in
        ap begin.is_account (sym is) ∙ rw ((passed is_user_name n name n_tested).1, (passed is_password p password p_tested).1) refl

account_begins : (value : Data) (account : Account) → spec.account_of value ≡ Some account → begin.is_account account ≡ true
account_begins value account e =
    let (table, found, read) = bound (as_table value) spec.account_in account e in
    account_in_begins table account read

accounts_begin : (table : Members) (accounts : List Account) → spec.accounts_of table ≡ Some accounts → begin.are_accounts accounts ≡ true
accounts_begin table accounts e =
    let (read, some, tested) = bound (spec.list_at (codes "user") table >>= each_of spec.account_of) (if_passes spec.are_accounts) accounts e in
    let (values, found, each) = bound (spec.list_at (codes "user") table) (each_of spec.account_of) read some in
    let (same, are) = passed spec.are_accounts read accounts tested in
    let (few, distinct) = and_parts (nat_le 1 (length accounts) && nat_le (length accounts) 200) (are_distinct (map (λ (a : Account). a.name) accounts)) are in
    rw (ap (list_all begin.is_account) (sym same) ∙ each_passes spec.account_of begin.is_account account_begins values read each, distinct) refl

host_begins : (table : Members) (host : List ℕ) → spec.host_of table ≡ Some host → is_host host ≡ true
host_begins table host e =
    let (text, found, tested) = bound (spec.text_at (codes "host") table) (if_passes is_host) host e in
    (passed is_host text host tested).1

-- the parts that a house was read from
house_parts : (host : Option (List ℕ)) (domains : Option (List (List ℕ))) (accounts : Option (List Account)) (postmaster : List Account → Option User) (first : Option ℕ) (house : House)
    → (host >>= (λ host. domains >>= (λ domains. accounts >>= (λ accounts. postmaster accounts >>= (λ postmaster.
    option_map (λ first. record { host = host; domains = domains; accounts = accounts; postmaster = postmaster; first = first }) first))))) ≡ Some house
    → (host ≡ Some house.host) × (domains ≡ Some house.domains) × (accounts ≡ Some house.accounts)
house_parts None d a p f house e = absurd (let wrong : ◌≡◌ {A = Option House} None (Some house) = e in cc)
house_parts (Some h) None a p f house e = absurd (let wrong : ◌≡◌ {A = Option House} None (Some house) = e in cc)
house_parts (Some h) (Some d) None p f house e = absurd (let wrong : ◌≡◌ {A = Option House} None (Some house) = e in cc)
house_parts (Some h) (Some d) (Some a) p f house e = by_rest (p a) f e
  where
    by_rest : (q : Option User) (n : Option ℕ)
        → (q >>= (λ postmaster. option_map (λ first. record { host = h; domains = d; accounts = a; postmaster = postmaster; first = first }) n)) ≡ Some house
        → (◌≡◌ {A = Option (List ℕ)} (Some h) (Some house.host)) × (◌≡◌ {A = Option (List (List ℕ))} (Some d) (Some house.domains)) × (◌≡◌ {A = Option (List Account)} (Some a) (Some house.accounts))
    by_rest None n e = absurd (let wrong : ◌≡◌ {A = Option House} None (Some house) = e in cc)
    by_rest (Some q) None e = absurd (let wrong : ◌≡◌ {A = Option House} None (Some house) = e in cc)
    by_rest (Some q) (Some n) e =
        let same : record { host = h; domains = d; accounts = a; postmaster = q; first = n } ≡ house = cc in
        (ap (λ (x : House). Some x.host) same, ap (λ (x : House). Some x.domains) same, ap (λ (x : House). Some x.accounts) same)

-- what is asked of a house beside its numbers
house_begins : (table : Members) (house : House) → spec.house_of table ≡ Some house
    → (is_host house.host ≡ true) × (begin.are_domains house.domains ≡ true) × (begin.are_accounts house.accounts ≡ true)
house_begins table house e =
    let (host, domains, accounts) = house_parts (spec.host_of table) (spec.domains_of table) (spec.accounts_of table) (λ accounts. spec.postmaster_of accounts table)
    (spec.first_of (get_member (codes "first") table)) house e in
    (host_begins table house.host host, domains_begin table house.domains domains, accounts_begin table house.accounts accounts)

-- ---- the aliases

-- users in the order of the accounts rise, and stand behind each lower number
users_in_order : (keeps : ℕ × Account → Bool) (n : ℕ) (accounts : List Account)
    → (begin.users_rise (map (λ (a : ℕ × Account). record { 0 = a.0 }) (filter keeps (enumerate_from n accounts))) ≡ true)
    × ((m : ℕ) → m < n → begin.user_comes_first (record { 0 = m }) (map (λ (a : ℕ × Account). record { 0 = a.0 }) (filter keeps (enumerate_from n accounts))) ≡ true)
users_in_order keeps n [] = (refl, λ m below. refl)
users_in_order keeps n (a ∷ accounts) =
    let (rise, behind) = users_in_order keeps (n + 1) accounts in
    elim (cases_Bool (keeps (n, a))) [
      | inl kept ↦ (rw (kept, behind n (omega arith)) rise, λ m below. rw (kept, lt-ltb m n below) refl)
      | inr left_out ↦ (rw left_out rise, λ m below. rw left_out (behind m (omega arith)))
    ]

same_bytes : (xs ys : List ℕ) → bytes_eq xs ys ≡ true → bytes_eq ys xs ≡ true
same_bytes xs ys e =
    let same : xs ≡ ys = (bytes_eq-Decides xs ys).0 e in
    (bytes_eq-Decides ys xs).1 (sym same)

-- a user who is named is one of those that are listed
some_listed : (value : Data) (values : List Data) (name : List ℕ) (n : ℕ) (accounts : List Account) → as_str value ≡ Some name → spec.is_named accounts name ≡ true
    → not (is_empty {A = User} (map (λ (a : ℕ × Account). record { 0 = a.0 }) (filter (λ (a : ℕ × Account). spec.is_listed (value ∷ values) a.1.name) (enumerate_from n accounts)))) ≡ true
some_listed value values name n [] is named = absurd (let wrong : false ≡ true = named in cc)
some_listed value values name n (a ∷ accounts) is named =
    elim (cases_Bool (bytes_eq a.name name)) [
      | inl here ↦ rw (is, same_bytes a.name name here) refl
      | inr elsewhere ↦ elim (cases_Bool (spec.is_listed (value ∷ values) a.name)) [
        | inl kept ↦ rw kept refl
        | inr left_out ↦ rw left_out (some_listed value values name (n + 1) accounts is (rw elsewhere at named))
      ]
    ]

some_user : (accounts : List Account) (values : List Data) → spec.are_users accounts values ≡ true → not (is_empty (spec.listed_users accounts values)) ≡ true
some_user accounts [] are = absurd (let wrong : false ≡ true = are in cc)
some_user accounts (value ∷ values) are =
    let all = (and_parts (nat_le 1 (length (value ∷ values))) (list_all (spec.is_user accounts) (value ∷ values)) are).1 in
    let first = (and_parts (spec.is_user accounts value) (list_all (spec.is_user accounts) values) all).0 in
    by_text (as_str value) refl first
  where
    by_text : (text : Option (List ℕ)) → as_str value ≡ text → option_map_or (spec.is_named accounts) text false ≡ true → not (is_empty (spec.listed_users accounts (value ∷ values))) ≡ true
    by_text None is named = absurd (let wrong : false ≡ true = named in cc)
    by_text (Some name) is named = some_listed value values name 0 accounts is named

-- the users of an alias
users_begin : (house : House) (values : List Data) → spec.are_users house.accounts values ≡ true → begin.are_users house (spec.listed_users house.accounts values) ≡ true
users_begin house values are =
    rw (some_user house.accounts values are, users_known house.accounts values, (users_in_order (λ a. spec.is_listed values a.1.name) 0 house.accounts).0) refl

alias_parts : (accounts : List Account) (entry : List ℕ × Data) (alias : Alias) → spec.alias_of accounts entry ≡ Some alias
    → (alias.local ≡ entry.0) × (spec.is_alias accounts alias.local ≡ true)
    × ((values : List Data) × (spec.are_users accounts values ≡ true) × (alias.users ≡ spec.listed_users accounts values))
alias_parts accounts entry alias e =
    let (local, named, more) = bound (if_passes (spec.is_alias accounts) entry.0)
    (λ local. option_map (λ values. record { local = local; users = spec.listed_users accounts values }) (option_map items_list (as_array entry.1) >>= if_passes (spec.are_users accounts))) alias e in
    let (values, valued, is) = mapped (option_map items_list (as_array entry.1) >>= if_passes (spec.are_users accounts))
    (λ values. record { local = local; users = spec.listed_users accounts values }) alias more in
    let (raw, found, tested) = bound (option_map items_list (as_array entry.1)) (if_passes (spec.are_users accounts)) values valued in
    let (same, passes) = passed (spec.is_alias accounts) entry.0 local named in
    let local_is : local ≡ alias.local = ap (λ (a : Alias). a.local) is in
    (sym local_is ∙ sym same, ap (spec.is_alias accounts) (sym local_is) ∙ passes, (values, (passed (spec.are_users accounts) raw values tested).1, sym (ap (λ (a : Alias). a.users) is)))

alias_begins : (house : House) (entry : List ℕ × Data) (alias : Alias) → spec.alias_of house.accounts entry ≡ Some alias → begin.can_alias house alias ≡ true
alias_begins house entry alias e =
    let (local, named, (values, are, users)) = alias_parts house.accounts entry alias e in
    rw (named, ap (begin.are_users house) users ∙ users_begin house values are) refl

-- the aliases of a table
aliases_begin : (house : House) (value : Option Data) (aliases : List Alias) → spec.aliases_of house.accounts value ≡ Some aliases → list_all (begin.can_alias house) aliases ≡ true
aliases_begin house None aliases e = let same : [] ≡ aliases = cc in ap (list_all (begin.can_alias house)) (sym same)
aliases_begin house (Some value) aliases e =
    let (entries, found, each) = bound (option_map entries_list (as_table value)) (each_of (spec.alias_of house.accounts)) aliases e in
    each_passes (spec.alias_of house.accounts) (begin.can_alias house) (alias_begins house) entries aliases each

-- the alias of the first key stands before the others
comes_first : (accounts : List Account) (x : Entry) (xs : List Entry) (alias : Alias) (others : List Alias) → spec.alias_of accounts (seen_entry x) ≡ Some alias
    → AllByRecursion (λ y. string_cmp x.0 y ≡ Less) (keys_of xs) → each_of (spec.alias_of accounts) (map seen_entry xs) ≡ Some others
    → begin.alias_comes_first alias others ≡ true
comes_first accounts x [] alias others is before e = let same : [] ≡ others = cc in ap (begin.alias_comes_first alias) (sym same)
comes_first accounts x (y ∷ ys) alias others is before e =
    let (b, here, more) = bound (spec.alias_of accounts (seen_entry y)) (λ b. option_map (λ zs. b ∷ zs) (each_of (spec.alias_of accounts) (map seen_entry ys))) others e in
    let (bs, rest, same) = mapped (each_of (spec.alias_of accounts) (map seen_entry ys)) (λ zs. b ∷ zs) others more in
    let first : alias.local ≡ string_bytes x.0 = (alias_parts accounts (seen_entry x) alias is).0 in
    let second : b.local ≡ string_bytes y.0 = (alias_parts accounts (seen_entry y) b here).0 in
    ap (begin.alias_comes_first alias) (sym same) ∙ rw (first, second, before.0) refl

-- aliases of rising keys rise
pub keys_rise : (accounts : List Account) (entries : List Entry) (aliases : List Alias) → IsStrictlySortedBy string_cmp (keys_of entries)
    → each_of (spec.alias_of accounts) (map seen_entry entries) ≡ Some aliases → begin.aliases_rise aliases ≡ true
unfolding IsStrictlySortedBy
keys_rise accounts [] aliases sorted e = let same : [] ≡ aliases = cc in ap begin.aliases_rise (sym same)
keys_rise accounts (x ∷ xs) aliases sorted e =
    let (alias, here, more) = bound (spec.alias_of accounts (seen_entry x)) (λ y. option_map (λ zs. y ∷ zs) (each_of (spec.alias_of accounts) (map seen_entry xs))) aliases e in
    let (others, rest, is) = mapped (each_of (spec.alias_of accounts) (map seen_entry xs)) (λ zs. alias ∷ zs) aliases more in
    ap begin.aliases_rise (sym is) ∙ rw (comes_first accounts x xs alias others here sorted.0 rest, keys_rise accounts xs others sorted.1 rest) refl

abbrev both : House → Conf → House × Conf
both house conf = (house, conf)

-- what a document configures can begin a store, where its aliases rise
pub config_begins : (table : Members) (house : House) (conf : Conf) → spec.config_of table ≡ Some (house, conf) → is_house house ≡ true → begin.aliases_rise conf.aliases ≡ true
    → begin.can_begin house conf ≡ true
config_begins table house conf e sound rise = by_keys (spec.has_no_other table) e
  where
    by_keys : (b : Bool) → (if b then spec.house_of table >>= (λ house. option_map (both house) (spec.conf_of house.accounts table)) else None) ≡ Some (house, conf)
        → begin.can_begin house conf ≡ true
    by_keys false e = absurd (let wrong : ◌≡◌ {A = Option (House × Conf)} None (Some (house, conf)) = e in cc)
    by_keys true e =
        let (h, housed, more) = bound (spec.house_of table) (λ house. option_map (both house) (spec.conf_of house.accounts table)) (house, conf) e in
        let (c, configured, is) = mapped (spec.conf_of h.accounts table) (both h) (house, conf) more in
        let (aliases, aliased, conf_is) = mapped (spec.aliases_of h.accounts (get_member (codes "aliases") table)) (λ aliases. record { aliases = aliases; filters = [] }) c configured in
        let same_house : h ≡ house = ap (λ (p : House × Conf). p.0) is in
        let same_conf : record { aliases = aliases; filters = [] } ≡ conf = conf_is ∙ ap (λ (p : House × Conf). p.1) is in
        let same_aliases : aliases ≡ conf.aliases = ap (λ (c : Conf). c.aliases) same_conf in
        let same_filters : [] ≡ conf.filters = ap (λ (c : Conf). c.filters) same_conf in
        let (host, domains, accounts) = house_begins table house (housed ∙ ap Some same_house) in
        let all = aliases_begin house (get_member (codes "aliases") table) conf.aliases (ap (λ (x : House). spec.aliases_of x.accounts (get_member (codes "aliases") table)) (sym same_house) ∙ aliased ∙ ap Some same_aliases) in
        rw (sound, host, domains, accounts, all, rise, sym same_filters) refl
