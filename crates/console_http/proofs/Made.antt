-- What acts and cycles are made of: names, known users, and numbers, texts and lists in their ranges.
use Rattle.std.proofs.Common.{◌≡◌, ℕ, ◌≤◌, List, [], ◌∷◌, length, Option, Some, None, refl, cond, true, false, nat_lt, arith}
use Rattle.std.specs.Prelude.{IsTrue, nat_le, codes, is_some, option_and_then, option_map, if◌then◌else◌}
use Rattle.std.specs.List.{AllByRecursion, list_all, position_or_len}
use Rattle.std.specs.Str.{bytes_eq}
use Rattle.std.proofs.lemmas.Bool.{leb-true}
use Rattle.base64.specs.Engines.{standard}
use Rattle.base64.specs.GeneralPurpose.{decode_of}
use Rattle.serde_json.specs.Data.{Data, null, boolean, number, string, array, object, Items, no_items, item}
use Rattle.serde_json.specs.Find.{get, as_number, as_u64, as_str, as_array}
use Rattle.undo_base.specs.Name.{IsName}
use Rattle.header_fields.specs.Values.{is_field_name}
use Rattle.undo_base.specs.declared.keys.User.{User}
use Rattle.verb_core.specs.declared.conf.Account.{Account}
use Rattle.verb_core.specs.declared.conf.House.{House}
use Rattle.verb_core.specs.declared.conf.Scope.{Scope}
use Rattle.verb_core.specs.declared.conf.Scope.TheVariants.{Body, Field, Sender, Recipient}
use Rattle.verb_core.specs.declared.item.Act.{Act}
use Rattle.verb_core.specs.declared.item.Act.TheVariants.{SetAlias, DropAlias, SetFilter, DropFilter, Remove, Give}
use Rattle.verb_core.specs.Recipients.{user_named}
use Rattle.verb_core.specs.Store.{is_known}
use Rattle.verb_bytes.specs.declared.journal.CycleAsk.{CycleAsk}
use Rattle.verb_bytes.specs.Limits.{AreMany, IsScope}
use Rattle.console_http.specs.declared.acts.Word.{Word}
use Rattle.console_http.specs.declared.acts.Word.TheVariants as word
use Rattle.console_http.specs.Parts.{name_of, box_name, local_of, field_of}
use Rattle.console_http.specs.Members.{at_most, body_at, box_at, each_of, field_at, file_at, file_in, has_members, list_at, local_at, name_at, number_at, short_text, some_users, text_at, text_in, told_bytes, user_at, user_in, users_at, users_in, value_of, whole_number}
use Rattle.console_http.specs.Acts.{act_by, act_in, act_of, act_sized, alias_of, filter_of, give_of, plain_scope, remove_of, scope_at, scope_in, scope_named, size_of, unalias_of, unfilter_of, word_of}
use Rattle.console_http.specs.Cycles.{ask_of, cycle_in, cycle_of, drops_at, has_cycle_members, inserts_at, key_at, key_of, replace_of, replaces_at, try_in, try_of, withdraw_in, withdraw_of}
use Rattle.console_http.proofs.Each.{Each, Anything, anything, each_then, each_map, each_weaker, each_if, each_when}
use Rattle.undo_base.proofs.Names.{name_is}
use Rattle.console_http.proofs.Names.{name_named, box_named, local_named}
use Rattle.console_http.proofs.Sizes.{size, items_size, got_size, array_size, listed_size, value_size}

-- ---- the parts

abbrev pub Knows : House → User → Type 0
Knows house u = IsTrue (is_known house u)

abbrev pub KnowsAll : House → List User → Type 0
KnowsAll house us = IsTrue (list_all (is_known house) us)

abbrev pub IsFew : ℕ → Type 0
IsFew n = n ≤ 4294967295

abbrev pub IsText : List ℕ → Type 0
IsText text = length text ≤ 1052672

abbrev pub MayBeName : Option (List ℕ) → Type 0
MayBeName None = Unit {0}
MayBeName (Some name) = IsName name

-- few enough values inside that each list of them can be counted in four bytes
abbrev pub IsSmall : Data → Type 0
IsSmall d = size d ≤ 4194304

abbrev AreSmall : Items → Type 0
AreSmall ds = items_size ds ≤ 4194304

-- what an act is made of
abbrev pub IsMade : House → Act → Type 0
IsMade house (SetAlias local users) = IsName local × KnowsAll house users × IsFew (length users)
IsMade house (DropAlias local) = IsName local
IsMade house (SetFilter f) = IsName f.id × IsName f.needle × MayBeName f.file × IsScope f.scope
IsMade house (DropFilter id) = IsName id
IsMade house (Remove u mailbox k) = Knows house u × IsName mailbox × IsFew k.item × (k.index ≤ 65535)
IsMade house (Give u mailbox text) = Knows house u × IsName mailbox × IsText text

-- what a replacement is made of
abbrev pub IsReplace : ℕ × List ℕ → Type 0
IsReplace r = IsFew r.0 × IsText r.1

-- what a cycle is made of
pub record IsAsk (house : House) (ask : CycleAsk) : Type 0 where
  pub key : IsName ask.key
  pub point : IsFew ask.point
  pub drops : AreMany IsFew ask.drops
  pub replaces : AreMany IsReplace ask.replaces
  pub inserts : AreMany (IsMade house) ask.inserts

-- what a withdrawal is made of
abbrev pub IsWithdrawal : List ℕ × ℕ → Type 0
IsWithdrawal a = IsName a.0 × IsFew a.1

-- ---- members

name_at_made : (k : List ℕ) (d : Data) → Each IsName (name_at k d)
name_at_made k d = each_then {A = List ℕ} Anything IsName name_of (λ text h. name_named text) (text_at k d) (anything (text_at k d))

box_at_made : (k : List ℕ) (d : Data) → Each IsName (box_at k d)
box_at_made k d = each_then {A = List ℕ} Anything IsName box_name (λ text h. box_named text) (text_at k d) (anything (text_at k d))

local_at_made : (d : Data) → Each IsName (local_at d)
local_at_made d = each_then {A = List ℕ} Anything IsName local_of (λ text h. local_named text) (text_at (codes "local") d) (anything (text_at (codes "local") d))

whole_made : (most : ℕ) (d : Data) → Each (λ n. n ≤ most) (whole_number most d)
whole_made most d =
    let n = option_and_then as_u64 (as_number d) in
    each_then {A = ℕ} Anything (λ n. n ≤ most) (at_most most) (λ n h. each_when (λ (m : ℕ). m ≤ most) (nat_le n most) n (leb-true n most)) n (anything n)

number_at_made : (k : List ℕ) (most : ℕ) (d : Data) → Each (λ n. n ≤ most) (number_at k most d)
number_at_made k most d = each_then {A = Data} Anything (λ n. n ≤ most) (whole_number most) (λ e h. whole_made most e) (get k d) (anything (get k d))

text_made : (encoded : List ℕ) → Each IsText (text_in encoded)
text_made encoded =
    let bytes = told_bytes (decode_of standard encoded) in
    each_then {A = List ℕ} Anything IsText short_text (λ bs h. each_when IsText (nat_le (length bs) 1052672) bs (leb-true (length bs) 1052672)) bytes (anything bytes)

body_at_made : (d : Data) → Each IsText (body_at d)
body_at_made d = each_then {A = List ℕ} Anything IsText text_in (λ text h. text_made text) (text_at (codes "body") d) (anything (text_at (codes "body") d))

file_made : (d : Data) → Each MayBeName (file_in d)
file_made null = tt
file_made (boolean b) = tt
file_made (number n) = tt
file_made (string s) = each_map IsName MayBeName Some (λ name h. h) (box_name s) (box_named s)
file_made (array ds) = tt
file_made (object ms) = tt

file_at_made : (d : Data) → Each MayBeName (file_at d)
file_at_made d = each_then {A = Data} Anything MayBeName file_in (λ e h. file_made e) (get (codes "file") d) (anything (get (codes "file") d))

-- ---- lists

each_many : {A : Type 0} (P : A → Type 0) (f : Data → Option A) → ((d : Data) → IsSmall d → Each P (f d)) → (ds : Items) → AreSmall ds
    → Each (λ xs. AllByRecursion P xs × (length xs ≤ items_size ds)) (each_of f ds)
each_many P f so no_items few = (tt, omega arith)
each_many {A} P f so (item d ds) few =
    let small : IsSmall d = omega (arith, few) in
    let rest : AreSmall ds = omega (arith, few) in
    each_then P (λ (xs : List A). AllByRecursion P xs × (length xs ≤ items_size (item d ds))) (λ x. option_map (λ xs. x ∷ xs) (each_of f ds))
    (λ x h. each_map (λ (xs : List A). AllByRecursion P xs × (length xs ≤ items_size ds)) (λ (xs : List A). AllByRecursion P xs × (length xs ≤ items_size (item d ds))) (λ xs. x ∷ xs)
    (λ xs all. ((h, all.0), omega (arith, all.1))) (each_of f ds) (each_many P f so ds rest))
    (f d) (so d small)

many_made : {A : Type 0} (P : A → Type 0) (f : Data → Option A) → ((d : Data) → IsSmall d → Each P (f d)) → (ds : Items) → AreSmall ds → Each (AreMany P) (each_of f ds)
many_made {A} P f so ds few =
    each_weaker (λ (xs : List A). AllByRecursion P xs × (length xs ≤ items_size ds)) (AreMany P) (λ xs all. record { each = all.0; few = omega (arith, all.1, few) }) (each_of f ds) (each_many P f so ds few)

-- a list that may be missing
listed_made : {A : Type 0} (P : A → Type 0) (f : Data → Option A) → ((d : Data) → IsSmall d → Each P (f d)) → (k : List ℕ) (d : Data) → IsSmall d → Each (AreMany P) (option_and_then (each_of f) (list_at k d))
listed_made P f so k d small =
    each_then (λ ds. items_size ds ≤ size d) (AreMany P) (each_of f) (λ ds le. many_made P f so ds (omega (arith, le, small))) (list_at k d) (listed_size k d)

-- ---- users

user_known : (house : House) (name : List ℕ) → Each (Knows house) (user_named house name)
user_known house name =
    let n = position_or_len (λ (a : Account). bytes_eq a.name name) house.accounts in
    elim (nat_lt n (length house.accounts)) as (λ t. nat_lt n (length house.accounts) ≡ t → Each (Knows house) (option_map (λ (k : ℕ). record { 0 = k }) (cond t (Some n) None))) [
      | true ↦ λ e. e
      | false ↦ λ e. tt
    ] refl

user_at_known : (house : House) (d : Data) → Each (Knows house) (user_at house d)
user_at_known house d =
    each_then {A = List ℕ} Anything (Knows house) (user_named house) (λ name h. user_known house name) (text_at (codes "user") d) (anything (text_at (codes "user") d))

user_in_known : (house : House) (d : Data) → Each (Knows house) (user_in house d)
user_in_known house d = each_then {A = List ℕ} Anything (Knows house) (user_named house) (λ name h. user_known house name) (as_str d) (anything (as_str d))

abbrev FewKnown : House → List User → Type 0
FewKnown house us = KnowsAll house us × IsFew (length us)

all_known : (house : House) (us : List User) → AllByRecursion (Knows house) us → KnowsAll house us
all_known house [] all = refl
all_known house (u ∷ us) all = rw (all.0, all_known house us all.1) refl

some_known : (house : House) (us : List User) → AreMany (Knows house) us → Each (FewKnown house) (some_users us)
some_known house [] h = tt
some_known house (u ∷ us) h = (all_known house (u ∷ us) h.each, h.few)

users_at_known : (house : House) (d : Data) → IsSmall d → Each (FewKnown house) (users_at house d)
users_at_known house d small =
    let listed = option_and_then as_array (get (codes "users") d) in
    each_then (AreMany (Knows house)) (FewKnown house) some_users (some_known house) (option_and_then (users_in house) listed)
    (each_then (λ ds. items_size ds ≤ size d) (AreMany (Knows house)) (users_in house)
    (λ ds le. many_made (Knows house) (user_in house) (λ e h. user_in_known house e) ds (omega (arith, le, small))) listed
    (each_then (λ e. size e ≤ size d) (λ ds. items_size ds ≤ size d) as_array
    (λ e le. each_weaker (λ ds. items_size ds ≤ size e) (λ ds. items_size ds ≤ size d) (λ ds g. omega (arith, le, g)) (as_array e) (array_size e))
    (get (codes "users") d) (got_size (codes "users") d)))

-- ---- acts

alias_made : (house : House) (d : Data) → IsSmall d → Each (IsMade house) (alias_of house d)
alias_made house d small =
    each_then IsName (IsMade house) (λ local. option_map (λ users. SetAlias local users) (users_at house d))
    (λ local named. each_map (FewKnown house) (IsMade house) (λ users. SetAlias local users) (λ users all. (named, all.0, all.1)) (users_at house d) (users_at_known house d small))
    (local_at d) (local_at_made d)

unalias_made : (house : House) (d : Data) → Each (IsMade house) (unalias_of d)
unalias_made house d = each_map IsName (IsMade house) (λ local. DropAlias local) (λ local h. h) (local_at d) (local_at_made d)

field_made : (text : List ℕ) → Each (λ name. IsTrue (is_field_name name)) (field_of text)
field_made text = each_when (λ name. IsTrue (is_field_name name)) (is_field_name text) text (λ e. e)

field_at_made : (d : Data) → Each (λ name. IsTrue (is_field_name name)) (field_at d)
field_at_made d =
    each_then {A = List ℕ} Anything (λ name. IsTrue (is_field_name name)) field_of (λ text h. field_made text) (text_at (codes "field") d) (anything (text_at (codes "field") d))

plain_made : (word : List ℕ) → Each IsScope (plain_scope word)
plain_made word =
    elim (bytes_eq word (codes "body")) as (λ b. Each IsScope (if b then Some Body else (if bytes_eq word (codes "sender") then Some Sender else (if bytes_eq word (codes "recipient") then Some Recipient else None)))) [
      | true ↦ tt
      | false ↦ elim (bytes_eq word (codes "sender")) as (λ b. Each IsScope (if b then Some Sender else (if bytes_eq word (codes "recipient") then Some Recipient else None))) [
        | true ↦ tt
        | false ↦ elim (bytes_eq word (codes "recipient")) as (λ b. Each IsScope (if b then Some Recipient else None)) [ true ↦ tt | false ↦ tt ]
      ]
    ]

scope_named_made : (d : Data) (word : List ℕ) → Each IsScope (scope_named d word)
scope_named_made d word =
    elim (bytes_eq word (codes "header")) as (λ b. Each IsScope (if b then option_map Field (field_at d) else (if is_some (get (codes "field") d) then None else plain_scope word))) [
      | true ↦ each_map (λ name. IsTrue (is_field_name name)) IsScope Field (λ name h. h) (field_at d) (field_at_made d)
      | false ↦ elim (is_some (get (codes "field") d)) as (λ b. Each IsScope (if b then None else plain_scope word)) [ true ↦ tt | false ↦ plain_made word ]
    ]

scope_made : (d : Data) (o : Option Data) → Each IsScope (scope_in d o)
scope_made d None = scope_named_made d (codes "body")
scope_made d (Some scope) = each_then {A = List ℕ} Anything IsScope (scope_named d) (λ word h. scope_named_made d word) (as_str scope) (anything (as_str scope))

filter_act : List ℕ → List ℕ → Option (List ℕ) → Scope → Act
filter_act id needle file scope = SetFilter (record { id = id; needle = needle; file = file; scope = scope })

filter_made : (house : House) (d : Data) → Each (IsMade house) (filter_of d)
unfolding filter_act
filter_made house d =
    each_then IsName (IsMade house)
    (λ id. option_and_then (λ needle. option_and_then (λ file. option_map (λ scope. filter_act id needle file scope) (scope_at d)) (file_at d)) (name_at (codes "needle") d))
    (λ id f. each_then IsName (IsMade house) (λ needle. option_and_then (λ file. option_map (λ scope. filter_act id needle file scope) (scope_at d)) (file_at d))
    (λ needle g. each_then MayBeName (IsMade house) (λ file. option_map (λ scope. filter_act id needle file scope) (scope_at d))
    (λ file h. each_map IsScope (IsMade house) (λ scope. filter_act id needle file scope) (λ scope s. (f, g, h, s)) (scope_at d) (scope_made d (get (codes "scope") d)))
    (file_at d) (file_at_made d))
    (name_at (codes "needle") d) (name_at_made (codes "needle") d))
    (name_at (codes "name") d) (name_at_made (codes "name") d)

unfilter_made : (house : House) (d : Data) → Each (IsMade house) (unfilter_of d)
unfilter_made house d = each_map IsName (IsMade house) (λ id. DropFilter id) (λ id h. h) (name_at (codes "name") d) (name_at_made (codes "name") d)

remove_act : User → ℕ → ℕ → List ℕ → Act
remove_act user k index mailbox = Remove user mailbox (record { item = k; index = index })

remove_made : (house : House) (d : Data) → Each (IsMade house) (remove_of house d)
unfolding remove_act
remove_made house d =
    let mailbox = box_at (codes "box") d in
    let index = number_at (codes "index") 65535 d in
    let number = number_at (codes "item") 4294967295 d in
    each_then (Knows house) (IsMade house) (λ user. option_and_then (λ k. option_and_then (λ i. option_map (λ name. remove_act user k i name) mailbox) index) number)
    (λ user known. each_then {A = ℕ} IsFew (IsMade house) (λ k. option_and_then (λ i. option_map (λ name. remove_act user k i name) mailbox) index)
    (λ k few. each_then {A = ℕ} (λ i. i ≤ 65535) (IsMade house) (λ i. option_map (λ name. remove_act user k i name) mailbox)
    (λ i le. each_map IsName (IsMade house) (λ name. remove_act user k i name) (λ name h. (known, h, few, le)) mailbox (box_at_made (codes "box") d))
    index (number_at_made (codes "index") 65535 d))
    number (number_at_made (codes "item") 4294967295 d))
    (user_at house d) (user_at_known house d)

give_made : (house : House) (d : Data) → Each (IsMade house) (give_of house d)
give_made house d =
    let mailbox = box_at (codes "box") d in
    each_then (Knows house) (IsMade house) (λ user. option_and_then (λ name. option_map (λ text. Give user name text) (body_at d)) mailbox)
    (λ user known. each_then IsName (IsMade house) (λ name. option_map (λ text. Give user name text) (body_at d))
    (λ name named. each_map IsText (IsMade house) (λ text. Give user name text) (λ text h. (known, named, h)) (body_at d) (body_at_made d))
    mailbox (box_at_made (codes "box") d))
    (user_at house d) (user_at_known house d)

act_by_made : (house : House) (d : Data) (w : Word) → IsSmall d → Each (IsMade house) (act_by house d w)
act_by_made house d word.Alias small = alias_made house d small
act_by_made house d word.Unalias small = unalias_made house d
act_by_made house d word.Filter small = filter_made house d
act_by_made house d word.Unfilter small = unfilter_made house d
act_by_made house d word.Remove small = remove_made house d
act_by_made house d word.Give small = give_made house d

act_made : (house : House) (d : Data) → IsSmall d → Each (IsMade house) (act_of house d)
act_made house d small =
    let words = option_and_then word_of (text_at (codes "act") d) in
    each_then {A = Word} Anything (IsMade house) (act_sized house d)
    (λ w h. each_if (IsMade house) (has_members (size_of d w) d) (act_by house d w) (act_by_made house d w small)) words (anything words)

-- ---- cycles

key_made : (text : List ℕ) → Each IsName (key_of text)
key_made text = each_if IsName (nat_le (length text) 64) (name_of text) (name_named text)

key_at_made : (d : Data) → Each IsName (key_at d)
key_at_made d = each_then {A = List ℕ} Anything IsName key_of (λ text h. key_made text) (text_at (codes "key") d) (anything (text_at (codes "key") d))

replace_made : (d : Data) → Each IsReplace (replace_of d)
replace_made d =
    let replace = λ (n : ℕ). option_map (λ (text : List ℕ). (n, text)) (body_at d) in
    each_if IsReplace (has_members 2 d) (option_and_then replace (number_at (codes "item") 4294967295 d))
    (each_then IsFew IsReplace replace
    (λ n few. each_map IsText IsReplace (λ (text : List ℕ). (n, text)) (λ text h. (few, h)) (body_at d) (body_at_made d))
    (number_at (codes "item") 4294967295 d) (number_at_made (codes "item") 4294967295 d))

cycle_ask : List ℕ → ℕ → List ℕ → List (ℕ × List ℕ) → List Act → CycleAsk
cycle_ask key point drops replaces inserts = record { key = key; point = point; drops = drops; replaces = replaces; inserts = inserts }

ask_made : (house : House) (key : List ℕ) (d : Data) → IsName key → IsSmall d → Each (IsAsk house) (ask_of house key d)
unfolding cycle_ask
ask_made house key d named small =
    each_then {A = ℕ} IsFew (IsAsk house)
    (λ point. option_and_then (λ drops. option_and_then (λ replaces. option_map (λ inserts. cycle_ask key point drops replaces inserts) (inserts_at house d)) (replaces_at d)) (drops_at d))
    (λ point f. each_then (AreMany IsFew) (IsAsk house) (λ drops. option_and_then (λ replaces. option_map (λ inserts. cycle_ask key point drops replaces inserts) (inserts_at house d)) (replaces_at d))
    (λ drops g. each_then (AreMany IsReplace) (IsAsk house) (λ replaces. option_map (λ inserts. cycle_ask key point drops replaces inserts) (inserts_at house d))
    (λ replaces h. each_map (AreMany (IsMade house)) (IsAsk house) (λ inserts. cycle_ask key point drops replaces inserts)
    (λ inserts made. record { key = named; point = f; drops = g; replaces = h; inserts = made })
    (inserts_at house d) (listed_made (IsMade house) (act_of house) (act_made house) (codes "insert") d small))
    (replaces_at d) (listed_made IsReplace replace_of (λ e s. replace_made e) (codes "replace") d small))
    (drops_at d) (listed_made IsFew (whole_number 4294967295) (λ e s. whole_made 4294967295 e) (codes "drop") d small))
    (number_at (codes "point") 4294967295 d) (number_at_made (codes "point") 4294967295 d)

cycle_made : (house : House) (d : Data) → IsSmall d → Each (IsAsk house) (cycle_of house d)
cycle_made house d small =
    each_if (IsAsk house) (has_cycle_members d) (option_and_then (λ key. ask_of house key d) (key_at d))
    (each_then IsName (IsAsk house) (λ key. ask_of house key d) (λ key named. ask_made house key d named small) (key_at d) (key_at_made d))

try_made : (house : House) (d : Data) → IsSmall d → Each (IsAsk house) (try_of house d)
try_made house d small = each_if (IsAsk house) (has_cycle_members d) (ask_of house (codes "-") d) (ask_made house (codes "-") d (name_is (codes "-") refl) small)

withdraw_made : (d : Data) → Each IsWithdrawal (withdraw_of d)
withdraw_made d =
    let asked = λ (key : List ℕ). option_map (λ (of : ℕ). (key, of)) (number_at (codes "of") 4294967295 d) in
    each_if IsWithdrawal (has_members 2 d) (option_and_then asked (key_at d))
    (each_then IsName IsWithdrawal asked
    (λ key named. each_map IsFew IsWithdrawal (λ (of : ℕ). (key, of)) (λ of few. (named, few)) (number_at (codes "of") 4294967295 d) (number_at_made (codes "of") 4294967295 d))
    (key_at d) (key_at_made d))

pub withdraw_in_made : (body : List ℕ) → Each IsWithdrawal (withdraw_in body)
withdraw_in_made body = each_then {A = Data} Anything IsWithdrawal withdraw_of (λ d h. withdraw_made d) (value_of body) (anything (value_of body))

-- ---- bodies

module _ (house : House) (body : List ℕ) (few : length body ≤ 4194304) where
  of_body : {A : Type 0} (P : A → Type 0) (f : Data → Option A) → ((d : Data) → IsSmall d → Each P (f d)) → Each P (option_and_then f (value_of body))
  of_body P f so = each_then (λ d. size d ≤ length body) P f (λ d le. so d (omega (arith, le, few))) (value_of body) (value_size body)

  pub act_in_made : Each (IsMade house) (act_in house body)
  act_in_made = of_body (IsMade house) (act_of house) (act_made house)

  pub cycle_in_made : Each (IsAsk house) (cycle_in house body)
  cycle_in_made = of_body (IsAsk house) (cycle_of house) (cycle_made house)

  pub try_in_made : Each (IsAsk house) (try_in house body)
  try_in_made = of_body (IsAsk house) (try_of house) (try_made house)
