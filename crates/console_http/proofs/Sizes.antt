-- How many values a JSON value has inside: at most the bytes that it was read from.
use Rattle.std.proofs.Common.{◌≡◌, ℕ, suc, ◌+◌, ◌<◌, ◌≤◌, List, [], ◌∷◌, ◌++◌, length, Bool, true, false, Option, Some, None, Less, Equal, Greater, nat_cmp, refl, ap, arith, length-append}
use Rattle.std.specs.Prelude.{option_and_then, option_map}
use Rattle.std.specs.Cmp.Lexicographic.{slice_cmp}
use Rattle.std.specs.Ordering.{match_ordering}
use Rattle.std.specs.Str.{is_utf8}
use Rattle.json.specs.Json as json
use Rattle.json.specs.Json.{Json, if_last, value}
use Rattle.json.specs.Lex.{Lexeme, token, comma, colon, Class, quote, backslash, operator, space, other, Mode, between, in_word, in_string, in_escape, Place, fresh, after_value, after_comma, after_key}
use Rattle.json.specs.Lex.{class, lex_byte, lex, may_begin, may_close, begins_colon, if_allowed, place_token, punctuate, tokens}
use Rattle.json.specs.Token.{Token}
use Rattle.json.specs.Tree.{json_tokens, items_tokens, members_tokens}
use Rattle.json.proofs.Unique.Spelling.{value-json_tokens_back}
use Rattle.serde_json.specs.Data.{Num, Data, null, boolean, number, string, array, object, Items, no_items, item, Members, no_members, member, put}
use Rattle.serde_json.specs.Events.{items_len}
use Rattle.serde_json.specs.Find.{get_member, get, as_array}
use Rattle.serde_json.specs.Read.{number_of, of_json, of_items, of_members, max_depth, read}
use Rattle.console_http.specs.Members.{list_in, list_at, value_of}
use Rattle.console_http.proofs.Each.{Each, Anything, anything, each_then, each_map, each_weaker, each_if}

-- the items of its arrays, at each depth, and its arrays
abbrev mutual
  pub size : Data → ℕ
  size null = 0
  size (boolean b) = 0
  size (number n) = 0
  size (string s) = 0
  size (array ds) = suc (items_size ds)
  size (object ms) = suc (members_size ms)

  pub items_size : Items → ℕ
  items_size no_items = 0
  items_size (item d ds) = suc (size d + items_size ds)

  pub members_size : Members → ℕ
  members_size no_members = 0
  members_size (member k d ms) = size d + members_size ms

-- ---- what is inside is no larger

pub few_items : (ds : Items) → items_len ds ≤ items_size ds
few_items no_items = omega arith
few_items (item d ds) = omega (arith, few_items ds)

member_size : (k : List ℕ) (ms : Members) → Each (λ e. size e ≤ members_size ms) (get_member k ms)
member_size k no_members = tt
member_size k (member l e ms) =
    let later = each_weaker (λ x. size x ≤ members_size ms) (λ x. size x ≤ size e + members_size ms) (λ x h. omega (arith, h)) (get_member k ms) (member_size k ms) in
    elim (slice_cmp nat_cmp k l) as (λ o. Each (λ x. size x ≤ size e + members_size ms) (match_ordering o (get_member k ms) (Some e) (get_member k ms))) [
      | Less ↦ later
      | Equal ↦ omega arith
      | Greater ↦ later
    ]

pub got_size : (k : List ℕ) (d : Data) → Each (λ e. size e ≤ size d) (get k d)
got_size k null = tt
got_size k (boolean b) = tt
got_size k (number n) = tt
got_size k (string s) = tt
got_size k (array ds) = tt
got_size k (object ms) = each_weaker (λ e. size e ≤ members_size ms) (λ e. size e ≤ suc (members_size ms)) (λ e h. omega (arith, h)) (get_member k ms) (member_size k ms)

pub array_size : (d : Data) → Each (λ ds. items_size ds ≤ size d) (as_array d)
array_size null = tt
array_size (boolean b) = tt
array_size (number n) = tt
array_size (string s) = tt
array_size (array ds) = omega arith
array_size (object ms) = tt

list_size : (n : ℕ) (o : Option Data) → Each (λ e. size e ≤ n) o → Each (λ ds. items_size ds ≤ n) (list_in o)
list_size n None h = omega arith
list_size n (Some d) h = each_weaker (λ ds. items_size ds ≤ size d) (λ ds. items_size ds ≤ n) (λ ds le. omega (arith, le, h)) (as_array d) (array_size d)

pub listed_size : (k : List ℕ) (d : Data) → Each (λ ds. items_size ds ≤ size d) (list_at k d)
listed_size k d = list_size (size d) (get k d) (got_size k d)

-- ---- what is read of tokens

put_size : (k : List ℕ) (d : Data) (ms : Members) → members_size (put k d ms) ≤ size d + members_size ms
put_size k d no_members = omega arith
put_size k d (member l e ms) =
    let rest = put_size k d ms in
    elim (slice_cmp nat_cmp k l) as
    (λ o. members_size (match_ordering o (member k d (member l e ms)) (member l d ms) (member l e (put k d ms))) ≤ size d + (size e + members_size ms)) [
      | Less ↦ omega arith
      | Equal ↦ omega arith
      | Greater ↦ omega (arith, rest)
    ]

mutual
  json_size : (j : Json) → Each (λ d. size d < length (json_tokens j)) (of_json j)
  json_size json.null = omega arith
  json_size (json.boolean b) = omega arith
  json_size (json.number s) = each_map {A = Num} Anything (λ d. size d < 1) number (λ n h. omega arith) (number_of s) (anything (number_of s))
  json_size (json.string s) = omega arith
  json_size (json.array js) =
      each_map (λ ds. items_size ds < length (items_tokens js)) (λ d. size d < suc (length (items_tokens js))) array (λ ds h. omega (arith, h)) (of_items js) (items_sized js)
  json_size (json.object ms) =
      each_map (λ ds. members_size ds < members_size no_members + length (members_tokens ms)) (λ d. size d < suc (length (members_tokens ms))) object (λ ds h. omega (arith, h))
      (of_members ms no_members) (members_sized ms no_members)

  items_sized : (js : json.Items) → Each (λ ds. items_size ds < length (items_tokens js)) (of_items js)
  items_sized json.no_items = omega arith
  items_sized (json.item j js) =
      each_then (λ d. size d < length (json_tokens j)) (λ ds. items_size ds < length (json_tokens j ++ items_tokens js)) (λ d. option_map (item d) (of_items js))
      (λ d h. each_map (λ ds. items_size ds < length (items_tokens js)) (λ ds. items_size ds < length (json_tokens j ++ items_tokens js)) (item d)
      (λ ds g. omega (arith, h, g, length-append (json_tokens j) (items_tokens js))) (of_items js) (items_sized js))
      (of_json j) (json_size j)

  members_sized : (ms : json.Members) (found : Members) → Each (λ ds. members_size ds < members_size found + length (members_tokens ms)) (of_members ms found)
  members_sized json.no_members found = omega arith
  members_sized (json.member k j ms) found =
      each_then (λ d. size d < length (json_tokens j)) (λ ds. members_size ds < members_size found + suc (length (json_tokens j ++ members_tokens ms))) (λ d. of_members ms (put k d found))
      (λ d h. each_weaker (λ ds. members_size ds < members_size (put k d found) + length (members_tokens ms)) (λ ds. members_size ds < members_size found + suc (length (json_tokens j ++ members_tokens ms)))
      (λ ds g. omega (arith, h, g, put_size k d found, length-append (json_tokens j) (members_tokens ms))) (of_members ms (put k d found)) (members_sized ms (put k d found)))
      (of_json j) (json_size j)

last_size : (ts : List Token) (o : Option (Json × List Token)) → ((j : Json) (r : List Token) → o ≡ Some (j, r) → ts ≡ json_tokens j ++ r)
    → Each (λ j. length (json_tokens j) ≤ length ts) (option_and_then (λ p. if_last p.0 p.1) o)
last_size ts None h = tt
last_size ts (Some (j, [])) h = omega (arith, ap length (h j [] refl), length-append (json_tokens j) [])
last_size ts (Some (j, t ∷ r)) h = tt

read_size : (text : List ℕ) → Each (λ d. size d < length (tokens text)) (read text)
read_size text =
    each_then (λ j. length (json_tokens j) ≤ length (tokens text)) (λ d. size d < length (tokens text)) of_json
    (λ j h. each_weaker (λ d. size d < length (json_tokens j)) (λ d. size d < length (tokens text)) (λ d g. omega (arith, h, g)) (of_json j) (json_size j))
    (option_and_then (λ p. if_last p.0 p.1) (value max_depth (tokens text)))
    (last_size (tokens text) (value max_depth (tokens text)) (λ j r e. value-json_tokens_back max_depth (tokens text) r j e))

-- ---- tokens are no more than bytes, but for the last

lexed : (m : Mode) (c : Class) (x : ℕ) (xs : List ℕ) (k : Mode → List Lexeme) → ((next : Mode) → length (k next) ≤ length xs) → length (lex_byte m c x xs k) ≤ suc (length xs)
lexed between quote x xs k h = omega (arith, h in_string)
lexed between backslash x xs k h = omega (arith, h in_word)
lexed between operator x xs k h = omega (arith, h between)
lexed between space x xs k h = omega (arith, h between)
lexed between other x xs k h = omega (arith, h in_word)
lexed in_word quote x xs k h = omega (arith, h in_word)
lexed in_word backslash x xs k h = omega (arith, h in_word)
lexed in_word operator x xs k h = omega (arith, h between)
lexed in_word space x xs k h = omega (arith, h between)
lexed in_word other x xs k h = omega (arith, h in_word)
lexed in_string quote x xs k h = omega (arith, h between)
lexed in_string backslash x xs k h = omega (arith, h in_escape)
lexed in_string operator x xs k h = omega (arith, h in_string)
lexed in_string space x xs k h = omega (arith, h in_string)
lexed in_string other x xs k h = omega (arith, h in_string)
lexed in_escape c x xs k h = omega (arith, h in_string)

lex_size : (m : Mode) (xs : List ℕ) → length (lex m xs) ≤ length xs
unfolding lex
lex_size m [] = omega arith
lex_size m (x ∷ xs) = lexed m (class x) x xs (λ next. lex next xs) (λ next. lex_size next xs)

allowed : (ok : Bool) (t : Token) (k : Place → List Token) (next : Place) (n : ℕ) → length (k next) ≤ n → length (if_allowed ok t k next) ≤ suc n
allowed true t k next n h = omega (arith, h)
allowed false t k next n h = omega arith

placed : (p : Place) (t : Token) (b : Bool) (k : Place → List Token) (n : ℕ) → ((next : Place) → length (k next) ≤ suc n) → length (place_token p t b k) ≤ suc (suc n)
placed p Token.begin_object b k n h = allowed (may_begin p) Token.begin_object k fresh (suc n) (h fresh)
placed p Token.end_object b k n h = allowed (may_close p) Token.end_object k after_value (suc n) (h after_value)
placed p Token.begin_array b k n h = allowed (may_begin p) Token.begin_array k fresh (suc n) (h fresh)
placed p Token.end_array b k n h = allowed (may_close p) Token.end_array k after_value (suc n) (h after_value)
placed p (Token.key s) b k n h = omega arith
placed p (Token.string s) true k n h = allowed (may_begin p) (Token.key s) k after_key (suc n) (h after_key)
placed p (Token.string s) false k n h = allowed (may_begin p) (Token.string s) k after_value (suc n) (h after_value)
placed p (Token.number s) b k n h = allowed (may_begin p) (Token.number s) k after_value (suc n) (h after_value)
placed p (Token.boolean v) b k n h = allowed (may_begin p) (Token.boolean v) k after_value (suc n) (h after_value)
placed p Token.null b k n h = allowed (may_begin p) Token.null k after_value (suc n) (h after_value)
placed p Token.bad b k n h = omega arith

punctuated : (p : Place) (ls : List Lexeme) → length (punctuate p ls) ≤ suc (length ls)
unfolding punctuate
punctuated fresh [] = omega arith
punctuated after_value [] = omega arith
punctuated after_comma [] = omega arith
punctuated after_key [] = omega arith
punctuated fresh (token t ∷ ls) = placed fresh t (begins_colon ls) (λ next. punctuate next ls) (length ls) (λ next. punctuated next ls)
punctuated after_value (token t ∷ ls) = placed after_value t (begins_colon ls) (λ next. punctuate next ls) (length ls) (λ next. punctuated next ls)
punctuated after_comma (token t ∷ ls) = placed after_comma t (begins_colon ls) (λ next. punctuate next ls) (length ls) (λ next. punctuated next ls)
punctuated after_key (token t ∷ ls) = placed after_key t (begins_colon ls) (λ next. punctuate next ls) (length ls) (λ next. punctuated next ls)
punctuated fresh (comma ∷ ls) = omega arith
punctuated after_value (comma ∷ ls) = omega (arith, punctuated after_comma ls)
punctuated after_comma (comma ∷ ls) = omega arith
punctuated after_key (comma ∷ ls) = omega arith
punctuated fresh (colon ∷ ls) = omega arith
punctuated after_value (colon ∷ ls) = omega arith
punctuated after_comma (colon ∷ ls) = omega arith
punctuated after_key (colon ∷ ls) = omega (arith, punctuated fresh ls)

pub value_size : (body : List ℕ) → Each (λ d. size d ≤ length body) (value_of body)
value_size body =
    each_if (λ d. size d ≤ length body) (is_utf8 body) (read body)
    (each_weaker (λ d. size d < length (tokens body)) (λ d. size d ≤ length body) (λ d h. omega (arith, h, punctuated fresh (lex between body), lex_size between body)) (read body) (read_size body))
