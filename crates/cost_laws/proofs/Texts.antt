-- Which texts a FETCH or a SEARCH needs, and how many octets they have.
use Rattle.std.proofs.Common.{◌≡◌, ℕ, zero, suc, ◌+◌, ◌*◌, ◌==◌, ◌≤◌, ◌<◌, arith, Bool, true, false, true≢false, cond, not, ◌||◌, nat_lt, min, List, [], ◌∷◌, length, map, slice_get, Option, None, Some, option_map, option_and_then, refl, ap, sym, ◌∙◌}
use Rattle.std.specs.Prelude.{IfSome, filter_map, is_some, unwrap_or}
use Rattle.std.specs.List.{cons_option, range_with_len, sum_by}
use Rattle.std.proofs.lemmas.Bool.{ltb-false}
use Rattle.std.proofs.lemmas.List.{length-map}
use Rattle.std.proofs.lemmas.List.Sums.{sum_by-cons, sum_by-le-sum_by}
use Rattle.std.proofs.lemmas.Nat.{mul-le}
use Rattle.imap_stream.specs.declared.picks.SetRange.{SetRange}
use Rattle.imap_stream.specs.Sets.{covered, greatest_of, number_at, picked, places_in, refused}
use Rattle.imap_fetch.specs.declared.asked.Attribute.{Attribute}
use Rattle.imap_fetch.specs.declared.messages.Message.{Message}
use Rattle.imap_fetch.specs.Asked.{body_sections, octets_asked}
use Rattle.imap_view.specs.declared.messages.Known.{Known}
use Rattle.imap_view.specs.Named.{message_at, places_named, rows_at}
use Rattle.imap_view.specs.Views.{entry_of, uids_of}
use Rattle.imap_session.specs.declared.dialog.Fetching.{Fetching}
use Rattle.imap_session.specs.declared.dialog.Searching.{Searching}
use Rattle.imap_session.specs.Fetching.{bodies_of, is_refused_unread}
use Rattle.imap_session.specs.Searching.{is_of_texts, is_too_large, octets_of, search_bodies, total_size}
use Rattle.search_verb.specs.Meets.{needed}
use Rattle.verb_core.specs.declared.mailbox.Body.{Body}
use Rattle.verb_core.specs.declared.mailbox.Entry.{Entry}
use Rattle.cost_laws.specs.Reads.{IsFewTexts, octets_read}

-- ---- the messages of a view

abbrev body_of : Message → Body
body_of m = m.entry.body

abbrev size_of : Message → ℕ
size_of m = m.size

one_longer : (a b : ℕ) → a ≤ b → suc a ≤ suc b
one_longer a b le = omega (arith, le)

as_long : (a b : ℕ) → a ≤ b → a ≤ suc b
as_long a b le = omega (arith, le)

found_shorter : {Y : Type 0} (o : Option Y) (ys : List Y) (n : ℕ) → length ys ≤ n → length (cons_option o ys) ≤ suc n
found_shorter None ys n le = as_long (length ys) n le
found_shorter (Some y) ys n le = one_longer (length ys) n le

shorter : {X Y : Type 0} (f : X → Option Y) (xs : List X) → length (filter_map f xs) ≤ length xs
shorter f [] = omega arith
shorter f (x ∷ xs) = found_shorter (f x) (filter_map f xs) (length xs) (shorter f xs)

place_shorter : (b : Bool) (place : ℕ) (rest : List ℕ) (n : ℕ) → length rest ≤ n → length (cond b (place ∷ rest) rest) ≤ suc n
place_shorter true place rest n le = one_longer (length rest) n le
place_shorter false place rest n le = as_long (length rest) n le

places_few : (test : ℕ → Bool) (from n : ℕ) → length (places_in test from n) ≤ n
places_few test from zero = omega arith
places_few test from (suc n) = place_shorter (test from) from (places_in test (from + 1) n) n (places_few test (from + 1) n)

le_same : (a b c : ℕ) → a ≤ b → b ≡ c → a ≤ c
le_same a b c le same = omega (arith, le, same)

named_if : (b : Bool) (places : List ℕ) (n : ℕ) → length places ≤ n → IfSome (cond b None (Some places)) (λ (ps : List ℕ). length ps ≤ n)
named_if true places n le = tt
named_if false places n le = le

pub named_few : (view : List Known) (set : List SetRange) (by_uid : Bool) → IfSome (places_named view set by_uid) (λ (places : List ℕ). length places ≤ length view)
named_few view set by_uid =
    named_if (is_some (refused by_uid set (uids_of view))) (picked set (uids_of view) by_uid) (length view)
    (le_same (length (picked set (uids_of view) by_uid)) (length (uids_of view)) (length view)
    (places_few (λ p. covered (greatest_of by_uid (uids_of view)) set (number_at by_uid (uids_of view) p)) 0 (length (uids_of view)))
    (length-map view (λ (known : Known). known.uid)))

pub range_few : (from n : ℕ) → length (range_with_len from n) ≤ n
range_few from zero = omega arith
range_few from (suc n) = let h = range_few (from + 1) n in omega (arith, h)

pub rows_few : (sizes : Body → Option ℕ) (entries : List Entry) (view : List Known) (places : List ℕ) → length (rows_at sizes entries view places) ≤ length places
rows_few sizes entries view places = shorter (message_at sizes entries view) places

-- a message has the size of its text
sized_entry : (sizes : Body → Option ℕ) (place : ℕ) (o : Option Entry) (rest : List Message) → octets_read sizes (map body_of rest) ≡ sum_by size_of rest
    → octets_read sizes (map body_of (cons_option (option_map (λ (e : Entry). record { place = place + 1; entry = e; size = unwrap_or (sizes e.body) 0 }) o) rest))
    ≡ sum_by size_of (cons_option (option_map (λ (e : Entry). record { place = place + 1; entry = e; size = unwrap_or (sizes e.body) 0 }) o) rest)
sized_entry sizes place None rest same = same
sized_entry sizes place (Some e) rest same =
    let m : Message = record { place = place + 1; entry = e; size = unwrap_or (sizes e.body) 0 } in
    sum_by-cons (λ (body : Body). unwrap_or (sizes body) 0) e.body (map body_of rest) ∙ ap (λ (n : ℕ). unwrap_or (sizes e.body) 0 + n) same ∙ sym (sum_by-cons size_of m rest)

rows_sized : (sizes : Body → Option ℕ) (entries : List Entry) (view : List Known) (places : List ℕ)
    → octets_read sizes (map body_of (rows_at sizes entries view places)) ≡ sum_by size_of (rows_at sizes entries view places)
rows_sized sizes entries view [] = refl
rows_sized sizes entries view (place ∷ places) =
    sized_entry sizes place (option_and_then (entry_of entries) (slice_get view place)) (rows_at sizes entries view places) (rows_sized sizes entries view places)

-- ---- what is small

or_second : (p q : Bool) → (p || q) ≡ false → q ≡ false
or_second true q h = absurd (true≢false h)
or_second false q h = h

or_first : (p q : Bool) → (p || q) ≡ false → p ≡ false
or_first true q h = absurd (true≢false h)
or_first false q h = refl

some_of : (n : ℕ) → (n == 0) ≡ false → 1 ≤ n
some_of zero h = absurd (true≢false h)
some_of (suc n) h = omega arith

not_not : (b : Bool) → not b ≡ false → b ≡ true
not_not true h = refl
not_not false h = absurd (true≢false h)

least_of : (n most : ℕ) → min n 18446744073709551615 ≤ most → most < 18446744073709551615 → n ≤ most
least_of n most le less = omega (arith, le, less)

when_few : (sizes : Body → Option ℕ) (most : ℕ) (b : Bool) (bodies : List Body) → (b ≡ false → IsFewTexts sizes most bodies) → IsFewTexts sizes most (cond b [] bodies)
when_few sizes most true bodies h = record { texts = omega arith; octets = omega arith }
when_few sizes most false bodies h = h refl

asked_is : (rows : List Message) (attributes : List Attribute) → octets_asked rows attributes ≡ min (sum_by (λ (m : Message). m.size * body_sections attributes) rows) 18446744073709551615
unfolding octets_asked
asked_is rows attributes = refl

total_is : (rows : List Message) → total_size rows ≡ min (sum_by size_of rows) 18446744073709551615
unfolding total_size
total_is rows = refl

sized_by : (rows : List Message) (n : ℕ) → 1 ≤ n → sum_by size_of rows ≤ sum_by (λ (m : Message). m.size * n) rows
sized_by rows n one = sum_by-le-sum_by size_of (λ (m : Message). m.size * n) rows (λ m. let h : m.size * 1 ≤ m.size * n = mul-le m.size 1 m.size n (omega arith) one in omega (arith, h))

asked_small : (rows : List Message) (attributes : List Attribute) → 1 ≤ body_sections attributes → octets_asked rows attributes ≤ 268435456 → sum_by size_of rows ≤ 268435456
asked_small rows attributes one le =
    let is = asked_is rows attributes in
    let h = least_of (sum_by (λ (m : Message). m.size * body_sections attributes) rows) 268435456 (omega (arith, is, le)) (omega arith) in
    let k = sized_by rows (body_sections attributes) one in
    omega (arith, h, k)

total_small : (rows : List Message) → total_size rows ≤ 268435456 → sum_by size_of rows ≤ 268435456
total_small rows le = let is = total_is rows in least_of (sum_by size_of rows) 268435456 (omega (arith, is, le)) (omega arith)

-- ---- a FETCH and a SEARCH

module _ (sizes : Body → Option ℕ) (entries : List Entry) (view : List Known) where
  few_of : (rows : List Message) (places : List ℕ) (most : ℕ) → rows ≡ rows_at sizes entries view places → length places ≤ most → sum_by size_of rows ≤ 268435456 → IsFewTexts sizes most (map body_of rows)
  few_of rows places most is le small = record {
    texts =
        let l : length (map body_of rows) ≡ length rows = length-map rows body_of in
        let k = rows_few sizes entries view places in
        let e : length rows ≡ length (rows_at sizes entries view places) = ap length is in
        omega (arith, l, k, e, le);
    octets =
        let sized : octets_read sizes (map body_of rows) ≡ sum_by size_of rows =
        ap (λ (ms : List Message). octets_read sizes (map body_of ms)) is ∙ rows_sized sizes entries view places ∙ ap (λ (ms : List Message). sum_by size_of ms) (sym is) in
        omega (arith, sized, small);
  }

  pub fetched_few : (f : Fetching) (places : List ℕ) (most : ℕ) → f.rows ≡ rows_at sizes entries view places → f.octets ≡ octets_asked f.rows f.form.attributes → length places ≤ most
      → IsFewTexts sizes most (bodies_of f)
  fetched_few f places most is octets le =
      when_few sizes most ((body_sections f.form.attributes == 0) || is_refused_unread f) (map body_of f.rows) (λ h.
      let shown = some_of (body_sections f.form.attributes) (or_first (body_sections f.form.attributes == 0) (is_refused_unread f) h) in
      let small = ltb-false 268435456 f.octets (or_second _ (nat_lt 268435456 f.octets) (or_second (body_sections f.form.attributes == 0) (is_refused_unread f) h)) in
      few_of f.rows places most is le (asked_small f.rows f.form.attributes shown (omega (arith, octets, small))))

  of_texts : (b : Bool) (n : ℕ) → b ≡ true → cond b n 0 ≤ 268435456 → n ≤ 268435456
  of_texts true n h le = le
  of_texts false n h le = absurd (true≢false (sym h))

  pub searched_few : (q : Searching) (places : List ℕ) (most : ℕ) → q.rows ≡ rows_at sizes entries view places → length places ≤ most → IsFewTexts sizes most (search_bodies q)
  searched_few q places most is le =
      when_few sizes most (not (is_of_texts (needed q.key)) || is_too_large q) (map body_of q.rows) (λ h.
      let text = not_not (is_of_texts (needed q.key)) (or_first (not (is_of_texts (needed q.key))) (is_too_large q) h) in
      let small : octets_of q ≤ 268435456 = ltb-false 268435456 (octets_of q) (or_second (not (is_of_texts (needed q.key))) (is_too_large q) h) in
      few_of q.rows places most is le (total_small q.rows (of_texts (is_of_texts (needed q.key)) (total_size q.rows) text small)))
