-- A SEARCH that looks at no texts: what it finds does not go by them, nor by sizes where it looks at flags, numbers and days alone.
use Rattle.std.proofs.Common.{◌≡◌, ℕ, suc, ◌+◌, ◌-◌, ◌<◌, Bool, true, false, not, ◌&&◌, ◌||◌, cond, List, [], ◌∷◌, ◌++◌, map, Option, None, Some, refl, ap, ap₂, subst, sym, ◌∙◌, arith, append_assoc, true≢false}
use Rattle.std.specs.Prelude.{nat_lt, slice_get, option_and_then, option_map, flat_map, unwrap_or}
use Rattle.std.specs.List.{cons_option, range_with_len}
use Rattle.std.specs.Option.{option_map_or}
use Rattle.std.proofs.lemmas.List.{map-append}
use Rattle.imap_fetch.specs.declared.messages.Message.{Message}
use Rattle.imap_session.specs.Searching.{all_places, ask_for, bare_found, bare_kept, facts_of, found, found_from, is_known_charset, is_of_more, is_of_texts, keys_of, kept, number_of, numbers_of, octets_of, search_ask, search_bodies, told, total_size}
use Rattle.imap_session.specs.Dialog.{asks, begin_search, says, search, search_bare, search_in, searching}
use Rattle.imap_session.specs.declared.words.Answer.TheVariants.{BadCharset}
use Rattle.imap_session.specs.declared.dialog.Dialog.{Dialog}
use Rattle.imap_session.specs.declared.dialog.Pending.TheVariants as on
use Rattle.imap_session.specs.declared.dialog.Searching.{Searching}
use Rattle.imap_session.specs.declared.dialog.Selected.{Selected}
use Rattle.imap_view.specs.Named.{rows_at, untold}
use Rattle.imap_view.specs.Views.{entry_of}
use Rattle.imap_view.specs.declared.messages.Known.{Known}
use Rattle.search_verb.specs.Asked.{Asked, Every, Never, Answered, Deleted, Draft, Flagged, Seen, Places, Uids, Before, On, Since, Larger, Smaller, Field, Body, Text, Not, Or, And}
use Rattle.search_verb.specs.Meets.{Facts, greater, meets, needed}
use Rattle.search_verb.specs.declared.candidate.Look.{Look}
use Rattle.search_verb.specs.declared.candidate.Look.TheVariants as look
use Rattle.verb_core.specs.declared.ask.Ask.TheVariants as ask
use Rattle.verb_core.specs.Live.{mail_of}
use Rattle.verb_core.specs.Store.{MailStore}
use Rattle.verb_core.specs.declared.mailbox.Body.{Body as TheBody}
use Rattle.verb_core.specs.declared.mailbox.Entry.{Entry}

-- where the greater of two is nothing, so is each
first_bare : (a b : Look) → is_of_more (greater a b) ≡ false → is_of_more a ≡ false
first_bare look.Nothing b h = refl
first_bare look.Size look.Nothing h = h
first_bare look.Size look.Size h = h
first_bare look.Size look.Text h = h
first_bare look.Text b h = h

second_bare : (a b : Look) → is_of_more (greater a b) ≡ false → is_of_more b ≡ false
second_bare look.Nothing b h = h
second_bare look.Size look.Nothing h = refl
second_bare look.Size look.Size h = h
second_bare look.Size look.Text h = h
second_bare look.Text b h = absurd (true≢false h)

-- a size makes no difference to what looks at nothing
pub sizes_apart : (asked : Asked) (what : Facts) (size : ℕ) → is_of_more (needed asked) ≡ false → meets asked (record what { size = size }) ≡ meets asked what
sizes_apart Every what size h = refl
sizes_apart Never what size h = refl
sizes_apart Answered what size h = refl
sizes_apart Deleted what size h = refl
sizes_apart Draft what size h = refl
sizes_apart Flagged what size h = refl
sizes_apart Seen what size h = refl
sizes_apart (Places ranges) what size h = refl
sizes_apart (Uids ranges) what size h = refl
sizes_apart (Before day) what size h = refl
sizes_apart (On day) what size h = refl
sizes_apart (Since day) what size h = refl
sizes_apart (Larger most) what size h = absurd (true≢false h)
sizes_apart (Smaller least) what size h = absurd (true≢false h)
sizes_apart (Field name string) what size h = refl
sizes_apart (Body string) what size h = refl
sizes_apart (Text string) what size h = refl
sizes_apart (Not asked) what size h = ap not (sizes_apart asked what size h)
sizes_apart (Or first second) what size h =
    ap₂ (λ (a b : Bool). a || b) (sizes_apart first what size (first_bare (needed first) (needed second) h)) (sizes_apart second what size (second_bare (needed first) (needed second) h))
sizes_apart (And first rest) what size h =
    ap₂ (λ (a b : Bool). a && b) (sizes_apart first what size (first_bare (needed first) (needed rest) h)) (sizes_apart rest what size (second_bare (needed first) (needed rest) h))

-- ---- one pass of the places

-- one place more, of what is told of each message
pub one_more : {X : Type 0} (g : Message → X) (f : ℕ → List Message) (told next : List X) (whole : List Message) (place count : ℕ) → place < count
    → told ++ map g (flat_map f (range_with_len place (count - place))) ≡ map g whole → next ≡ told ++ map g (f place)
    → next ++ map g (flat_map f (range_with_len (place + 1) (count - (place + 1)))) ≡ map g whole
one_more g f told next whole place count h before more =
    let left : count - place ≡ suc (count - (place + 1)) = omega (arith, h) in
    let rest : List Message = flat_map f (range_with_len (place + 1) (count - (place + 1))) in
    ap (λ l. l ++ map g rest) more
    ∙ append_assoc told (map g (f place)) (map g rest)
    ∙ ap (λ l. told ++ l) (sym (map-append g (f place) rest))
    ∙ ap (λ n. told ++ map g (flat_map f (range_with_len place n))) (sym left) ∙ before

-- ---- what is told of the messages that were found

-- a search, with no list of messages
abbrev pub bare : Searching → Searching
bare q = record q { rows = [] }

module _ {X : Type 0} (g : Message → X) (same : (m : Message) (size : ℕ) → g (record m { size = size }) ≡ g m) (sizes : TheBody → Option ℕ) (entries : List Entry) (view : List Known) (q : Searching) (h : is_of_more (needed q.key) ≡ false) where
  -- one message, which matches or not
  one_alike : (n place size : ℕ) (e : Entry) (rest rest_told : List Message) → map g rest ≡ map g rest_told
      → map g (kept (bare q) [] 0 (record { place = place; entry = e; size = 0 }) ++ rest) ≡ map g (kept q [] n (record { place = place; entry = e; size = size }) ++ rest_told)
  one_alike n place size e rest rest_told later =
      let plain : Message = record { place = place; entry = e; size = 0 } in
      let sized : Message = record { place = place; entry = e; size = size } in
      let test : meets q.key (facts_of q sized []) ≡ meets q.key (facts_of q plain []) = sizes_apart q.key (facts_of q plain []) size h in
      let alike : g sized ≡ g plain = same plain size in
      subst (λ (b : Bool). map g (cond (meets q.key (facts_of q plain [])) (plain ∷ []) [] ++ rest) ≡ map g (cond b (sized ∷ []) [] ++ rest_told)) (sym test)
      (elim (meets q.key (facts_of q plain [])) as (λ b. map g (cond b (plain ∷ []) [] ++ rest) ≡ map g (cond b (sized ∷ []) [] ++ rest_told)) [
        | true ↦ ap₂ (λ (x : X) (xs : List X). x ∷ xs) (sym alike) later
        | false ↦ later
      ])

  pub found_alike : (n : ℕ) (places : List ℕ) → map g (flat_map (bare_kept untold (bare q) entries view) places) ≡ map g (found_from q [] n (rows_at sizes entries view places))
  unfolding found_from
  found_alike n [] = refl
  found_alike n (place ∷ places) =
      elim (option_and_then (entry_of entries) (slice_get view place)) as (λ (o : Option Entry).
      map g (option_map_or (λ (m : Message). kept (bare q) [] 0 m) (option_map (λ (e : Entry). record { place = place + 1; entry = e; size = 0 }) o) [] ++ flat_map (bare_kept untold (bare q) entries view) places)
      ≡ map g (found_from q [] n (cons_option (option_map (λ (e : Entry). record { place = place + 1; entry = e; size = unwrap_or (sizes e.body) 0 }) o) (rows_at sizes entries view places)))) [
        | None ↦ found_alike n places
        | Some e ↦ one_alike n (place + 1) (unwrap_or (sizes e.body) 0) e _ _ (found_alike (n + 1) places)
      ]

-- with their sizes the messages that are found are the same
module _ (sizes : TheBody → Option ℕ) (entries : List Entry) (view : List Known) (q : Searching) where
  found_sized : (n : ℕ) (places : List ℕ) → flat_map (bare_kept sizes (bare q) entries view) places ≡ found_from q [] n (rows_at sizes entries view places)
  unfolding found_from
  found_sized n [] = refl
  found_sized n (place ∷ places) =
      elim (option_and_then (entry_of entries) (slice_get view place)) as (λ (o : Option Entry).
      option_map_or (λ (m : Message). kept (bare q) [] 0 m) (option_map (λ (e : Entry). record { place = place + 1; entry = e; size = unwrap_or (sizes e.body) 0 }) o) [] ++ flat_map (bare_kept sizes (bare q) entries view) places
      ≡ found_from q [] n (cons_option (option_map (λ (e : Entry). record { place = place + 1; entry = e; size = unwrap_or (sizes e.body) 0 }) o) (rows_at sizes entries view places))) [
        | None ↦ found_sized n places
        | Some e ↦ ap (λ (rest : List Message). kept q [] n (record { place = place + 1; entry = e; size = unwrap_or (sizes e.body) 0 }) ++ rest) (found_sized (n + 1) places)
      ]

-- what is asked of the store and what is to be told are the same
module _ (sizes : TheBody → Option ℕ) (entries : List Entry) (view : List Known) (q : Searching) (h : is_of_texts (needed q.key) ≡ false) (whole : q.rows ≡ rows_at sizes entries view (all_places view)) where
  pub no_bodies : search_bodies q ≡ []
  no_bodies = ap (λ b. cond (not b || nat_lt 268435456 (cond b (total_size q.rows) 0)) [] (map (λ (m : Message). m.entry.body) q.rows)) h

  found_whole : found q [] ≡ found_from q [] 0 (rows_at sizes entries view (all_places view))
  found_whole =
      ap (λ b. cond (nat_lt 268435456 (cond b (total_size q.rows) 0)) [] (found_from q [] 0 q.rows)) h ∙ ap (found_from q [] 0) whole

  told_alike : {X : Type 0} (g : Message → X) → ((m : Message) (size : ℕ) → g (record m { size = size }) ≡ g m)
      → map g (bare_found (told (needed q.key) sizes) (bare q) entries view) ≡ map g (found q [])
  told_alike g same =
      elim (is_of_more (needed q.key)) as (λ (b : Bool). is_of_more (needed q.key) ≡ b → map g (bare_found (cond b sizes untold) (bare q) entries view) ≡ map g (found_from q [] 0 (rows_at sizes entries view (all_places view)))) [
        | true ↦ λ e. ap (map g) (found_sized sizes entries view q 0 (all_places view))
        | false ↦ λ e. found_alike g same sizes entries view q e 0 (all_places view)
      ] refl ∙ ap (map g) (sym found_whole)

  keys_alike : keys_of (bare_found (told (needed q.key) sizes) (bare q) entries view) ≡ keys_of (found q [])
  keys_alike = told_alike (λ (m : Message). m.entry.key) (λ m size. refl)

  pub numbers_alike : numbers_of q.by_uid (bare_found (told (needed q.key) sizes) (bare q) entries view) ≡ numbers_of q.by_uid (found q [])
  numbers_alike = told_alike (number_of q.by_uid) (λ m size. refl)

  pub ask_alike : ask_for (bare q) (bare_found (told (needed q.key) sizes) (bare q) entries view) ≡ search_ask q []
  ask_alike =
      let none : octets_of (bare q) ≡ octets_of q = ap (λ b. cond b (total_size []) 0) h ∙ sym (ap (λ b. cond b (total_size q.rows) 0) h) in
      λ i. ask.Fetch q.mailbox (keys_alike i) false (is_of_more (needed q.key)) false (none i)

-- a SEARCH that looks at no texts is the same without a list of the messages
pub search_in_bare : (s : MailStore) (sizes : TheBody → Option ℕ) (tag : List ℕ) (d : Dialog) (selected : Selected) (key : Asked) (by_uid : Bool) → is_of_texts (needed key) ≡ false
    → search_in s sizes tag d selected key by_uid ≡ search_bare s sizes tag d selected key by_uid
search_in_bare s sizes tag d selected key by_uid h =
    let q : Searching = searching s sizes d selected key by_uid in
    let entries : List Entry = mail_of s d.user selected.mailbox in
    ap (begin_search tag d q) (no_bodies sizes entries selected.view q h refl)
    ∙ sym (λ i. asks (ask_alike sizes entries selected.view q h refl i) tag (on.Search by_uid (numbers_alike sizes entries selected.view q h refl i)) d)

-- the same where a mailbox is selected and the charset is known
pub search_is_bare : (s : MailStore) (sizes : TheBody → Option ℕ) (tag : List ℕ) (d : Dialog) (charset : Option (List ℕ)) (key : Asked) (by_uid : Bool) (selected : Selected) → d.selected ≡ Some selected
    → is_known_charset charset ≡ true → is_of_texts (needed key) ≡ false → search s sizes tag d d.selected charset key by_uid ≡ search_bare s sizes tag d selected key by_uid
search_is_bare s sizes tag d charset key by_uid selected is known h =
    ap (λ (o : Option Selected). search s sizes tag d o charset key by_uid) is
    ∙ ap (λ b. cond b (search_in s sizes tag d selected key by_uid) (says tag BadCharset d)) known
    ∙ search_in_bare s sizes tag d selected key by_uid h
