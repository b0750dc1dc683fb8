-- The places that the code counts are those of the fields.
use Rattle.std.proofs.Common.{◌≡◌, ℕ, ◌+◌, ◌*◌, ◌<◌, ◌≤◌, List, [], ◌∷◌, ◌++◌, length, take, drop, Option, Some, None, refl, sym, ap, subst, ◌∙◌, arith}
use Rattle.std.specs.Prelude.{min, option_map}
use Rattle.std.specs.List.{AllZip, flat_map}
use Rattle.std.specs.Int.{w32}
use Rattle.std.specs.Option.{option_to_list}
use Rattle.std.proofs.lemmas.List.{take_at, drop_at}
use Rattle.verb_core.specs.declared.mailbox.Body.{Body}
use Rattle.verb_core.specs.declared.item.Act.{Act}
use Rattle.verb_core.specs.declared.item.Deed.TheVariants.{Act as Acts}
use Rattle.verb_core.specs.declared.item.Item.{Item}
use Rattle.verb_core.specs.Items.{text_in}
use Rattle.verb_bytes.specs.declared.journal.CycleAsk.{CycleAsk}
use Rattle.verb_bytes.specs.declared.journal.JournalRecord.TheVariants.{Verb, Operator, Cycle, Text, Kept}
use Rattle.verb_bytes.specs.declared.places.TextPlace.{TextPlace}
use Rattle.verb_bytes.specs.Fields.{◌&◌, number_field, name_field, u32_field, any_list_fields, most_of_four}
use Rattle.verb_bytes.specs.Places.{act_place, before_ask, first_from, given_places, given_texts, placed, places_along, replace_place, replaced_places, replaced_texts, size_of, text_places_of, IsTextAt, LiesThere}
use Rattle.verb_bytes.specs.Spelling.{act_fields, record_bytes, replace_fields}
use Rattle.verb_bytes.proofs.Sizes.{before_ask_is, size_both, size_numbers, size_u32}
use Rattle.verb_bytes.proofs.TextsLie.{body_lies, given_lie, kept_lies, operator_lies, replaced_lie, verb_lies}

-- ---- the one text of an item or an act

first_lies : (bytes : List ℕ) (o : Option TextPlace) (t : Option (List ℕ)) (text : List ℕ) → AllZip (LiesThere bytes) (option_to_list o) (option_to_list t) → t ≡ Some text → IsTextAt bytes (first_from (option_to_list o)) text
first_lies bytes None None text h e = absurd cc
first_lies bytes None (Some x) text h e = absurd h
first_lies bytes (Some p) None text h e = absurd h
first_lies bytes (Some p) (Some x) text h e = let same : x ≡ text = cc in subst (λ (t : List ℕ). IsTextAt bytes p.from t) same h.0.lies

one_place_is : (bytes : List ℕ) (o : Option TextPlace) (t : Option (List ℕ)) → AllZip (LiesThere bytes) (option_to_list o) (option_to_list t) → option_to_list o ≡ option_to_list (option_map (placed (first_from (option_to_list o))) t)
one_place_is bytes None None h = refl
one_place_is bytes None (Some x) h = absurd h
one_place_is bytes (Some p) None h = absurd h
one_place_is bytes (Some p) (Some x) h = ap (λ (n : ℕ). record { from = p.from; length = n } ∷ []) h.0.length_is

-- a number that four bytes can say is the place itself
text_lies : (bytes : List ℕ) (o : Option TextPlace) (t : Option (List ℕ)) (from : ℕ) (text : List ℕ) → AllZip (LiesThere bytes) (option_to_list o) (option_to_list t) → from ≡ min (first_from (option_to_list o)) most_of_four → length bytes ≤ most_of_four → t ≡ Some text → IsTextAt bytes from text
text_lies bytes o t from text zip is short e =
    let lies : IsTextAt bytes (first_from (option_to_list o)) text = first_lies bytes o t text zip e in
    subst (λ (n : ℕ). IsTextAt bytes n text) (omega (arith, lies.within, short, is)) lies

pub item_text_lies : (i : Item) (from : ℕ) (text : List ℕ) → from ≡ min (first_from (text_places_of (Verb i))) most_of_four → length (record_bytes (Verb i)) ≤ most_of_four → text_in i.deed ≡ Some text → IsTextAt (record_bytes (Verb i)) from text
item_text_lies i from text is short e = text_lies (record_bytes (Verb i)) _ (text_in i.deed) from text (verb_lies i) is short e

pub kept_text_lies : (i : Item) (from : ℕ) (text : List ℕ) → from ≡ min (first_from (text_places_of (Kept i))) most_of_four → length (record_bytes (Kept i)) ≤ most_of_four → text_in i.deed ≡ Some text → IsTextAt (record_bytes (Kept i)) from text
kept_text_lies i from text is short e = text_lies (record_bytes (Kept i)) _ (text_in i.deed) from text (kept_lies i) is short e

pub body_text_lies : (body : Body) (text : List ℕ) (from : ℕ) → from ≡ first_from (text_places_of (Text body text)) → IsTextAt (record_bytes (Text body text)) from text
body_text_lies body text from is = subst (λ (n : ℕ). IsTextAt (record_bytes (Text body text)) n text) (sym is) (body_lies body text).0.lies

pub act_text_lies : (number at : ℕ) (a : Act) (from : ℕ) (text : List ℕ) → from ≡ first_from (text_places_of (Operator number at a)) → text_in (Acts a) ≡ Some text → IsTextAt (record_bytes (Operator number at a)) from text
act_text_lies number at a from text is e =
    subst (λ (n : ℕ). IsTextAt (record_bytes (Operator number at a)) n text) (sym is) (first_lies (record_bytes (Operator number at a)) _ (text_in (Acts a)) text (operator_lies number at a) e)

place_found : (bytes : List ℕ) (o : Option TextPlace) (t : Option (List ℕ)) (from : ℕ) (places : List TextPlace) → AllZip (LiesThere bytes) (option_to_list o) (option_to_list t) → from ≡ min (first_from (option_to_list o)) most_of_four → from < most_of_four → places ≡ option_to_list (option_map (placed from) t) → places ≡ option_to_list o
place_found bytes o t from places zip is small e =
    let same : from ≡ first_from (option_to_list o) = omega (arith, is, small) in
    e ∙ ap (λ (n : ℕ). option_to_list (option_map (placed n) t)) same ∙ sym (one_place_is bytes o t zip)

pub item_place_found : (i : Item) (from : ℕ) (places : List TextPlace) → from ≡ min (first_from (text_places_of (Verb i))) most_of_four → from < most_of_four → places ≡ option_to_list (option_map (placed from) (text_in i.deed)) → places ≡ text_places_of (Verb i)
item_place_found i from places is small e = place_found (record_bytes (Verb i)) _ (text_in i.deed) from places (verb_lies i) is small e

pub kept_place_found : (i : Item) (from : ℕ) (places : List TextPlace) → from ≡ min (first_from (text_places_of (Kept i))) most_of_four → from < most_of_four → places ≡ option_to_list (option_map (placed from) (text_in i.deed)) → places ≡ text_places_of (Kept i)
kept_place_found i from places is small e = place_found (record_bytes (Kept i)) _ (text_in i.deed) from places (kept_lies i) is small e

pub body_place_found : (body : Body) (text : List ℕ) (from : ℕ) (places : List TextPlace) → from ≡ first_from (text_places_of (Text body text)) → places ≡ placed from text ∷ [] → places ≡ text_places_of (Text body text)
body_place_found body text from places is e = e ∙ ap (λ (n : ℕ). placed n text ∷ []) is

pub act_place_found : (number at : ℕ) (a : Act) (from : ℕ) (places : List TextPlace) → from ≡ first_from (text_places_of (Operator number at a)) → places ≡ option_to_list (option_map (placed from) (text_in (Acts a))) → places ≡ text_places_of (Operator number at a)
act_place_found number at a from places is e =
    e ∙ ap (λ (n : ℕ). option_to_list (option_map (placed n) (text_in (Acts a)))) is ∙ sym (one_place_is (record_bytes (Operator number at a)) _ (text_in (Acts a)) (operator_lies number at a))

-- ---- what a cycle is asked to do

-- the sums of the code
pub record Counted (ask : CycleAsk) (first second : ℕ) (replaced all : List TextPlace) : Type 0 where
  pub first_is : first ≡ 13 + size_of (name_field ask.key) + 12 + 4 * length ask.drops
  pub replaced_is : replaced ≡ places_along replace_fields replace_place first ask.replaces
  pub second_is : second ≡ first + size_of (flat_map replace_fields ask.replaces) + 4
  pub all_is : all ≡ replaced ++ places_along act_fields act_place second ask.inserts

-- of what each call of the code answered
pub counted : (ask : CycleAsk) (a b n first behind_replaces second : ℕ) (rs : List (ℕ × List ℕ)) (acts : List Act) (none replaced all : List TextPlace) → a ≡ 13 + size_of (name_field ask.key) → b ≡ a + 12 → n ≡ length ask.drops → first ≡ b + 4 * n → rs ≡ ask.replaces → none ≡ [] → behind_replaces ≡ first + size_of (flat_map replace_fields rs) → replaced ≡ none ++ places_along replace_fields replace_place first rs → second ≡ behind_replaces + 4 → acts ≡ ask.inserts → all ≡ replaced ++ places_along act_fields act_place second acts → Counted ask first second replaced all
counted ask a b n first behind_replaces second rs acts none replaced all e1 e2 e3 e4 e5 e6 e7 e8 e9 e10 e11 = record {
  first_is = omega (arith, e1, e2, e3, e4);
  replaced_is = e8 ∙ ap (λ (xs : List TextPlace). xs ++ places_along replace_fields replace_place first rs) e6 ∙ ap (λ (ys : List (ℕ × List ℕ)). places_along replace_fields replace_place first ys) e5;
  second_is = omega (arith, e9, e7, ap (λ (ys : List (ℕ × List ℕ)). size_of (flat_map replace_fields ys)) e5);
  all_is = e11 ∙ ap (λ (ys : List Act). replaced ++ places_along act_fields act_place second ys) e10;
}

front_size : (key : List ℕ) (point : ℕ) (drops : List ℕ) (n : ℕ) → size_of (name_field key & u32_field point & any_list_fields u32_field drops & number_field w32 most_of_four n) ≡ size_of (name_field key) + 12 + 4 * length drops
front_size key point drops n =
    omega (
      arith,
      size_both (name_field key) (u32_field point & any_list_fields u32_field drops & number_field w32 most_of_four n),
      size_both (u32_field point) (any_list_fields u32_field drops & number_field w32 most_of_four n),
      size_both (any_list_fields u32_field drops) (number_field w32 most_of_four n),
      size_both (number_field w32 most_of_four (length drops)) (flat_map u32_field drops),
      size_u32 most_of_four point,
      size_u32 most_of_four (length drops),
      size_u32 most_of_four n,
      size_numbers drops,
    )

fronts_size : (key : List ℕ) (point : ℕ) (drops : List ℕ) (rs : List (ℕ × List ℕ)) (n : ℕ) → size_of (name_field key & u32_field point & any_list_fields u32_field drops & any_list_fields replace_fields rs & number_field w32 most_of_four n) ≡ size_of (name_field key) + 12 + 4 * length drops + size_of (flat_map replace_fields rs) + 4
fronts_size key point drops rs n =
    omega (
      arith,
      size_both (name_field key) (u32_field point & any_list_fields u32_field drops & any_list_fields replace_fields rs & number_field w32 most_of_four n),
      size_both (u32_field point) (any_list_fields u32_field drops & any_list_fields replace_fields rs & number_field w32 most_of_four n),
      size_both (any_list_fields u32_field drops) (any_list_fields replace_fields rs & number_field w32 most_of_four n),
      size_both (number_field w32 most_of_four (length drops)) (flat_map u32_field drops),
      size_both (any_list_fields replace_fields rs) (number_field w32 most_of_four n),
      size_both (number_field w32 most_of_four (length rs)) (flat_map replace_fields rs),
      size_u32 most_of_four point,
      size_u32 most_of_four (length drops),
      size_u32 most_of_four (length rs),
      size_u32 most_of_four n,
      size_numbers drops,
    )

replaced_found : (number at : ℕ) (ask : CycleAsk) (first second : ℕ) (replaced all : List TextPlace) → Counted ask first second replaced all → replaced ≡ replaced_places (before_ask number at) ask
replaced_found number at ask first second replaced all c =
    c.replaced_is ∙ ap (λ (n : ℕ). places_along replace_fields replace_place n ask.replaces) (omega (arith, c.first_is, before_ask_is number at, front_size ask.key ask.point ask.drops (length ask.replaces)))

given_found : (number at : ℕ) (ask : CycleAsk) (first second : ℕ) (replaced all : List TextPlace) → Counted ask first second replaced all → places_along act_fields act_place second ask.inserts ≡ given_places (before_ask number at) ask
given_found number at ask first second replaced all c =
    ap (λ (n : ℕ). places_along act_fields act_place n ask.inserts) (omega (arith, c.first_is, c.second_is, before_ask_is number at, fronts_size ask.key ask.point ask.drops ask.replaces (length ask.inserts)))

pub ask_found : (number at : ℕ) (ask : CycleAsk) (first second : ℕ) (replaced all : List TextPlace) → Counted ask first second replaced all → all ≡ text_places_of (Cycle number at ask)
ask_found number at ask first second replaced all c =
    c.all_is
    ∙ ap (λ (xs : List TextPlace). xs ++ places_along act_fields act_place second ask.inserts) (replaced_found number at ask first second replaced all c)
    ∙ ap (λ (xs : List TextPlace). replaced_places (before_ask number at) ask ++ xs) (given_found number at ask first second replaced all c)

-- as many places as items with a new text
as_many : (n : ℕ) (rs : List (ℕ × List ℕ)) → length (places_along replace_fields replace_place n rs) ≡ length rs
as_many n [] = refl
as_many n (r ∷ rs) = omega (arith, as_many (n + size_of (replace_fields r)) rs)

many : (number at : ℕ) (ask : CycleAsk) → length (replaced_places (before_ask number at) ask) ≡ length ask.replaces
many number at ask = as_many _ ask.replaces

pub ask_replaced : (number at : ℕ) (ask : CycleAsk) (all : List TextPlace) → all ≡ text_places_of (Cycle number at ask) → AllZip (LiesThere (record_bytes (Cycle number at ask))) (take (length ask.replaces) all) (replaced_texts ask)
ask_replaced number at ask all is =
    let front : take (length ask.replaces) all ≡ replaced_places (before_ask number at) ask = ap (λ (xs : List TextPlace). take (length ask.replaces) xs) is ∙ take_at (replaced_places (before_ask number at) ask) (given_places (before_ask number at) ask) (length ask.replaces) (many number at ask) in
    subst (λ (xs : List TextPlace). AllZip (LiesThere (record_bytes (Cycle number at ask))) xs (replaced_texts ask)) (sym front) (replaced_lie number at ask)

pub ask_given : (number at : ℕ) (ask : CycleAsk) (all : List TextPlace) → all ≡ text_places_of (Cycle number at ask) → AllZip (LiesThere (record_bytes (Cycle number at ask))) (drop (length ask.replaces) all) (given_texts ask)
ask_given number at ask all is =
    let back : drop (length ask.replaces) all ≡ given_places (before_ask number at) ask = ap (λ (xs : List TextPlace). drop (length ask.replaces) xs) is ∙ drop_at (replaced_places (before_ask number at) ask) (given_places (before_ask number at) ask) (length ask.replaces) (many number at ask) in
    subst (λ (xs : List TextPlace). AllZip (LiesThere (record_bytes (Cycle number at ask))) xs (given_texts ask)) (sym back) (given_lie number at ask)
