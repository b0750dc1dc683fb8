-- Where the texts of a record lie in its bytes: behind the fields that stand before each, and the four bytes of its length.
use Rattle.std.specs.Prelude.{◌≡◌, ℕ, ◌+◌, ◌≤◌, List, [], ◌∷◌, ◌++◌, length, map, slice_range, Option, Some, None}
use Rattle.std.specs.List.{filter_map}
use Rattle.std.specs.Int.{w32}
use Rattle.std.specs.Option.{option_to_list}
use Rattle.undo_base.specs.declared.keys.User.{User}
use Rattle.undo_base.specs.declared.limits.TheConstants.{MOST_RECIPIENTS}
use Rattle.verb_core.specs.declared.item.Act.{Act}
use Rattle.verb_core.specs.declared.item.Act.TheVariants.{Give}
use Rattle.verb_core.specs.declared.mailbox.Body.{Body}
use Rattle.verb_core.specs.declared.item.Deed.{Deed}
use Rattle.verb_core.specs.declared.item.Deed.TheVariants.{Deliver, Append, Act as Acts, Notice}
use Rattle.verb_core.specs.Items.{text_in}
use Rattle.verb_bytes.specs.declared.journal.CycleAsk.{CycleAsk}
use Rattle.verb_bytes.specs.declared.journal.JournalRecord.{JournalRecord}
use Rattle.verb_bytes.specs.declared.journal.JournalRecord.TheVariants.{Verb, Operator, Cycle, Text, Kept}
use Rattle.verb_bytes.specs.declared.kinds.TheConstants.{LAST_DEED, LAST_KEPT_DEED}
use Rattle.verb_bytes.specs.declared.places.TextPlace.{TextPlace}
use Rattle.verb_bytes.specs.Fields.{Field, bytes_of, ◌&◌, number_field, name_field, list_fields, flags_field, u32_field, moment_field, any_text_field, user_field, actor_field, any_list_fields, most_of_four, record_kind, act_kind, deed_kind_to}
use Rattle.verb_bytes.specs.Spelling.{act_fields, replace_fields}

-- how many bytes fields take
unfoldable pub size_of : List Field → ℕ
size_of fields = length (bytes_of fields)

-- ---- one text

-- a text behind so many bytes
abbrev pub placed : ℕ → List ℕ → TextPlace
placed n text = record { from = n; length = length text }

-- a text whose field begins behind so many bytes
abbrev pub behind : ℕ → List ℕ → TextPlace
behind n text = placed (n + 4) text

-- Give has a text
abbrev pub act_place : ℕ → Act → Option TextPlace
act_place n (Give u mailbox text) = Some (behind (n + size_of (act_kind 6 & user_field u & name_field mailbox)) text)
act_place n _ = None

-- a delivery, an APPEND, a Give and a notice have a text; kinds of deeds go up to the last
abbrev pub deed_place : ℕ → ℕ → Deed → Option TextPlace
deed_place last n (Deliver from to text) = Some (behind (n + size_of (deed_kind_to last 1 & any_text_field from & list_fields MOST_RECIPIENTS name_field to)) text)
deed_place last n (Append mailbox given at text) = Some (behind (n + size_of (deed_kind_to last 2 & name_field mailbox & flags_field given & moment_field at)) text)
deed_place last n (Acts a) = act_place (n + size_of (deed_kind_to last 14)) a
deed_place last n (Notice u text) = Some (behind (n + size_of (deed_kind_to last 15 & user_field u)) text)
deed_place last n _ = None

-- an item's number, and its new text
abbrev pub replace_place : ℕ → ℕ × List ℕ → Option TextPlace
replace_place n r = Some (behind (n + size_of (u32_field r.0)) r.1)

-- ---- the texts of a list

-- those of the elements, the first of which begins behind so many bytes
abbrev pub places_along : {A : Type 0} → (A → List Field) → (ℕ → A → Option TextPlace) → ℕ → List A → List TextPlace
places_along fields place n [] = []
places_along fields place n (x ∷ xs) = option_to_list (place n x) ++ places_along fields place (n + size_of (fields x)) xs

-- the new texts of a cycle, the first in its list
abbrev pub replaced_places : ℕ → CycleAsk → List TextPlace
replaced_places n ask = places_along replace_fields replace_place (n + size_of (name_field ask.key & u32_field ask.point & any_list_fields u32_field ask.drops & number_field w32 most_of_four (length ask.replaces))) ask.replaces

-- those that its acts give
abbrev pub given_places : ℕ → CycleAsk → List TextPlace
given_places n ask = places_along act_fields act_place (n + size_of (name_field ask.key & u32_field ask.point & any_list_fields u32_field ask.drops & any_list_fields replace_fields ask.replaces & number_field w32 most_of_four (length ask.inserts))) ask.inserts

-- ---- the texts of a record

-- the bytes before the deed of an item, before an operator's act, before what a cycle is asked to do, and before the text of
-- a body
abbrev pub before_deed : ℕ → ℕ → Option User → ℕ
before_deed number at by = size_of (record_kind 1 & u32_field number & moment_field at & actor_field by)

abbrev pub before_kept_deed : ℕ → ℕ → Option User → ℕ → ℕ
before_kept_deed number at by rev = size_of (record_kind 10 & u32_field number & moment_field at & actor_field by & u32_field rev)

abbrev pub before_act : ℕ → ℕ → ℕ
before_act number at = size_of (record_kind 2 & u32_field number & moment_field at)

abbrev pub before_ask : ℕ → ℕ → ℕ
before_ask number at = size_of (record_kind 3 & u32_field number & moment_field at)

abbrev pub before_text : Body → ℕ
before_text body = size_of (record_kind 9 & u32_field body.origin & u32_field body.rev)

-- where the texts lie in the bytes of the record, in order
abbrev pub text_places_of : JournalRecord → List TextPlace
text_places_of (Verb i) = option_to_list (deed_place LAST_DEED (before_deed i.number i.at i.by) i.deed)
text_places_of (Operator number at a) = option_to_list (act_place (before_act number at) a)
text_places_of (Cycle number at ask) = replaced_places (before_ask number at) ask ++ given_places (before_ask number at) ask
text_places_of (Text body text) = behind (before_text body) text ∷ []
text_places_of (Kept i) = option_to_list (deed_place LAST_KEPT_DEED (before_kept_deed i.number i.at i.by i.rev) i.deed)
text_places_of _ = []

-- the texts of messages that are recorded, in order: a delivery's, an APPEND's, a Give's and a kept notice's, those of a
-- cycle's replaced items, and that of a body
abbrev pub replaced_texts : CycleAsk → List (List ℕ)
replaced_texts ask = map (λ (r : ℕ × List ℕ). r.1) ask.replaces

abbrev pub given_texts : CycleAsk → List (List ℕ)
given_texts ask = filter_map (λ (a : Act). text_in (Acts a)) ask.inserts

abbrev pub texts_in : JournalRecord → List (List ℕ)
texts_in (Verb i) = option_to_list (text_in i.deed)
texts_in (Operator number at a) = option_to_list (text_in (Acts a))
texts_in (Cycle number at ask) = replaced_texts ask ++ given_texts ask
texts_in (Text body text) = text ∷ []
texts_in (Kept i) = option_to_list (text_in i.deed)
texts_in _ = []

-- how many bytes lie before the first of them, or 0
abbrev pub first_from : List TextPlace → ℕ
first_from [] = 0
first_from (place ∷ places) = place.from

-- ---- what lies at a place

-- the bytes from here on are this text
pub record IsTextAt (bytes : List ℕ) (from : ℕ) (text : List ℕ) : Type 0 where
  pub within : from + length text ≤ length bytes
  pub is : slice_range bytes from (from + length text) ≡ text

-- a text, and the place where it lies
pub record LiesThere (bytes : List ℕ) (place : TextPlace) (text : List ℕ) : Type 0 where
  pub length_is : place.length ≡ length text
  pub lies : IsTextAt bytes place.from text
