-- Which messages a search key matches, and what of a message has to be looked at (RFC 3501, 6.4.4).
use Rattle.std.specs.Prelude.{ℕ, ◌/◌, Bool, true, false, not, ◌&&◌, ◌||◌, List, min, max, nat_lt, nat_le, ℤ, pos, int_lt, int_le, unwrap_or}
use Rattle.std.specs.Ordering.{int_eq}
use Rattle.std.specs.List.{list_any}
use Rattle.search_verb.specs.declared.keys.SearchRange.{SearchRange}
use Rattle.search_verb.specs.declared.keys.SearchKey.{SearchKey}
use Rattle.search_verb.specs.declared.candidate.Candidate.{Candidate}
use Rattle.search_verb.specs.declared.candidate.Look.{Look}
use Rattle.search_verb.specs.declared.candidate.Look.TheVariants as look
use Rattle.search_verb.specs.Asked.{Asked, Every, Never, Answered, Deleted, Draft, Flagged, Seen, Places, Uids, Before, On, Since, Larger, Smaller, Field, Body, Text, Not, Or, And, asked_by}
use Rattle.header_fields.specs.Fields.{fields_of}
use Rattle.header_fields.specs.Header.{behind_header}
use Rattle.header_fields.specs.Values.{is_named, value_of}
use Rattle.search_verb.specs.Occurs.{occurs_in}

-- whether a number stands in a range, either way, where * is the last number of the view
abbrev pub is_within : (last number : ℕ) → SearchRange → Bool
is_within last number range =
    let from = unwrap_or range.from last in
    let to = unwrap_or range.to last in
    nat_le (min from to) number && nat_le number (max from to)

-- whether a number stands in a set
abbrev pub is_among : (last number : ℕ) → List SearchRange → Bool
is_among last number ranges = list_any (is_within last number) ranges

-- the day of a moment in UTC, from 1 January 1970
abbrev pub day_of : ℕ → ℤ
day_of at = pos (at / 86400)

-- whether a string occurs in the value of a field of this name
abbrev pub has_field : (name string text : List ℕ) → Bool
has_field name string text = list_any (λ field. is_named name field && occurs_in string (value_of field)) (fields_of text)

-- what is known of a message of a view: its place and UID with the last of the view, its flags, its moment in seconds from 1970, its size and its text
pub record Facts : Type 0 where
  pub place : ℕ
  pub uid : ℕ
  pub last_place : ℕ
  pub last_uid : ℕ
  pub answered : Bool
  pub flagged : Bool
  pub deleted : Bool
  pub seen : Bool
  pub draft : Bool
  pub at : ℕ
  pub size : ℕ
  pub text : List ℕ

abbrev pub facts_of : Candidate → Facts
facts_of what = record {
  place = what.place;
  uid = what.uid;
  last_place = what.last_place;
  last_uid = what.last_uid;
  answered = what.answered;
  flagged = what.flagged;
  deleted = what.deleted;
  seen = what.seen;
  draft = what.draft;
  at = what.at;
  size = what.size;
  text = what.text.now;
}

-- whether a message meets what is asked
abbrev pub meets : Asked → Facts → Bool
meets Every what = true
meets Never what = false
meets Answered what = what.answered
meets Deleted what = what.deleted
meets Draft what = what.draft
meets Flagged what = what.flagged
meets Seen what = what.seen
meets (Places ranges) what = is_among what.last_place what.place ranges
meets (Uids ranges) what = is_among what.last_uid what.uid ranges
meets (Before day) what = int_lt (day_of what.at) day
meets (On day) what = int_eq (day_of what.at) day
meets (Since day) what = int_le day (day_of what.at)
meets (Larger size) what = nat_lt size what.size
meets (Smaller size) what = nat_lt what.size size
meets (Field name string) what = has_field name string what.text
meets (Body string) what = occurs_in string (behind_header what.text)
meets (Text string) what = occurs_in string what.text
meets (Not asked) what = not (meets asked what)
meets (Or first second) what = meets first what || meets second what
meets (And first rest) what = meets first what && meets rest what

-- whether a message matches a key
abbrev pub does_match : SearchKey → Candidate → Bool
does_match key what = meets (asked_by key) (facts_of what)

-- the greater of two: nothing, then the size, then the text
abbrev pub greater : Look → Look → Look
greater look.Nothing other = other
greater look.Size look.Nothing = look.Size
greater look.Size look.Size = look.Size
greater look.Size look.Text = look.Text
greater look.Text other = look.Text

-- what of a message has to be looked at: its text for a string, its size for a size
abbrev pub needed : Asked → Look
needed Every = look.Nothing
needed Never = look.Nothing
needed Answered = look.Nothing
needed Deleted = look.Nothing
needed Draft = look.Nothing
needed Flagged = look.Nothing
needed Seen = look.Nothing
needed (Places ranges) = look.Nothing
needed (Uids ranges) = look.Nothing
needed (Before day) = look.Nothing
needed (On day) = look.Nothing
needed (Since day) = look.Nothing
needed (Larger size) = look.Size
needed (Smaller size) = look.Size
needed (Field name string) = look.Text
needed (Body string) = look.Text
needed (Text string) = look.Text
needed (Not asked) = needed asked
needed (Or first second) = greater (needed first) (needed second)
needed (And first rest) = greater (needed first) (needed rest)

-- what of a message a key looks at
abbrev pub looked_at : SearchKey → Look
looked_at key = needed (asked_by key)
