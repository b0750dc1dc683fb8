-- Keys that hold no other key (RFC 3501, 6.4.4 and 9: search-key).
use Rattle.std.specs.Prelude.{codes, ℕ, ℤ, Bool, true, false, List, map, Option, None, Some, option_map, option_and_then, if◌then◌else◌}
use Rattle.imap_stream.specs.declared.picks.SetRange.{SetRange}
use Rattle.imap_tokens.specs.Sets.{set_in}
use Rattle.imap_tokens.specs.declared.tokens.Token.{Token}
use Rattle.search_verb.specs.declared.keys.SearchRange.{SearchRange}
use Rattle.search_verb.specs.Asked.{Asked, Every, Never, Answered, Deleted, Draft, Flagged, Seen, Places, Uids, Before, On, Since, Larger, Smaller, Field, Body, Text, Not}
use Rattle.imap_tokens.specs.Arguments.{next_string, next_word}
use Rattle.search_lines.specs.Strings.{behind_atom, next_day, next_count}
use Rattle.search_lines.specs.declared.words.Sign.{Sign}
use Rattle.search_lines.specs.declared.words.Sign.TheVariants as sign
use Rattle.search_lines.specs.declared.words.Place.{Place}
use Rattle.search_lines.specs.declared.words.Place.TheVariants as place
use Rattle.search_lines.specs.declared.words.When.{When}
use Rattle.search_lines.specs.declared.words.When.TheVariants as when
use Rattle.search_lines.specs.declared.words.KeyWord.{KeyWord}
use Rattle.search_lines.specs.declared.words.KeyWord.TheVariants as word

-- what a key asks, and what follows it
abbrev pub Found : Type 0
Found = Option (Asked × List Token)

abbrev pub sign_key : Sign → Asked
sign_key sign.All = Every
sign_key sign.Answered = Answered
sign_key sign.Deleted = Deleted
sign_key sign.Draft = Draft
sign_key sign.Flagged = Flagged
sign_key sign.Seen = Seen
sign_key sign.Never = Never

abbrev pub unsign_key : Sign → Asked
unsign_key s = Not (sign_key s)

abbrev pub field_key : List ℕ → List ℕ → Asked
field_key name bytes = Field name bytes

-- a string in a field, in what follows the header, or anywhere
abbrev pub place_key : Place → List ℕ → Asked
place_key place.From bytes = Field (codes "FROM") bytes
place_key place.To bytes = Field (codes "TO") bytes
place_key place.Cc bytes = Field (codes "CC") bytes
place_key place.Bcc bytes = Field (codes "BCC") bytes
place_key place.Subject bytes = Field (codes "SUBJECT") bytes
place_key place.Body bytes = Body bytes
place_key place.Text bytes = Text bytes

abbrev pub when_key : When → ℤ → Asked
when_key when.Before day = Before day
when_key when.On day = On day
when_key when.Since day = Since day

abbrev pub size_key : Bool → ℕ → Asked
size_key larger size = if larger then Larger size else Smaller size

-- no message has a keyword
abbrev pub known_key : Bool → Asked
known_key every = if every then Every else Never

-- the same range
abbrev pub range_of : SetRange → SearchRange
range_of r = record { from = r.from; to = r.to }

abbrev pub places_in : List ℕ → Option Asked
places_in word = option_map (λ set. Places (map range_of set)) (set_in word)

abbrev pub uids_of : List ℕ → Option Asked
uids_of word = option_map (λ set. Uids (map range_of set)) (set_in word)

-- the arguments of keys, and what follows them
abbrev pub place_in : Place → List Token → Found
place_in p tokens = option_map (λ r. (place_key p r.0, r.1)) (next_string tokens)

abbrev pub when_in : When → List Token → Found
when_in w tokens = option_map (λ r. (when_key w r.0, r.1)) (next_day tokens)

abbrev pub size_in : Bool → List Token → Found
size_in larger tokens = option_map (λ r. (size_key larger r.0, r.1)) (next_count tokens)

abbrev pub header_in : List Token → Found
header_in tokens = option_and_then (λ name. option_map (λ r. (field_key name.0 r.0, r.1)) (next_string name.1)) (next_string tokens)

abbrev pub keyword_in : Bool → List Token → Found
keyword_in every tokens = option_map (λ rest. (known_key every, rest)) (behind_atom tokens)

abbrev pub uids_in : List Token → Found
uids_in tokens = option_and_then (λ r. option_map (λ key. (key, r.1)) (uids_of r.0)) (next_word tokens)

-- what a key's word asks with what stands behind it; none where the key holds others
abbrev pub leaf_in : KeyWord → List Token → Found
leaf_in (word.Is s) tokens = Some (sign_key s, tokens)
leaf_in (word.IsNot s) tokens = Some (unsign_key s, tokens)
leaf_in (word.In p) tokens = place_in p tokens
leaf_in (word.Came w) tokens = when_in w tokens
leaf_in word.Larger tokens = size_in true tokens
leaf_in word.Smaller tokens = size_in false tokens
leaf_in word.Header tokens = header_in tokens
leaf_in word.Keyword tokens = keyword_in false tokens
leaf_in word.Unkeyword tokens = keyword_in true tokens
leaf_in word.Uid tokens = uids_in tokens
leaf_in word.Not tokens = None
leaf_in word.Or tokens = None
