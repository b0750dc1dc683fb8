-- What a SEARCH finds in a view, and what it asks of the store (RFC 3501, 6.4.4).
use Rattle.std.specs.Prelude.{ℕ, ◌+◌, ◌-◌, ◌||◌, Bool, true, false, not, codes, nat_lt, List, [], ◌∷◌, ◌++◌, map, flat_map, length, get_or, slice_get, min, Option, None, Some, if◌then◌else◌}
use Rattle.std.specs.Fmt.{decimal}
use Rattle.std.specs.List.{range_with_len, sum_by}
use Rattle.std.specs.Option.{option_map_or}
use Rattle.undo_base.specs.declared.keys.Key.{Key}
use Rattle.imap_fetch.specs.declared.messages.Message.{Message}
use Rattle.imap_session.specs.Words.{said}
use Rattle.imap_session.specs.declared.dialog.Searching.{Searching}
use Rattle.imap_tokens.specs.Words.{is_word}
use Rattle.imap_view.specs.declared.messages.Known.{Known}
use Rattle.search_verb.specs.Meets.{Facts, meets, needed}
use Rattle.search_verb.specs.declared.candidate.Look.{Look}
use Rattle.search_verb.specs.declared.candidate.Look.TheVariants as look
use Rattle.imap_view.specs.Named.{message_at, untold}
use Rattle.verb_core.specs.declared.ask.Ask.{Ask}
use Rattle.verb_core.specs.declared.ask.Ask.TheVariants as ask
use Rattle.verb_core.specs.declared.mailbox.Body.{Body}
use Rattle.verb_core.specs.declared.mailbox.Entry.{Entry}

-- US-ASCII or UTF-8, in any case; without a charset strings are US-ASCII
abbrev pub is_known_charset : Option (List ℕ) → Bool
is_known_charset None = true
is_known_charset (Some name) = is_word (codes "US-ASCII") name || is_word (codes "UTF-8") name

-- all places of a view
abbrev pub all_places : List Known → List ℕ
all_places view = range_with_len 0 (length view)

-- the greatest UID of a view: that of its last message
abbrev pub last_uid : List Known → ℕ
last_uid view = option_map_or (λ (known : Known). known.uid) (slice_get view (length view - 1)) 0

-- whether a key needs texts, and whether it looks at texts or at sizes
abbrev pub is_of_texts : Look → Bool
is_of_texts look.Nothing = false
is_of_texts look.Size = false
is_of_texts look.Text = true

abbrev pub is_of_more : Look → Bool
is_of_more look.Nothing = false
is_of_more look.Size = true
is_of_more look.Text = true

-- the octets of messages, or the last number of 64 bits where they are more
unfoldable pub total_size : List Message → ℕ
total_size rows = min (sum_by (λ (m : Message). m.size) rows) 18446744073709551615

-- how many octets of texts it looks at: those of all messages of the view that are there, where it needs texts
abbrev pub octets_of : Searching → ℕ
octets_of q = if is_of_texts (needed q.key) then total_size q.rows else 0

-- the store is to refuse it, since it looks at too much
abbrev pub is_too_large : Searching → Bool
is_too_large q = nat_lt 268435456 (octets_of q)

-- what is known of a message of the view
abbrev pub facts_of : Searching → Message → List ℕ → Facts
facts_of q m text = record {
  place = m.place;
  uid = m.entry.uid;
  last_place = q.last_place;
  last_uid = q.last_uid;
  answered = m.entry.flags.answered;
  flagged = m.entry.flags.flagged;
  deleted = m.entry.flags.deleted;
  seen = m.entry.flags.seen;
  draft = m.entry.flags.draft;
  at = m.entry.at;
  size = m.size;
  text = text;
}

-- whether a message matches, which has the text at a place; where none is needed there are none
abbrev pub finds : Searching → List (List ℕ) → ℕ → Message → Bool
finds q texts place m = meets q.key (facts_of q m (get_or texts place []))

-- the message, where it matches
abbrev pub kept : Searching → List (List ℕ) → ℕ → Message → List Message
kept q texts place m = if finds q texts place m then m ∷ [] else []

-- the messages that match, from a place of the texts on
unfoldable pub found_from : Searching → List (List ℕ) → ℕ → List Message → List Message
found_from q texts place [] = []
found_from q texts place (m ∷ rows) = kept q texts place m ++ found_from q texts (place + 1) rows

-- the messages that match, in order; none where the store is to refuse it
abbrev pub found : Searching → List (List ℕ) → List Message
found q texts = if is_too_large q then [] else found_from q texts 0 q.rows

-- the sizes that are told: none where only flags, numbers and days are looked at
abbrev pub told : Look → (Body → Option ℕ) → Body → Option ℕ
told looks sizes = if is_of_more looks then sizes else untold

-- the message at a place of a view, where it matches what is told without its text
abbrev pub bare_kept : (Body → Option ℕ) → Searching → List Entry → List Known → ℕ → List Message
bare_kept sizes q entries view place = option_map_or (λ (m : Message). kept q [] 0 m) (message_at sizes entries view place) []

-- those of all places
abbrev pub bare_found : (Body → Option ℕ) → Searching → List Entry → List Known → List Message
bare_found sizes q entries view = flat_map (bare_kept sizes q entries view) (all_places view)

abbrev pub keys_of : List Message → List Key
keys_of rows = map (λ (m : Message). m.entry.key) rows

abbrev pub number_of : Bool → Message → ℕ
number_of by_uid m = if by_uid then m.entry.uid else m.place

-- the places or the UIDs that are told
abbrev pub numbers_of : Bool → List Message → List ℕ
numbers_of by_uid rows = map (number_of by_uid) rows

-- it is recorded as a FETCH of these keys
abbrev pub ask_of : Searching → List Key → Ask
ask_of q keys = ask.Fetch q.mailbox keys false (is_of_more (needed q.key)) false (octets_of q)

-- of those of the messages that it found
abbrev pub search_ask : Searching → List (List ℕ) → Ask
search_ask q texts = ask_of q (keys_of (found q texts))

-- the same of messages, however they were found
abbrev pub ask_for : Searching → List Message → Ask
ask_for q rows = ask_of q (keys_of rows)

-- the bodies whose texts it needs: those of all messages of the view that are there
abbrev pub search_bodies : Searching → List Body
search_bodies q = if not (is_of_texts (needed q.key)) || is_too_large q then [] else map (λ (m : Message). m.entry.body) q.rows

-- the answer (RFC 3501, 7.2.5)
abbrev pub search_line : List ℕ → List ℕ
search_line numbers = said (codes "* SEARCH" ++ flat_map (λ n. 32 ∷ decimal n) numbers)
