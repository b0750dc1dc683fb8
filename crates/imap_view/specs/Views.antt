-- The view of a session: the messages of its mailbox that it knows, by rising UID, and how it is told of changes.
use Rattle.std.specs.Prelude.{ℕ, ◌+◌, ◌<◌, ◌≤◌, Bool, true, not, ◌&&◌, ◌==◌, nat_lt, List, [], ◌∷◌, ◌++◌, codes, decimal, map, filter, find, get_or, length, count_by, position, Option, option_map, if◌then◌else◌}
use Rattle.std.specs.List.{list_any, enumerate_from}
use Rattle.std.specs.Cmp.Lexicographic.{pointwise}
use Rattle.undo_base.specs.LineEnd.{crlf}
use Rattle.imap_text.specs.declared.facts.BoxFacts.{BoxFacts}
use Rattle.imap_text.specs.Answers.{expunge_lines}
use Rattle.verb_core.specs.declared.mailbox.Entry.{Entry}
use Rattle.verb_core.specs.Mailboxes.{same_key}
use Rattle.imap_view.specs.declared.messages.Known.{Known}

-- the entry is the message
abbrev pub is_message : Known → Entry → Bool
is_message known e = known.uid == e.uid && same_key known.key e.key

abbrev pub known_of : Entry → Known
known_of e = record { uid = e.uid; key = e.key }

-- a view of all that lies in a mailbox
abbrev pub view_of : List Entry → List Known
view_of entries = map known_of entries

abbrev pub uids_of : List Known → List ℕ
uids_of view = map (λ known. known.uid) view

-- the numbers strictly rise, from above one on
abbrev pub rises_above : ℕ → List ℕ → Bool
rises_above low [] = true
rises_above low (n ∷ ns) = nat_lt low n && rises_above n ns

-- the UIDs of what lies in a mailbox rise
abbrev pub is_by_uid : List Entry → Bool
is_by_uid entries = rises_above 0 (map (λ e. e.uid) entries)

-- the UIDs of a view rise
abbrev pub is_in_order : List Known → Bool
is_in_order view = rises_above 0 (uids_of view)

-- the entry of a message, where it is still there
abbrev pub entry_of : List Entry → Known → Option Entry
entry_of entries known = find (is_message known) entries

-- the message is no longer there
abbrev pub is_lost : List Entry → Known → Bool
is_lost entries known = not (list_any (is_message known) entries)

-- the numbers, from 1, of the messages that are no longer there
abbrev pub lost_in : List Entry → List Known → List ℕ
lost_in entries view = map (λ (k : ℕ × Known). k.0) (filter (λ k. is_lost entries k.1) (enumerate_from 1 view))

-- the view lacks the message
abbrev pub is_new : List Known → Entry → Bool
is_new view e = not (list_any (λ known. is_message known e) view)

-- the mailbox has a message that the view lacks
abbrev pub has_more : List Entry → List Known → Bool
has_more entries view = list_any (is_new view) entries

-- the view is of exactly what lies in the mailbox
abbrev pub is_current : List Entry → List Known → Bool
is_current entries view = pointwise is_message view entries

-- how many messages there are (RFC 3501, 7.3.1)
abbrev pub exists_text : ℕ → List ℕ
exists_text count = (codes "* " ++ decimal count ++ codes " EXISTS") ++ crlf

-- what a view is told of its mailbox: messages that went, and then how many there are where some came (RFC 3501, 7.4.1 and 7.3.1)
abbrev pub news : List Entry → List Known → List ℕ
news entries view = expunge_lines (lost_in entries view) ++ (if has_more entries view then exists_text (length entries) else [])

abbrev pub is_unseen : Entry → Bool
is_unseen e = not e.flags.seen

-- what a mailbox tells of itself: its entries, its next UID and its stamp (RFC 3501, 6.3.1)
abbrev pub facts_of : List Entry → ℕ → ℕ → BoxFacts
facts_of entries next stamp = record {
  messages = length entries;
  next = next;
  stamp = stamp;
  unseen = count_by is_unseen entries;
  first_unseen = option_map (λ place. place + 1) (position is_unseen entries);
}

-- ---- where a walk along things whose numbers rise stands

-- the numbers before a place are below one
abbrev pub AreBelow : {X : Type 0} → (X → ℕ) → List X → ℕ → ℕ → Type 0
AreBelow {X} u xs n at = (j : ℕ) → (d : X) → j < at → u (get_or xs j d) < n

-- the number at a place is not below one, if there is such a place
abbrev pub IsReached : {X : Type 0} → (X → ℕ) → List X → ℕ → ℕ → Type 0
IsReached {X} u xs n at = (d : X) → at < length xs → n ≤ u (get_or xs at d)
