-- A maildrop: the messages of INBOX as they lay when its user logged in, by rising UID, and which of them are marked as deleted (RFC 1939, 4 and 5).
use Rattle.std.specs.Prelude.{ℕ, ◌-◌, Bool, true, false, not, List, [], ◌++◌, codes, map, filter, flat_map, count_by, sum_by, slice_get, slice_set, unwrap_or, Option, None, Some, if◌then◌else◌}
use Rattle.std.specs.List.{enumerate_from}
use Rattle.undo_base.specs.declared.keys.Key.{Key}
use Rattle.undo_base.specs.declared.keys.User.{User}
use Rattle.verb_core.specs.declared.mailbox.Body.{Body}
use Rattle.verb_core.specs.declared.mailbox.BoxId.{BoxId}
use Rattle.verb_core.specs.declared.mailbox.Entry.{Entry}
use Rattle.verb_core.specs.Boxes.{box_of, row_at}
use Rattle.verb_core.specs.Live.{mail_of}
use Rattle.verb_core.specs.Names.{inbox}
use Rattle.verb_core.specs.Store.{MailStore}
use Rattle.pop_session.specs.declared.answer.Answer.{Answer}
use Rattle.pop_session.specs.declared.answer.Answer.TheVariants.{Messages, Size, Unique}
use Rattle.pop_session.specs.declared.maildrop.Maildrop.{Maildrop}
use Rattle.pop_session.specs.declared.maildrop.Message.{Message}
use Rattle.pop_session.specs.declared.maildrop.Detail.{Detail}
use Rattle.pop_session.specs.declared.maildrop.Detail.TheVariants.{Octets, UniqueId}
use Rattle.pop_session.specs.Answer.{answer_text, said, size_text, unique_text}

-- a message, with the length of its stored text
abbrev pub message_of : (Body → Option ℕ) → Entry → Message
message_of sizes e = record { uid = e.uid; key = e.key; size = unwrap_or (sizes e.body) 0; marked = false }

abbrev pub messages_of : (Body → Option ℕ) → List Entry → List Message
messages_of sizes entries = map (message_of sizes) entries

-- INBOX's stamp
abbrev pub stamp_of : List (BoxId × ℕ) → User → ℕ
stamp_of stamps u = unwrap_or (row_at (box_of u inbox) stamps) 0

-- the maildrop of a user
abbrev pub maildrop_of : MailStore → List (BoxId × ℕ) → (Body → Option ℕ) → User → Maildrop
maildrop_of s stamps sizes u = record { stamp = stamp_of stamps u; messages = messages_of sizes (mail_of s (Some u) inbox) }

-- the keys of messages
abbrev pub keys_of : List Message → List Key
keys_of messages = map (λ (m : Message). m.key) messages

abbrev pub is_kept : Message → Bool
is_kept m = not m.marked

abbrev pub only_kept : Option Message → Option Message
only_kept None = None
only_kept (Some m) = if m.marked then None else Some m

-- the message of a number, from 1, unless it is marked
abbrev pub message_at : List Message → ℕ → Option Message
message_at messages number = only_kept (slice_get messages (number - 1))

-- how many are not marked, and the octets of these
abbrev pub count : List Message → ℕ
count messages = count_by is_kept messages

abbrev pub octets_of : Message → ℕ
octets_of m = if m.marked then 0 else m.size

abbrev pub octets : List Message → ℕ
octets messages = sum_by octets_of messages

-- the keys of the marked messages, in order
abbrev pub marked_keys : List Message → List Key
marked_keys messages = keys_of (filter (λ m. m.marked) messages)

-- with the message of a number marked (RFC 1939, 5: DELE)
abbrev pub with_mark : List Message → ℕ → Message → List Message
with_mark messages number m = slice_set messages (number - 1) (record m { marked = true })

-- with no marks (RFC 1939, 5: RSET)
abbrev pub without_marks : List Message → List Message
without_marks messages = map (λ (m : Message). record m { marked = false }) messages

-- what LIST or UIDL tells of a message
abbrev pub detail_text : Detail → ℕ → ℕ → Message → List ℕ
detail_text Octets stamp number m = size_text number m.size
detail_text UniqueId stamp number m = unique_text number stamp m.uid

abbrev pub detail_answer : Detail → ℕ → ℕ → Message → Answer
detail_answer Octets stamp number m = Size number m.size
detail_answer UniqueId stamp number m = Unique number stamp m.uid

-- a line for a message that is not marked, by its number from 1
abbrev pub detail_line : Detail → ℕ → ℕ × Message → List ℕ
detail_line detail stamp (number, m) = if m.marked then [] else said (detail_text detail stamp number m)

-- the drop listing: how many are not marked, a line for each of these, and a dot (RFC 1939, 5: LIST, and 7: UIDL)
abbrev pub listing : Detail → Maildrop → List ℕ
listing detail drop =
    answer_text (Messages (count drop.messages))
    ++ (flat_map (detail_line detail drop.stamp) (enumerate_from 1 drop.messages) ++ said (codes "."))
