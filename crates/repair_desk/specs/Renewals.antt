-- Which mailboxes keep their stamp, the UIDVALIDITY, over a cycle (RFC 3501, section 2.3.1.1).
use Rattle.std.specs.Prelude.{◌≡◌, ℕ, Bool, false, true, ◌&&◌, ◌||◌, ◌==◌, nat_le, if◌then◌else◌, List, map, Option, Some, None, unwrap_or}
use Rattle.std.specs.List.{list_all, list_any}
use Rattle.verb_core.specs.declared.mailbox.BoxId.{BoxId}
use Rattle.verb_core.specs.declared.mailbox.Entry.{Entry}
use Rattle.verb_core.specs.declared.mailbox.Mailbox.{Mailbox}
use Rattle.verb_core.specs.Boxes.{row_at}
use Rattle.verb_core.specs.Deeds.{same_body}
use Rattle.verb_core.specs.Mailboxes.{same_key, uids_rise}

-- whether a UID names the same message with the same text
abbrev pub same_mail : Entry → Entry → Bool
same_mail a b = a.uid == b.uid && same_key a.key b.key && same_body a.body b.body

-- whether an entry below the old next UID is an old one
abbrev pub is_old : Mailbox → Entry → Bool
is_old old e = nat_le old.next e.uid || list_any (same_mail e) old.entries

-- whether a mailbox is extended by another: the next UID has not fallen, and below it stand old entries alone
abbrev pub extends : Mailbox → Mailbox → Bool
extends old new = nat_le old.next new.next && list_all (is_old old) new.entries

-- whether there was a mailbox, and it is extended
abbrev pub extends_one : Option Mailbox → Mailbox → Bool
extends_one None new = false
extends_one (Some old) new = extends old new

-- the stamp of a row after the cycle c: the one that it had, where its mailbox is extended, and else c
abbrev pub stamp_after : List (BoxId × Mailbox) → List (BoxId × ℕ) → ℕ → BoxId × Mailbox → ℕ
stamp_after before stamps c r = if extends_one (row_at r.0 before) r.1 then unwrap_or (row_at r.0 stamps) c else c

-- the stamps of the mailboxes after a cycle
abbrev pub renewed : List (BoxId × Mailbox) → List (BoxId × Mailbox) → List (BoxId × ℕ) → ℕ → List (BoxId × ℕ)
renewed before after stamps c = map (λ (r : BoxId × Mailbox). (r.0, stamp_after before stamps c r)) after

-- UIDs that rise
abbrev pub UidsRise : List Entry → Type 0
UidsRise es = (low : ℕ) × ((next : ℕ) × (uids_rise low es next ≡ true))
