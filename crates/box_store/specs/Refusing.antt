-- The refusals of what is asked, by the mailboxes as they are now.
use Rattle.std.specs.Prelude.{◌≡◌, ℕ, ◌+◌, Bool, true, false, not, ◌&&◌, ◌==◌, nat_lt, if◌then◌else◌, List, [], ◌∷◌, length, filter, count_by, Option, Some, option_map, Result, Err, bytes_eq}
use Rattle.std.specs.List.{list_any}
use Rattle.std.specs.Ordering.{eq_by_cmp}
use Rattle.undo_base.specs.declared.limits.TheConstants.{END_OF_NUMBERS}
use Rattle.undo_base.specs.declared.keys.User.{User}
use Rattle.verb_core.specs.declared.item.Aim.{Aim}
use Rattle.verb_core.specs.declared.item.Item.{Item}
use Rattle.verb_core.specs.declared.ask.Ask.{Ask}
use Rattle.verb_core.specs.declared.ask.Ask.TheVariants.{Deliver, Append, Copy, Status, Select, Create, Rename}
use Rattle.verb_core.specs.declared.ask.Refused.{Refused}
use Rattle.verb_core.specs.declared.ask.Refused.TheVariants.{NoBox, Exists, Fixed, NameShape, TryCreate, Gone, TooMany, TooLarge, BoxesFull, UidWide, Numbers, NoMemory, HasInferiors}
use Rattle.verb_core.specs.declared.item.Deed.TheVariants as deed
use Rattle.verb_core.specs.declared.mailbox.BoxId.{BoxId}
use Rattle.verb_core.specs.Names.{inbox, is_empty, superiors, with_superiors}
use Rattle.verb_core.specs.Mailboxes.{there}
use Rattle.verb_core.specs.Boxes.{box_cmp, box_of, has_row, next_at, names_of}
use Rattle.verb_core.specs.Store.{MailStore}
use Rattle.verb_core.specs.Aims.{sought, box_aimed}
use Rattle.verb_core.specs.Step.{Boxes}
use Rattle.verb_core.specs.Live.{asker, mail_of, is_misshapen, deletes_superior, asks_fixed, named, targets, new_names, is_missing, is_there, is_gone, key_count, too_large, is_wide, if_so, first_of}

-- the refusal is the one that is due, or want of memory
abbrev pub IsRefusal : Refused → Result Item Refused → Type 0
IsRefusal NoMemory due = Unit {0}
IsRefusal r due = due ≡ Err r

-- the same of a refusal alone
abbrev pub IsDue : Refused → Option Refused → Type 0
IsDue NoMemory due = Unit {0}
IsDue r due = due ≡ Some r

-- ---- by names

-- the first refusal by the names in an ask, and by the mailboxes that are there
abbrev pub by_names : MailStore → Option User → Ask → Bool → Option Refused
by_names s by ask deep = first_of (
    if_so (is_misshapen s by ask deep) NameShape
    ∷ if_so (asks_fixed ask) Fixed
    ∷ if_so (is_missing s by (named ask)) NoBox
    ∷ if_so (deletes_superior s by ask) HasInferiors
    ∷ if_so (is_missing s by (targets ask)) TryCreate
    ∷ if_so (is_there s by (new_names ask)) Exists
    ∷ [])

-- ---- by keys and sizes

-- the first refusal by the keys of an ask, and by its size
abbrev pub by_keys : MailStore → Option User → Ask → Option Refused
by_keys s by ask = first_of (
    if_so (is_gone s by ask) Gone
    ∷ if_so (nat_lt 65536 (key_count s by ask)) (TooMany (key_count s by ask))
    ∷ option_map TooLarge (too_large ask)
    ∷ [])

-- ---- by what is used up, where no name refuses

-- whether the asker has no mailbox of that name
abbrev pub is_free : MailStore → Option User → List ℕ → Bool
is_free s by name = not (has_row (box_of (asker by) name) s.boxes)

-- How many mailboxes more: those of the name and its superiors that are missing. Of a RENAME, which is to a name, these are the
-- missing superiors of its target, and of INBOX, which stays, the target.
abbrev pub adds_names : MailStore → Option User → Ask → ℕ
adds_names s by (Create mailbox) = length (filter (is_free s by) (with_superiors mailbox))
adds_names s by (Rename mailbox target) = if is_empty target then 0 else length (filter (is_free s by) (superiors target)) + (if bytes_eq mailbox inbox then 1 else 0)
adds_names s by _ = 0

-- so many more that the asker has more than a thousand
abbrev pub fills_up : MailStore → Option User → Ask → Bool
fills_up s by ask = nat_lt 0 (adds_names s by ask) && nat_lt 1000 (length (names_of (asker by) s.boxes) + adds_names s by ask)

-- new entries take the next UID past 32 bits
abbrev pub outgrows : ℕ → ℕ → Bool
outgrows next more = nat_lt 0 more && nat_lt 4294967295 (next + more)

-- so many new entries take the next UID of a mailbox past 32 bits
abbrev pub box_outgrows : Boxes → BoxId → ℕ → Bool
box_outgrows boxes id more = has_row id boxes && outgrows (next_at id boxes) more

-- how many of the aims are that mailbox
abbrev pub aims_at : BoxId → List Aim → ℕ
aims_at id aims = count_by (λ a. eq_by_cmp box_cmp (box_aimed a) id) aims

-- one message for each aim takes a next UID past 32 bits
abbrev pub aims_outgrow : Boxes → List Aim → Bool
aims_outgrow boxes aims = list_any (λ a. box_outgrows boxes (box_aimed a) (aims_at (box_aimed a) aims)) aims

-- a mailbox that SELECT or STATUS names has used up its UIDs, or new entries take a next UID past 32 bits
abbrev pub uses_up : MailStore → Option User → Ask → Bool
uses_up s by (Deliver from to text) = aims_outgrow s.boxes (sought s text by (deed.Deliver from to text)).aims
uses_up s by (Append mailbox flags moment text) = box_outgrows s.boxes (box_of (asker by) mailbox) 1
uses_up s by (Copy mailbox keys target strict) = box_outgrows s.boxes (box_of (asker by) target) (length (there (mail_of s by mailbox) keys))
uses_up s by (Rename mailbox target) = not (is_empty target) && bytes_eq mailbox inbox && outgrows 1 (length (mail_of s by mailbox))
uses_up s by (Status mailbox) = is_wide s (box_of (asker by) mailbox)
uses_up s by (Select mailbox) = is_wide s (box_of (asker by) mailbox)
uses_up s by _ = false

-- the first refusal by what is used up
abbrev pub by_room : MailStore → ℕ → Option User → Ask → Option Refused
by_room s number by ask = first_of (
    if_so (fills_up s by ask) BoxesFull
    ∷ if_so (uses_up s by ask) UidWide
    ∷ if_so (number == END_OF_NUMBERS) (Numbers number)
    ∷ [])

-- ---- in turn

-- the first refusal of the three
abbrev pub in_turn : MailStore → ℕ → Option User → Ask → Bool → Option Refused
in_turn s number by ask deep = first_of (by_names s by ask deep ∷ by_keys s by ask ∷ by_room s number by ask ∷ [])
