-- What an IMAP client goes by that keeps mail by UID, and what holds of all that is ever kept.
--
-- What is kept is `IsSound` where a base carries it (`HasBase`) and its store is what its items leave (`IsRun`). Its items are
-- well formed with distinct numbers below the next one, and its stamps name the mailboxes and are below it. Each desk tells all
-- that but `IsRun` (`stands`). That what the last cycle left can come back is in it too (`HasUndone`). That revs are below the
-- next number is told of all that records leave, not of each desk. So is that the texts of what can come back are those that were
-- there (`HasUndoneTexts`). Only the law over records needs it.
use Rattle.std.specs.Prelude.{◌≡◌, ℕ, ◌+◌, ◌<◌, ◌==◌, Bool, false, List, [], ◌∷◌, ◌++◌, length, map, find, Option, None, option_map, IsTrue, if◌then◌else◌}
use Rattle.std.specs.List.{AllByRecursion, list_all}
use Rattle.std.specs.Option.{option_map_or}
use Rattle.undo_base.specs.declared.keys.Key.{Key}
use Rattle.undo_base.specs.declared.keys.User.{User}
use Rattle.verb_core.specs.declared.item.Item.{Item}
use Rattle.verb_core.specs.declared.mailbox.Body.{Body}
use Rattle.verb_core.specs.declared.mailbox.BoxId.{BoxId}
use Rattle.verb_core.specs.declared.mailbox.Entry.{Entry}
use Rattle.verb_core.specs.declared.mailbox.Mailbox.{Mailbox}
use Rattle.verb_core.specs.Boxes.{mail_at}
use Rattle.verb_core.specs.Fates.{places_of, takers, times_given}
use Rattle.verb_core.specs.Items.{IsTimeline}
use Rattle.verb_core.specs.Step.{run}
use Rattle.verb_core.specs.Store.{is_house, is_known}
use Rattle.store_kept.specs.Bases.{HasBase}
use Rattle.store_kept.specs.Coming.{HasUndone}
use Rattle.store_kept.specs.Kept.{BaseTexts, IsRun, Kept, stamp_at, store_of}
use Rattle.store_kept.specs.Texts.{text_kept}

-- ---- messages by UID

-- a message as an IMAP client knows it: which one it is, and its text
pub record Message : Type 0 where
  pub key : Key
  pub text : Option (List ℕ)

-- the message of an entry
abbrev pub message_of : Kept → Entry → Message
message_of kept e = record { key = e.key; text = text_kept kept e.body }

-- whether the mailbox has this stamp, its UIDVALIDITY
abbrev pub has_stamp : Kept → BoxId → ℕ → Bool
has_stamp kept id stamp = option_map_or (λ n. n == stamp) (stamp_at kept id) false

-- the entry under a UID of a mailbox
abbrev pub entry_at : Kept → BoxId → ℕ → Option Entry
entry_at kept id uid = find (λ (e : Entry). e.uid == uid) (mail_at id (store_of kept).boxes)

-- the message under a UID of a mailbox that has this stamp (RFC 3501, section 2.3.1.1)
abbrev pub message_at : Kept → BoxId → ℕ → ℕ → Option Message
message_at kept id stamp uid = if has_stamp kept id stamp then option_map (message_of kept) (entry_at kept id uid) else None

-- ---- what holds of all that is kept

-- The base carries it, and the store is what its items leave. They are well formed, with distinct numbers below the next one. Its
-- stamps name the mailboxes, and are below the next number too; and what the last cycle left to be withdrawn can come back.
pub record IsSound (kept : Kept) : Type 0 where
  pub house : IsTrue (is_house kept.house)
  pub aliases : IsTrue (list_all (λ a. list_all (is_known kept.house) a.users) kept.opening.aliases)
  pub base : HasBase kept
  pub runs : IsRun kept
  pub timeline : IsTimeline kept.house kept.timeline
  pub below : AllByRecursion (λ (i : Item). i.number < kept.next) kept.timeline
  pub named : map (λ (r : BoxId × ℕ). r.0) kept.stamps ≡ map (λ (r : BoxId × Mailbox). r.0) (store_of kept).boxes
  pub fresh : AllByRecursion (λ (r : BoxId × ℕ). r.1 < kept.next) kept.stamps
  pub undone : HasUndone kept

-- each text, of items and of a base, has a rev below a number: 0, or the number of the cycle that replaced it
pub record RevsUnder (next : ℕ) (timeline : List Item) (texts : BaseTexts) : Type 0 where
  pub items : AllByRecursion (λ (i : Item). i.rev < next) timeline
  pub base : AllByRecursion (λ (t : Body × List ℕ). t.0.rev < next) texts

-- below the next number
abbrev pub RevsBelow : Kept → Type 0
RevsBelow kept = RevsUnder kept.next kept.timeline kept.texts

-- ---- what becomes of messages

-- Of a message that an item of the timeline gives to a user. In the store that is kept it lies in one mailbox under one UID, or
-- one of the later items took it out.
abbrev pub IsAccounted : Kept → List Item → Item → List Item → User → Key → Type 0
IsAccounted kept before i later u key = length (places_of u key (store_of kept).boxes) + length (takers u key (run kept.base (before ++ i ∷ [])) later) ≡ 1

-- an item of the timeline gives a user one message of a key, and that has one fate
abbrev pub Arrives : Kept → List Item → Item → List Item → User → Key → Type 0
Arrives kept before i later u key = (times_given u key (run kept.base before) i ≡ 1) × IsAccounted kept before i later u key
