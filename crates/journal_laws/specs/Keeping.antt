-- What a user who keeps mail by UID may rely on, and an operator who must account for every message. It is so in every state that a run
-- leaves, be it at a moment or by a crash.
use Rattle.std.specs.Prelude.{◌≡◌, ◌≢◌, ◌⊎◌, ℕ, List, ◌∷◌, ◌++◌, take, Some, IsSome}
use Rattle.undo_base.specs.declared.keys.Key.{Key}
use Rattle.undo_base.specs.declared.keys.User.{User}
use Rattle.verb_core.specs.declared.item.Item.{Item}
use Rattle.verb_core.specs.declared.mailbox.BoxId.{BoxId}
use Rattle.verb_core.specs.Fates.{times_given, times_held}
use Rattle.verb_core.specs.Step.{run}
use Rattle.verb_bytes.specs.declared.journal.JournalRecord.{JournalRecord}
use Rattle.store_kept.specs.Kept.{Kept, store_of}
use Rattle.desk_journal.specs.Permanence.{IsAccounted, Message, message_at}
use Rattle.desk_journal.specs.Records.{after_records, state}
use Rattle.cut_laws.specs.Cuts.{IsAccountedFor}

-- ---- a run, and the states that it leaves

-- The premise. A journal's records leave what is kept at first, and more records can stand behind them: those that a run seals, in order, and
-- maybe the one whose sealing failed.
pub record IsJournalRun (records added : List JournalRecord) (first : Kept) : Type 0 where
  pub began : state records ≡ Some first
  pub stand : IsSome (after_records first added)

-- the run leaves this: it is what the records at first and the first so many of the others leave
abbrev pub IsLeftBy : List JournalRecord → List JournalRecord → Kept → Type 0
IsLeftBy records added kept = (count : ℕ) × (state (records ++ take count added) ≡ Some kept)

-- ---- what a user may rely on

-- a user, name, UIDVALIDITY and UID that name a message in both name one message, with one text (RFC 3501, section 2.3.1.1)
abbrev pub NameOneMessage : Kept → Kept → Type 0
NameOneMessage a b = (id : BoxId) (stamp uid : ℕ) (m n : Message) → message_at a id stamp uid ≡ Some m → message_at b id stamp uid ≡ Some n → m ≡ n

-- ---- what an operator may rely on

-- a message came to a user: an item in force gave it, or it lay in the base
abbrev pub Came : Kept → User → Key → Type 0
Came kept u key =
    ((before : List Item) × (i : Item) × (later : List Item) × (kept.timeline ≡ before ++ i ∷ later) × (times_given u key (run kept.base before) i ≢ 0))
    ⊎ (times_held u key kept.base.boxes ≢ 0)

-- Of one state. Each message that came is accounted for: one that an item in force gave to a user lies there once, in one mailbox under one UID, or one
-- later item took it out; and so one that lay in the base, whose past was cut off. Nothing else lies with a user, nor is named by a UID; and each
-- message that is named has its text.
pub record IsAccurate (kept : Kept) : Type 0 where
  pub given : (before later : List Item) (i : Item) (u : User) (key : Key) → kept.timeline ≡ before ++ i ∷ later → times_given u key (run kept.base before) i ≢ 0
      → IsAccounted kept before i later u key
  pub based : (u : User) (key : Key) → times_held u key kept.base.boxes ≢ 0 → IsAccountedFor kept u key
  pub came : (u : User) (key : Key) → times_held u key (store_of kept).boxes ≢ 0 → Came kept u key
  pub named : (id : BoxId) (stamp uid : ℕ) (m : Message) → message_at kept id stamp uid ≡ Some m → Came kept id.user m.key
  pub texts : (id : BoxId) (stamp uid : ℕ) (m : Message) → message_at kept id stamp uid ≡ Some m → IsSome m.text

-- ---- the whole

-- In every state that a run leaves a user, name, UIDVALIDITY and UID name one message and one text. Each message that was given lies once, or
-- was taken by one item, and nothing else lies there.
pub record KeepsMail (records added : List JournalRecord) : Type 0 where
  pub one : (a b : Kept) → IsLeftBy records added a → IsLeftBy records added b → NameOneMessage a b
  pub accurate : (kept : Kept) → IsLeftBy records added kept → IsAccurate kept
