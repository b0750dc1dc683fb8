-- What is asked of the store, and what the store has, in the ranges of a record's fields.
use Rattle.std.specs.Prelude.{ℕ, ◌≤◌, List, [], ◌∷◌, length, IfSome}
use Rattle.std.specs.List.{AllByRecursion}
use Rattle.undo_base.specs.declared.keys.Key.{Key}
use Rattle.undo_base.specs.declared.limits.TheConstants.{LAST_MOMENT}
use Rattle.undo_base.specs.Name.{IsName}
use Rattle.verb_core.specs.declared.ask.Ask.{Ask}
use Rattle.verb_core.specs.declared.ask.Ask.TheVariants.{Deliver, Append, Fetch, Store, Copy, List as Names, Status, Select, Expunge, Close, Create, Rename, Delete}
use Rattle.verb_core.specs.declared.item.Deed.{Deed}
use Rattle.verb_core.specs.declared.item.Deed.TheVariants as deed
use Rattle.verb_core.specs.declared.item.Item.{Item}
use Rattle.verb_core.specs.declared.mailbox.BoxId.{BoxId}
use Rattle.verb_core.specs.declared.mailbox.Entry.{Entry}
use Rattle.verb_core.specs.declared.mailbox.Mailbox.{Mailbox}
use Rattle.verb_core.specs.Items.{keys_in}
use Rattle.verb_core.specs.Store.{MailStore}
use Rattle.verb_bytes.specs.Limits.{AreMany, IsKey, IsMail}

-- ---- what is asked

-- keys, as many as there may be: the store refuses more than an item may have
abbrev pub AreAllKeys : List Key → Type 0
AreAllKeys keys = AllByRecursion IsKey keys

-- What is asked can be recorded: its names are names, its keys are keys, and its moment and what it lists or delivers are in their ranges. The text of
-- an APPEND may have any length, since the store refuses one that is too large.
abbrev pub IsRecordable : Ask → Type 0
IsRecordable (Deliver from to text) = IsMail from to text
IsRecordable (Append mailbox flags moment text) = IsName mailbox × IfSome moment (λ at. at ≤ LAST_MOMENT)
IsRecordable (Fetch mailbox keys sets_seen shows_body strict asked) = IsName mailbox × AreAllKeys keys
IsRecordable (Store mailbox keys how flags strict) = IsName mailbox × AreAllKeys keys
IsRecordable (Copy mailbox keys target strict) = IsName mailbox × AreAllKeys keys × IsName target
IsRecordable (Names pattern) = length pattern ≤ 4294967295
IsRecordable (Status mailbox) = IsName mailbox
IsRecordable (Select mailbox) = IsName mailbox
IsRecordable (Expunge mailbox only) = IsName mailbox
IsRecordable (Close mailbox removes) = IsName mailbox
IsRecordable (Create mailbox) = IsName mailbox
IsRecordable (Rename mailbox target) = IsName mailbox × IsName target
IsRecordable (Delete mailbox) = IsName mailbox

-- ---- what the store has

-- an entry whose key six bytes hold, and the rev of whose body four hold
abbrev pub IsStoredEntry : Entry → Type 0
IsStoredEntry e = IsKey e.key × (e.body.rev ≤ 4294967295)

-- a mailbox that has a name, and such entries
abbrev pub IsStoredRow : BoxId × Mailbox → Type 0
IsStoredRow r = IsName r.0.name × AllByRecursion IsStoredEntry r.1.entries

-- a store of such mailboxes, as many as four bytes count
abbrev pub IsStored : MailStore → Type 0
IsStored s = AreMany IsStoredRow s.boxes

-- the names under which an item may put a mailbox
abbrev pub names_made : Deed → List (List ℕ)
names_made (deed.Create mailbox) = mailbox ∷ []
names_made (deed.Rename mailbox target) = target ∷ []
names_made _ = []

-- an item makes mailboxes that have names
abbrev pub MakesNames : Item → Type 0
MakesNames i = AllByRecursion IsName (names_made i.deed)

-- An item that keeps a store so. Its number and its rev are in their ranges, it has as few keys as an item may have, and it makes mailboxes that have
-- names.
pub record IsKeeping (i : Item) : Type 0 where
  pub number : i.number ≤ 4294967295
  pub rev : i.rev ≤ 4294967295
  pub few : length (keys_in i.deed) ≤ 65536
  pub names : MakesNames i
