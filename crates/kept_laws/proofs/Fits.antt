-- What stands in the ranges of records but for lengths of lists: of a store, of what items bring and show, and of reports.
use Rattle.std.proofs.Common.{◌≡◌, ℕ, ◌≤◌, true, List, [], ◌∷◌, length}
use Rattle.std.specs.Prelude.{IfSome}
use Rattle.std.specs.List.{AllByRecursion}
use Rattle.undo_base.specs.declared.limits.TheConstants.{LAST_MOMENT}
use Rattle.undo_base.specs.Name.{IsName}
use Rattle.verb_core.specs.declared.conf.Alias.{Alias}
use Rattle.verb_core.specs.declared.conf.Conf.{Conf}
use Rattle.verb_core.specs.declared.conf.Filter.{Filter}
use Rattle.verb_core.specs.declared.item.Act.TheVariants.{SetAlias, SetFilter}
use Rattle.verb_core.specs.declared.item.Deed.{Deed}
use Rattle.verb_core.specs.declared.item.Deed.TheVariants.{Append, Create, Rename, Act as Acts, Notice}
use Rattle.verb_core.specs.declared.item.Item.{Item}
use Rattle.verb_core.specs.declared.item.Shown.{Shown}
use Rattle.verb_core.specs.declared.item.Shown.TheVariants.{Seen, Names as Named, Count, Done, Copied, Left, Moved}
use Rattle.verb_core.specs.declared.mailbox.BoxId.{BoxId}
use Rattle.verb_core.specs.declared.mailbox.Entry.{Entry}
use Rattle.verb_core.specs.declared.mailbox.Mailbox.{Mailbox}
use Rattle.verb_core.specs.Deeds.{mailbox_in, with_text}
use Rattle.verb_core.specs.Items.{keys_in}
use Rattle.verb_core.specs.Store.{MailStore}
use Rattle.verb_bytes.specs.Fields.{are_in_range}
use Rattle.verb_bytes.specs.Limits.{IsKey, IsSight}
use Rattle.verb_bytes.specs.Spelling.{kept_deed_fields, scoped_fields}
use Rattle.paradox.specs.declared.reports.BrokenItem.{BrokenItem}
use Rattle.paradox.specs.declared.reports.Report.{Report}

-- ---- a store

-- an entry but for its UID and its origin
abbrev pub FitsEntry : Entry → Type 0
FitsEntry e = IsKey e.key × (e.body.rev ≤ 4294967295) × (e.at ≤ LAST_MOMENT)

abbrev pub AreEntries : List Entry → Type 0
AreEntries es = AllByRecursion FitsEntry es

-- a mailbox that has a name, but for its user and its next UID
abbrev pub FitsRow : BoxId × Mailbox → Type 0
FitsRow r = IsName r.0.name × AreEntries r.1.entries

abbrev pub AreRows : List (BoxId × Mailbox) → Type 0
AreRows rows = AllByRecursion FitsRow rows

-- an alias but for its users
abbrev pub FitsAlias : Alias → Type 0
FitsAlias a = IsName a.local

abbrev pub FitsFilter : Filter → Type 0
FitsFilter f = are_in_range (scoped_fields 0 f) ≡ true

pub record FitsConf (conf : Conf) : Type 0 where
  pub aliases : AllByRecursion FitsAlias conf.aliases
  pub filters : AllByRecursion FitsFilter conf.filters

pub record FitsStore (s : MailStore) : Type 0 where
  pub rows : AreRows s.boxes
  pub conf : FitsConf s.conf

-- ---- an item

-- The moment and the deed of an item: its moment is one, and its deed is in range without its text, but for a notice, whose user the
-- house says.
abbrev pub IsDeedAgain : Deed → Type 0
IsDeedAgain (Notice u text) = Unit {0}
IsDeedAgain d = are_in_range (kept_deed_fields (with_text [] d)) ≡ true

pub record IsAgain (i : Item) : Type 0 where
  pub at : i.at ≤ LAST_MOMENT
  pub deed : IsDeedAgain i.deed

-- what is shown
abbrev pub FitsShown : Shown → Type 0
FitsShown (Seen sights) = AllByRecursion IsSight sights
FitsShown (Named names) = AllByRecursion IsName names
FitsShown (Count count) = IfSome count (λ n. n ≤ 4294967295)
FitsShown (Done ks) = AllByRecursion IsKey ks
FitsShown (Copied ks redirected) = AllByRecursion IsKey ks
FitsShown (Left ks) = AllByRecursion IsKey ks
FitsShown (Moved ks) = AllByRecursion IsKey ks
FitsShown _ = Unit {0}

-- what a step shows: a count may be any
abbrev pub FitsAnswer : Shown → Type 0
FitsAnswer (Count count) = Unit {0}
FitsAnswer s = FitsShown s

pub record Fits (i : Item) : Type 0 where
  pub number : i.number ≤ 4294967295
  pub rev : i.rev ≤ 4294967295
  pub again : IsAgain i
  pub shows : FitsShown i.shown

-- ---- what its deed has

-- the names under which it may put a mailbox
abbrev pub names_made : Deed → List (List ℕ)
names_made (Create mailbox) = mailbox ∷ []
names_made (Rename mailbox target) = target ∷ []
names_made _ = []

-- the moment that it gives a message
abbrev pub FitsMoment : Deed → Type 0
FitsMoment (Append mailbox flags moment text) = moment ≤ LAST_MOMENT
FitsMoment _ = Unit {0}

-- what it puts into the configuration
abbrev pub FitsChange : Deed → Type 0
FitsChange (Acts (SetAlias local users)) = IsName local
FitsChange (Acts (SetFilter f)) = FitsFilter f
FitsChange _ = Unit {0}

pub record FitsDeed (d : Deed) : Type 0 where
  pub names : AllByRecursion IsName (names_made d)
  pub keys : AllByRecursion IsKey (keys_in d)
  pub few : length (keys_in d) ≤ 65536
  pub moment : FitsMoment d
  pub change : FitsChange d
  pub mailbox : IfSome (mailbox_in d) IsName

-- ---- reports

abbrev pub IsFour : ℕ → Type 0
IsFour n = n ≤ 4294967295

-- a stamp of a mailbox but for its user, and an item that is told of but for its user
abbrev pub FitsStamp : BoxId × ℕ → Type 0
FitsStamp r = IsName r.0.name × (r.1 ≤ 4294967295)

abbrev pub FitsBroken : BrokenItem → Type 0
FitsBroken b = (b.number ≤ 4294967295) × IfSome b.mailbox IsName

pub record FitsReport (r : Report) : Type 0 where
  pub cycle : r.cycle ≤ 4294967295
  pub point : r.point ≤ 4294967295
  pub kept : r.kept ≤ 4294967295
  pub broken : AllByRecursion FitsBroken r.broken
  pub notices : AllByRecursion IsFour r.notices
  pub renewed : AllByRecursion FitsStamp r.renewed
  pub unmatched : AllByRecursion IsFour r.unmatched

abbrev pub FitsKeyed : List ℕ × Report → Type 0
FitsKeyed r = IsName r.0 × FitsReport r.1
