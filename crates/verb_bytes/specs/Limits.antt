-- What gives each record its spelling, in plain facts.
use Rattle.std.specs.Prelude.{◌≡◌, ℕ, ◌<◌, ◌≤◌, List, [], length, None, IfSome, IsTrue}
use Rattle.std.specs.List.{AllByRecursion}
use Rattle.undo_base.specs.declared.keys.User.{User}
use Rattle.undo_base.specs.declared.keys.Key.{Key}
use Rattle.undo_base.specs.Name.{IsName}
use Rattle.header_fields.specs.Values.{is_field_name}
use Rattle.undo_base.specs.declared.limits.TheConstants.{LAST_MOMENT, MOST_KEYS, MOST_RECIPIENTS, MOST_USERS}
use Rattle.verb_core.specs.declared.conf.Account.{Account}
use Rattle.verb_core.specs.declared.conf.Alias.{Alias}
use Rattle.verb_core.specs.declared.conf.Filter.{Filter}
use Rattle.verb_core.specs.declared.conf.House.{House}
use Rattle.verb_core.specs.declared.conf.Conf.{Conf}
use Rattle.verb_core.specs.declared.conf.Scope.{Scope}
use Rattle.verb_core.specs.declared.conf.Scope.TheVariants.{Body, Field, Sender, Recipient}
use Rattle.verb_core.specs.declared.mailbox.Entry.{Entry}
use Rattle.verb_core.specs.declared.mailbox.Mailbox.{Mailbox}
use Rattle.verb_core.specs.declared.mailbox.BoxId.{BoxId}
use Rattle.verb_core.specs.declared.item.Item.{Item}
use Rattle.verb_core.specs.declared.item.Sight.{Sight}
use Rattle.verb_core.specs.declared.item.Act.{Act}
use Rattle.verb_core.specs.declared.item.Act.TheVariants.{SetAlias, DropAlias, SetFilter, DropFilter, Remove, Give}
use Rattle.verb_core.specs.declared.item.Deed.{Deed}
use Rattle.verb_core.specs.declared.item.Deed.TheVariants.{Deliver, Append, Fetch, Store, Copy, List as Names, Status, Select, Expunge, Close, Create, Rename, Delete, Act as Acts, Notice}
use Rattle.verb_core.specs.declared.item.Shown.{Shown}
use Rattle.verb_core.specs.declared.item.Shown.TheVariants.{Nothing, Seen, Names as Named, Count, Done, Copied, Put, Left, Way as Went, Moved}
use Rattle.verb_bytes.specs.declared.journal.CycleAsk.{CycleAsk}
use Rattle.verb_bytes.specs.declared.write.TheConstants.{LAST_USER, MOST_BODY}
use Rattle.verb_bytes.specs.Fields.{most_of_four, most_of_eight}
use Rattle.verb_bytes.specs.Spelling.{shown_kind}

-- as many as four bytes count, each such
pub record AreMany {A : Type 0} (P : A → Type 0) (xs : List A) : Type 0 where
  pub each : AllByRecursion P xs
  pub few : length xs ≤ most_of_four

-- one of 200 users
abbrev pub IsUser : User → Type 0
IsUser u = u.0 ≤ LAST_USER

pub record IsAccount (a : Account) : Type 0 where
  pub name : IsName a.name
  pub password : IsName a.password

pub record IsAlias (a : Alias) : Type 0 where
  pub local : IsName a.local
  pub users : AreMany IsUser a.users

-- a house, and the aliases that it begins with
pub record IsOpening (h : House) (conf : Conf) : Type 0 where
  pub host : IsName h.host
  pub domains : AreMany IsName h.domains
  pub first : h.first ≤ most_of_four
  pub accounts : AllByRecursion IsAccount h.accounts
  pub few : length h.accounts ≤ MOST_USERS
  pub postmaster : IsUser h.postmaster
  pub aliases : AreMany IsAlias conf.aliases
  pub filters : conf.filters ≡ []

-- an envelope and a text as they are delivered and stored
pub record IsMail (from : List ℕ) (to : List (List ℕ)) (text : List ℕ) : Type 0 where
  pub from_fits : length from ≤ most_of_four
  pub names : AllByRecursion IsName to
  pub few : length to ≤ MOST_RECIPIENTS
  pub small : length text ≤ MOST_BODY

-- the item of a delivery
abbrev pub delivery : ℕ → ℕ → List ℕ → List (List ℕ) → List ℕ → Item
delivery number at from to text = record { number = number; at = at; by = None; rev = 0; deed = Deliver from to text; shown = Nothing }

-- a key that six bytes hold
abbrev pub IsKey : Key → Type 0
IsKey k = (k.item < 4294967296) × (k.index < 65536)

-- as many as an item may hold, each such
pub record AreFew {A : Type 0} (P : A → Type 0) (xs : List A) : Type 0 where
  pub each : AllByRecursion P xs
  pub few : length xs ≤ MOST_KEYS

abbrev pub AreKeys : List Key → Type 0
AreKeys ks = AreFew IsKey ks

-- a header field of a name that can be asked for, or another scope
abbrev pub IsScope : Scope → Type 0
IsScope Body = Unit {0}
IsScope (Field name) = IsTrue (is_field_name name)
IsScope Sender = Unit {0}
IsScope Recipient = Unit {0}

abbrev pub IsFilter : Filter → Type 0
IsFilter f = IsName f.id × IsName f.needle × IfSome f.file IsName × IsScope f.scope

-- an act of the operator: its names are names, its users are users, and its text can be stored
abbrev pub IsAct : Act → Type 0
IsAct (SetAlias local users) = IsName local × AreMany IsUser users
IsAct (DropAlias local) = IsName local
IsAct (SetFilter f) = IsFilter f
IsAct (DropFilter id) = IsName id
IsAct (Remove u mailbox k) = IsUser u × IsName mailbox × IsKey k
IsAct (Give u mailbox text) = IsUser u × IsName mailbox × (length text ≤ MOST_BODY)

-- an item's number, and a text that can be stored
abbrev pub IsReplace : ℕ × List ℕ → Type 0
IsReplace r = (r.0 ≤ most_of_four) × (length r.1 ≤ MOST_BODY)

-- what a cycle is asked to do
pub record IsCycleAsk (ask : CycleAsk) : Type 0 where
  pub key : IsName ask.key
  pub point : ask.point ≤ most_of_four
  pub drops : AreMany (λ n. n ≤ most_of_four) ask.drops
  pub replaces : AreMany IsReplace ask.replaces
  pub inserts : AreMany IsAct ask.inserts

-- what lies in a mailbox
pub record IsEntry (e : Entry) : Type 0 where
  pub uid : e.uid ≤ most_of_eight
  pub key : IsKey e.key
  pub origin : e.body.origin ≤ most_of_four
  pub rev : e.body.rev ≤ most_of_four
  pub at : e.at ≤ LAST_MOMENT

pub record IsRow (r : BoxId × Mailbox) : Type 0 where
  pub user : IsUser r.0.user
  pub name : IsName r.0.name
  pub next : r.1.next ≤ most_of_eight
  pub entries : AreMany IsEntry r.1.entries

-- a user's own deed: its names are names, its keys are few, and its text can be stored
abbrev pub IsDeed : Deed → Type 0
IsDeed (Deliver from to text) = IsMail from to text
IsDeed (Append mailbox given at text) = IsName mailbox × (at ≤ LAST_MOMENT) × (length text ≤ MOST_BODY)
IsDeed (Fetch mailbox ks sets_seen shows_body) = IsName mailbox × AreKeys ks
IsDeed (Store mailbox ks how given) = IsName mailbox × AreKeys ks
IsDeed (Copy mailbox ks target) = IsName mailbox × AreKeys ks × IsName target
IsDeed (Names pattern) = length pattern ≤ most_of_four
IsDeed (Status mailbox) = IsName mailbox
IsDeed (Select mailbox) = IsName mailbox
IsDeed (Expunge mailbox ks) = IsName mailbox × AreKeys ks
IsDeed (Close mailbox ks) = IsName mailbox × AreKeys ks
IsDeed (Create mailbox) = IsName mailbox
IsDeed (Rename mailbox target) = IsName mailbox × IsName target
IsDeed (Delete mailbox ks) = IsName mailbox × AreKeys ks
IsDeed (Acts a) = ⊥
IsDeed (Notice u text) = ⊥

abbrev pub IsSight : Sight → Type 0
IsSight s = IsKey s.key × (s.rev ≤ most_of_four)

-- what was shown, of this kind: its names are names, and its keys are few
abbrev pub IsShown : ℕ → Shown → Type 0
IsShown kind Nothing = kind ≡ 0
IsShown kind (Seen sights) = (kind ≡ 1) × AreFew IsSight sights
IsShown kind (Named names) = (kind ≡ 2) × AreMany IsName names
IsShown kind (Count count) = (kind ≡ 3) × IfSome count (λ n. n ≤ most_of_four)
IsShown kind (Done ks) = (kind ≡ 4) × AreKeys ks
IsShown kind (Copied ks redirected) = (kind ≡ 5) × AreKeys ks
IsShown kind (Put redirected) = kind ≡ 6
IsShown kind (Left ks) = (kind ≡ 7) × AreKeys ks
IsShown kind (Went w) = kind ≡ 8
IsShown kind (Moved ks) = (kind ≡ 9) × AreKeys ks

-- an item that a user asked for, and what was shown for it
pub record IsAsked (i : Item) : Type 0 where
  pub number : i.number ≤ most_of_four
  pub at : i.at ≤ LAST_MOMENT
  pub by : IfSome i.by IsUser
  pub rev : i.rev ≡ 0
  pub deed : IsDeed i.deed
  pub shown : IsShown (shown_kind i.deed) i.shown
