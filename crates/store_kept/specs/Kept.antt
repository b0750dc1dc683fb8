-- What is kept of a store in use: all that is needed to have it again, and to go on.
use Rattle.std.specs.Prelude.{◌≡◌, ℕ, ◌+◌, ◌-◌, ◌==◌, nat_le, nat_lt, if◌then◌else◌, Bool, true, false, List, [], ◌∷◌, ◌++◌, length, get_or, filter, Option, Some, None, option_and_then}
use Rattle.std.specs.declared.cmp.Ordering.{Ordering}
use Rattle.std.specs.Ordering.{nat_cmp, ordering_then}
use Rattle.std.specs.Cmp.Lexicographic.{slice_cmp}
use Rattle.std.specs.FinMap.Entries as rows
use Rattle.verb_core.specs.declared.conf.Conf.{Conf}
use Rattle.verb_core.specs.declared.conf.House.{House}
use Rattle.verb_core.specs.declared.item.Item.{Item}
use Rattle.verb_core.specs.declared.mailbox.Body.{Body}
use Rattle.verb_core.specs.declared.mailbox.BoxId.{BoxId}
use Rattle.verb_core.specs.declared.mailbox.Mailbox.{Mailbox}
use Rattle.verb_core.specs.Boxes.{row_at}
use Rattle.verb_core.specs.Store.{MailStore, opening}
use Rattle.verb_core.specs.Step.{run, step}
use Rattle.verb_core.specs.Stamps.{opening_stamps, stamps_after}
use Rattle.paradox.specs.declared.reports.Report.{Report}
use Rattle.withdraw.specs.declared.undone.UndoneBehind.{UndoneBehind}

-- ---- the reports of cycles and withdrawals

-- each one's report by the key of its request
abbrev pub Reports : Type 0
Reports = List (List ℕ × Report)

-- keys in byte order
abbrev pub key_cmp : List ℕ → List ℕ → Ordering
key_cmp a b = slice_cmp nat_cmp a b

-- whether the keys strictly rise
abbrev pub is_by_key : Reports → Bool
is_by_key reports = rows.is_sorted key_cmp reports

-- the report of the cycle or withdrawal that was asked for under a key
abbrev pub report_of : Reports → List ℕ → Option Report
report_of reports key = rows.find key_cmp key reports

-- with a report in the place of its key, where one that the key had before is no more
abbrev pub with_report : List ℕ → Report → Reports → Reports
with_report key report reports = rows.put key_cmp key report reports

-- ---- the snapshots

-- What is known of the snapshots in the journal: how many items entered since the last (inserted acts and notices counted), and
-- how many snapshots there are. And after how many items each of those was taken from which a cycle can begin, rising.
pub record Marks : Type 0 where
  pub since : ℕ
  pub taken : ℕ
  pub places : List ℕ

abbrev pub no_marks : Marks
no_marks = record { since = 0; taken = 0; places = [] }

-- more items entered
abbrev pub entered : ℕ → Marks → Marks
entered n m = record m { since = m.since + n }

-- a number in its place among rising ones
abbrev pub placed : ℕ → List ℕ → List ℕ
placed n places = filter (λ (p : ℕ). nat_lt p n) places ++ n ∷ filter (λ (p : ℕ). nat_lt n p) places

-- a snapshot was taken after so many items
abbrev pub marked : ℕ → Marks → Marks
marked n m = record { since = 0; taken = m.taken + 1; places = placed n m.places }

-- a snapshot is there that holds another store: no cycle begins from it
abbrev pub passed : Marks → Marks
passed m = record m { since = 0; taken = m.taken + 1 }

-- those that are not behind a place
abbrev pub not_behind : ℕ → List ℕ → List ℕ
not_behind place places = filter (λ (p : ℕ). nat_le p place) places

-- a cycle or a withdrawal at a place let so many items enter: no snapshot behind the place can serve
abbrev pub rewound : ℕ → ℕ → Marks → Marks
rewound place n m = record m { since = m.since + n; places = not_behind place m.places }

-- the last of those that are not behind a place, or 0
abbrev pub newest_at : ℕ → List ℕ → ℕ
newest_at place places = get_or (not_behind place places) (length (not_behind place places) - 1) 0

-- ---- the texts that come with a base

-- bodies by origin, and then by rev
abbrev pub body_cmp : Body → Body → Ordering
body_cmp a b = ordering_then (nat_cmp a.origin b.origin) (nat_cmp a.rev b.rev)

-- each text by its body
abbrev pub BaseTexts : Type 0
BaseTexts = List (Body × List ℕ)

-- with the text of a body in its place, by rising body
abbrev pub with_base_text : Body → List ℕ → BaseTexts → BaseTexts
with_base_text body text texts = rows.put body_cmp body text texts

-- ---- what is kept

-- `base` is the store before the first item, `texts` come with it, and numbers are drawn from `first` on. `store` is there now,
-- `timeline` has the items in force in order, `stamps` each mailbox's, and `next` is drawn next. `reports` are those of cycles and
-- withdrawals, and `deep` tells whether names may have superiors. `undone` is what the last of these left to be withdrawn, where
-- it was a cycle.
pub record Kept : Type 0 where
  pub house : House
  pub opening : Conf
  pub base : MailStore
  pub texts : BaseTexts
  pub first : ℕ
  pub store : MailStore
  pub timeline : List Item
  pub stamps : List (BoxId × ℕ)
  pub next : ℕ
  pub reports : Reports
  pub marks : Marks
  pub deep : Bool
  pub undone : Option UndoneBehind

-- What a store in use begins with: its house, the configuration at first, and its base, the store before the first item, with the
-- texts that come with it. Numbers are drawn from `first` on.
pub record Origin : Type 0 where
  pub house : House
  pub opening : Conf
  pub base : MailStore
  pub texts : BaseTexts
  pub first : ℕ

-- where the base is the opening store of the house and the configuration, which has no mail
abbrev pub opening_origin : House → Conf → Origin
opening_origin house conf = record { house = house; opening = conf; base = opening house conf; texts = []; first = house.first }

-- what is kept, by where it began
abbrev pub kept_from : Origin → MailStore → List Item → List (BoxId × ℕ) → ℕ → Reports → Marks → Bool → Option UndoneBehind → Kept
kept_from origin store timeline stamps next reports marks deep undone = record {
  house = origin.house;
  opening = origin.opening;
  base = origin.base;
  texts = origin.texts;
  first = origin.first;
  store = store;
  timeline = timeline;
  stamps = stamps;
  next = next;
  reports = reports;
  marks = marks;
  deep = deep;
  undone = undone;
}

-- what it began with
abbrev pub origin_of : Kept → Origin
origin_of kept = record { house = kept.house; opening = kept.opening; base = kept.base; texts = kept.texts; first = kept.first }

abbrev pub store_of : Kept → MailStore
store_of kept = kept.store

-- it is what the items in force leave, performed one after the other
abbrev pub IsRun : Kept → Type 0
IsRun kept = kept.store ≡ run kept.base kept.timeline

-- the mailbox of a user and name, if there is one
abbrev pub mailbox_at : Kept → BoxId → Option Mailbox
mailbox_at kept id = row_at id (store_of kept).boxes

-- its stamp, the UIDVALIDITY (RFC 3501, section 2.3.1.1)
abbrev pub stamp_at : Kept → BoxId → Option ℕ
stamp_at kept id = row_at id kept.stamps

-- a store on which nothing was done yet
abbrev pub new_desk : House → Conf → Kept
new_desk house conf = record {
  house = house;
  opening = conf;
  base = opening house conf;
  texts = [];
  first = house.first;
  store = opening house conf;
  timeline = [];
  stamps = opening_stamps (opening house conf);
  next = house.first;
  reports = [];
  marks = no_marks;
  deep = false;
  undone = None;
}

-- what the last cycle left to be withdrawn, where that cycle has the number
abbrev pub undone_as : ℕ → UndoneBehind → Option UndoneBehind
undone_as cycle last = if last.cycle == cycle then Some last else None

abbrev pub undone_of : Kept → ℕ → Option UndoneBehind
undone_of kept cycle = option_and_then (undone_as cycle) kept.undone

-- the item is performed, and is the last of those in force
abbrev pub performed : Kept → Item → Kept
performed kept item = record kept {
  store = (step (store_of kept) item).0;
  timeline = kept.timeline ++ item ∷ [];
  stamps = stamps_after item.number (step (store_of kept) item).0.boxes kept.stamps;
  next = kept.next + 1;
  marks = entered 1 kept.marks;
}

-- from then on names may have superiors
abbrev pub upgraded : Kept → Kept
upgraded kept = record kept { deep = true }

-- a snapshot of what is kept was taken
abbrev pub snapshotted : Kept → Kept
snapshotted kept = record kept { marks = marked (length kept.timeline) kept.marks }
