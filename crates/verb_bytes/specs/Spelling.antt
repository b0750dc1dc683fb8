-- The fields of each record, in order, and the one spelling that they make.
use Rattle.std.specs.Prelude.{◌≡◌, ℕ, Bool, ◌==◌, List, if◌then◌else◌, IsTrue}
use Rattle.undo_base.specs.declared.keys.Key.{Key}
use Rattle.undo_base.specs.declared.asks.How.{How}
use Rattle.undo_base.specs.declared.asks.How.TheVariants.{Replace, Add, Take}
use Rattle.undo_base.specs.declared.limits.TheConstants.{MOST_KEYS, MOST_RECIPIENTS, MOST_USERS}
use Rattle.verb_core.specs.declared.conf.Account.{Account}
use Rattle.verb_core.specs.declared.conf.Alias.{Alias}
use Rattle.verb_core.specs.declared.conf.Filter.{Filter}
use Rattle.verb_core.specs.declared.conf.House.{House}
use Rattle.verb_core.specs.declared.conf.Scope.{Scope}
use Rattle.verb_core.specs.declared.conf.Scope.TheVariants.{Body, Field as HeaderField, Sender, Recipient}
use Rattle.verb_core.specs.declared.conf.Conf.{Conf}
use Rattle.verb_core.specs.declared.mailbox.Body.{Body as BodyId}
use Rattle.verb_core.specs.declared.mailbox.Entry.{Entry}
use Rattle.verb_core.specs.declared.mailbox.Mailbox.{Mailbox}
use Rattle.verb_core.specs.declared.mailbox.BoxId.{BoxId}
use Rattle.verb_core.specs.declared.item.Item.{Item}
use Rattle.verb_core.specs.declared.item.Sight.{Sight}
use Rattle.verb_core.specs.declared.item.Way.{Way}
use Rattle.verb_core.specs.declared.item.Way.TheVariants.{Plain, NoSource, Merged}
use Rattle.verb_core.specs.declared.item.Act.{Act}
use Rattle.verb_core.specs.declared.item.Act.TheVariants.{SetAlias, DropAlias, SetFilter, DropFilter, Remove, Give}
use Rattle.verb_core.specs.declared.item.Deed.{Deed}
use Rattle.verb_core.specs.declared.item.Deed.TheVariants.{Deliver, Append, Fetch, Store, Copy, List as Names, Status, Select, Expunge, Close, Create, Rename, Delete, Act as Acts, Notice}
use Rattle.verb_core.specs.declared.item.Shown.{Shown}
use Rattle.verb_core.specs.declared.item.Shown.TheVariants.{Nothing, Seen, Names as Named, Count, Done, Copied, Put, Left, Way as Went, Moved}
use Rattle.verb_core.specs.Names.{is_empty}
use Rattle.verb_core.specs.Filters.{is_of_body, are_of_body}
use Rattle.paradox.specs.declared.reports.BrokenItem.{BrokenItem}
use Rattle.paradox.specs.declared.reports.Report.{Report}
use Rattle.paradox.specs.declared.words.Reason.{Reason}
use Rattle.paradox.specs.declared.words.Reason.TheVariants as reason
use Rattle.paradox.specs.declared.words.Verb.{Verb as UserVerb}
use Rattle.paradox.specs.declared.words.Verb.TheVariants as verb
use Rattle.verb_bytes.specs.declared.journal.CycleAsk.{CycleAsk}
use Rattle.verb_bytes.specs.declared.journal.JournalRecord.{JournalRecord}
use Rattle.verb_bytes.specs.declared.journal.JournalRecord.TheVariants.{Format, Verb, Operator, Cycle, Snapshot, Upgrade, Withdraw, Base, Text, Kept}
use Rattle.verb_bytes.specs.declared.kinds.TheConstants.{LAST_DEED, LAST_KEPT_DEED, LAST_REASON}
use Rattle.verb_bytes.specs.declared.write.TheConstants.{MOST_BODY}
use Rattle.verb_bytes.specs.Fields.{Field, bytes_of, are_in_range, ◌&◌, only_if, byte_field, name_field, field_name_field, text_field, key_field, list_fields, option_fields, bool_field, flags_field, u32_field, u64_field, moment_field, any_text_field, body_field, user_field, actor_field, any_list_fields, most_of_four, record_kind, act_kind, deed_kind, deed_kind_to}

-- the keys of an item
abbrev pub key_list : List Key → List Field
key_list ks = list_fields MOST_KEYS key_field ks

-- ---- configurations

abbrev pub account_fields : Account → List Field
account_fields a = name_field a.name & name_field a.password

abbrev pub alias_fields : Alias → List Field
alias_fields a = name_field a.local & any_list_fields user_field a.users

abbrev pub aliases_fields : List Alias → List Field
aliases_fields as_ = any_list_fields alias_fields as_

-- a filter but for its scope: one of the whole text
abbrev pub filter_fields : Filter → List Field
filter_fields f = name_field f.id & name_field f.needle & option_fields name_field f.file

-- what a filter looks at, where the byte is at least this: 0 where it may be the whole text, 1 where it may not
abbrev pub scope_fields : ℕ → Scope → List Field
scope_fields least Body = byte_field least 3 0
scope_fields least (HeaderField name) = byte_field least 3 1 & field_name_field name
scope_fields least Sender = byte_field least 3 2
scope_fields least Recipient = byte_field least 3 3

-- a filter with its scope behind it
abbrev pub scoped_fields : ℕ → Filter → List Field
scoped_fields least f = filter_fields f & scope_fields least f.scope

-- ---- mailboxes

abbrev pub entry_fields : Entry → List Field
entry_fields e = u64_field e.uid & key_field e.key & u32_field e.body.origin & u32_field e.body.rev & flags_field e.flags & moment_field e.at

abbrev pub row_fields : BoxId × Mailbox → List Field
row_fields r = user_field r.0.user & name_field r.0.name & u64_field r.1.next & any_list_fields entry_fields r.1.entries

-- ---- items

abbrev pub how_field : How → List Field
how_field Replace = byte_field 0 2 0
how_field Add = byte_field 0 2 1
how_field Take = byte_field 0 2 2

-- an act, whose message has a text of at most so many bytes
abbrev pub act_fields_within : ℕ → Act → List Field
act_fields_within most (SetAlias local users) = act_kind 1 & name_field local & any_list_fields user_field users
act_fields_within most (DropAlias local) = act_kind 2 & name_field local
act_fields_within most (SetFilter f) = if is_of_body f.scope then act_kind 3 & filter_fields f else act_kind 7 & scoped_fields 1 f
act_fields_within most (DropFilter id) = act_kind 4 & name_field id
act_fields_within most (Remove u mailbox k) = act_kind 5 & user_field u & name_field mailbox & key_field k
act_fields_within most (Give u mailbox text) = act_kind 6 & user_field u & name_field mailbox & text_field most text

-- one that the operator asked for
abbrev pub act_fields : Act → List Field
act_fields a = act_fields_within MOST_BODY a

-- a deed of a kind up to the last, whose message has a text of at most so many bytes
abbrev pub deed_fields_within : ℕ → ℕ → Deed → List Field
deed_fields_within last most (Deliver from to text) = deed_kind_to last 1 & any_text_field from & list_fields MOST_RECIPIENTS name_field to & text_field most text
deed_fields_within last most (Append mailbox given at text) = deed_kind_to last 2 & name_field mailbox & flags_field given & moment_field at & text_field most text
deed_fields_within last most (Fetch mailbox ks sets_seen shows_body) = deed_kind_to last 3 & name_field mailbox & key_list ks & bool_field sets_seen & bool_field shows_body
deed_fields_within last most (Store mailbox ks how given) = deed_kind_to last 4 & name_field mailbox & key_list ks & how_field how & flags_field given
deed_fields_within last most (Copy mailbox ks target) = deed_kind_to last 5 & name_field mailbox & key_list ks & name_field target
deed_fields_within last most (Names pattern) = deed_kind_to last 6 & any_text_field pattern
deed_fields_within last most (Status mailbox) = deed_kind_to last 7 & name_field mailbox
deed_fields_within last most (Select mailbox) = deed_kind_to last 8 & name_field mailbox
deed_fields_within last most (Expunge mailbox ks) = deed_kind_to last 9 & name_field mailbox & key_list ks
deed_fields_within last most (Close mailbox ks) = deed_kind_to last 10 & name_field mailbox & key_list ks
deed_fields_within last most (Create mailbox) = deed_kind_to last 11 & name_field mailbox
deed_fields_within last most (Rename mailbox target) = deed_kind_to last 12 & name_field mailbox & name_field target
deed_fields_within last most (Delete mailbox ks) = deed_kind_to last 13 & name_field mailbox & key_list ks
deed_fields_within last most (Acts a) = deed_kind_to last 14 & act_fields_within most a
deed_fields_within last most (Notice u text) = deed_kind_to last 15 & user_field u & text_field most text

-- of an item that a user asked for: an act and a notice are no user's own, and have no such spelling
abbrev pub deed_fields : Deed → List Field
deed_fields d = deed_fields_within LAST_DEED MOST_BODY d

abbrev pub sight_fields : Sight → List Field
sight_fields s = key_field s.key & u32_field s.rev

abbrev pub way_field : Way → List Field
way_field Plain = byte_field 0 2 0
way_field NoSource = byte_field 0 2 1
way_field Merged = byte_field 0 2 2

-- the kind of shown that belongs to a deed: the byte's only value
abbrev pub shown_kind : Deed → ℕ
shown_kind (Fetch mailbox ks sets_seen shows_body) = 1
shown_kind (Names pattern) = 2
shown_kind (Status mailbox) = 3
shown_kind (Select mailbox) = 3
shown_kind (Store mailbox ks how given) = 4
shown_kind (Copy mailbox ks target) = 5
shown_kind (Append mailbox given at text) = 6
shown_kind (Expunge mailbox ks) = 7
shown_kind (Close mailbox ks) = 7
shown_kind (Rename mailbox target) = 8
shown_kind (Delete mailbox ks) = 9
shown_kind _ = 0

-- what was shown, with its kind, which is this one alone; at most so many keys are listed
abbrev pub shown_fields_within : ℕ → ℕ → Shown → List Field
shown_fields_within most kind Nothing = byte_field kind kind 0
shown_fields_within most kind (Seen sights) = byte_field kind kind 1 & list_fields most sight_fields sights
shown_fields_within most kind (Named names) = byte_field kind kind 2 & any_list_fields name_field names
shown_fields_within most kind (Count count) = byte_field kind kind 3 & option_fields u32_field count
shown_fields_within most kind (Done ks) = byte_field kind kind 4 & list_fields most key_field ks
shown_fields_within most kind (Copied ks redirected) = byte_field kind kind 5 & list_fields most key_field ks & bool_field redirected
shown_fields_within most kind (Put redirected) = byte_field kind kind 6 & bool_field redirected
shown_fields_within most kind (Left ks) = byte_field kind kind 7 & list_fields most key_field ks
shown_fields_within most kind (Went w) = byte_field kind kind 8 & way_field w
shown_fields_within most kind (Moved ks) = byte_field kind kind 9 & list_fields most key_field ks

-- of an item that a user asked for
abbrev pub shown_fields : ℕ → Shown → List Field
shown_fields kind s = shown_fields_within MOST_KEYS kind s

-- a recorded item has no rev yet
abbrev pub item_fields : Item → List Field
item_fields i = u32_field i.number & moment_field i.at & actor_field i.by & deed_fields i.deed & shown_fields (shown_kind i.deed) i.shown & only_if (i.rev == 0)

-- ---- what cycles reported

-- the byte of a verb is that of its deed
abbrev pub verb_field : UserVerb → List Field
verb_field verb.Deliver = deed_kind 1
verb_field verb.Append = deed_kind 2
verb_field verb.Fetch = deed_kind 3
verb_field verb.Store = deed_kind 4
verb_field verb.Copy = deed_kind 5
verb_field verb.List = deed_kind 6
verb_field verb.Status = deed_kind 7
verb_field verb.Select = deed_kind 8
verb_field verb.Expunge = deed_kind 9
verb_field verb.Close = deed_kind 10
verb_field verb.Create = deed_kind 11
verb_field verb.Rename = deed_kind 12
verb_field verb.Delete = deed_kind 13

abbrev pub reason_field : Reason → List Field
reason_field reason.Missing = byte_field 0 LAST_REASON 0
reason_field reason.Changed = byte_field 0 LAST_REASON 1
reason_field reason.NoName = byte_field 0 LAST_REASON 2
reason_field reason.Fewer = byte_field 0 LAST_REASON 3
reason_field reason.Redirected = byte_field 0 LAST_REASON 4
reason_field reason.Left = byte_field 0 LAST_REASON 5
reason_field reason.Renamed = byte_field 0 LAST_REASON 6
reason_field reason.Moved = byte_field 0 LAST_REASON 7
reason_field reason.Withdrawn = byte_field 0 LAST_REASON 8

abbrev pub broken_fields : BrokenItem → List Field
broken_fields b = u32_field b.number & user_field b.user & verb_field b.verb & option_fields name_field b.mailbox & reason_field b.reason

-- a mailbox and its stamp
abbrev pub stamp_fields : BoxId × ℕ → List Field
stamp_fields s = user_field s.0.user & name_field s.0.name & u32_field s.1

abbrev pub report_fields : Report → List Field
report_fields r = u32_field r.cycle & u32_field r.point & u32_field r.kept & any_list_fields broken_fields r.broken & any_list_fields u32_field r.notices & any_list_fields stamp_fields r.renewed & any_list_fields u32_field r.unmatched

-- a report behind the key of its request
abbrev pub keyed_report_fields : List ℕ × Report → List Field
keyed_report_fields r = name_field r.0 & report_fields r.1

-- ---- records

-- an item's number, and its new text
abbrev pub replace_fields : ℕ × List ℕ → List Field
replace_fields r = u32_field r.0 & body_field r.1

abbrev pub ask_fields : CycleAsk → List Field
ask_fields ask = name_field ask.key & u32_field ask.point & any_list_fields u32_field ask.drops & any_list_fields replace_fields ask.replaces & any_list_fields act_fields ask.inserts

-- a house begins with no filter
abbrev pub house_fields : House → Conf → List Field
house_fields h conf = name_field h.host & any_list_fields name_field h.domains & u32_field h.first & list_fields MOST_USERS account_fields h.accounts & user_field h.postmaster & aliases_fields conf.aliases & only_if (is_empty conf.filters)

-- a store, with the fields of its filters
abbrev pub store_fields : (Filter → List Field) → ℕ → Conf → List (BoxId × Mailbox) → List Field
store_fields fields items conf rows = u32_field items & aliases_fields conf.aliases & any_list_fields fields conf.filters & any_list_fields row_fields rows

-- a snapshot is of one kind where each filter looks at the whole text, and of another where some filter does not
abbrev pub snapshot_fields : ℕ → Conf → List (BoxId × Mailbox) → List Field
snapshot_fields items conf rows =
    if are_of_body conf.filters then record_kind 4 & store_fields filter_fields items conf rows
    else record_kind 6 & store_fields (scoped_fields 0) items conf rows

-- what a journal begins with whose past was cut off: the store before its items, which has filters of any scope
abbrev pub base_fields : ℕ → Bool → Conf → List (BoxId × Mailbox) → List (BoxId × ℕ) → List (List ℕ × Report) → List Field
base_fields next deep conf rows stamps reports = u32_field next & bool_field deep & aliases_fields conf.aliases & any_list_fields (scoped_fields 0) conf.filters & any_list_fields row_fields rows & any_list_fields stamp_fields stamps & any_list_fields keyed_report_fields reports

-- the text of a message of that store, of any length
abbrev pub text_record_fields : BodyId → List ℕ → List Field
text_record_fields body text = u32_field body.origin & u32_field body.rev & any_text_field text

-- a deed of an item that is kept, with a text of any length
abbrev pub kept_deed_fields : Deed → List Field
kept_deed_fields d = deed_fields_within LAST_KEPT_DEED most_of_four d

-- an item that is kept: it may be an act or a notice, may have a rev, and may show any count
abbrev pub kept_fields : Item → List Field
kept_fields i = u32_field i.number & moment_field i.at & actor_field i.by & u32_field i.rev & kept_deed_fields i.deed & shown_fields_within most_of_four (shown_kind i.deed) i.shown

abbrev pub record_fields : JournalRecord → List Field
record_fields (Format h conf) = record_kind 0 & house_fields h conf
record_fields (Verb i) = record_kind 1 & item_fields i
record_fields (Operator number at a) = record_kind 2 & u32_field number & moment_field at & act_fields a
record_fields (Cycle number at ask) = record_kind 3 & u32_field number & moment_field at & ask_fields ask
record_fields (Snapshot items conf rows) = snapshot_fields items conf rows
record_fields (Upgrade at) = record_kind 5 & moment_field at
record_fields (Withdraw number at key of) = record_kind 7 & u32_field number & moment_field at & name_field key & u32_field of
record_fields (Base next deep conf rows stamps reports) = record_kind 8 & base_fields next deep conf rows stamps reports
record_fields (Text body text) = record_kind 9 & text_record_fields body text
record_fields (Kept i) = record_kind 10 & kept_fields i

-- the byte of its kind
abbrev pub record_code : JournalRecord → ℕ
record_code (Format h conf) = 0
record_code (Verb i) = 1
record_code (Operator number at a) = 2
record_code (Cycle number at ask) = 3
record_code (Snapshot items conf rows) = if are_of_body conf.filters then 4 else 6
record_code (Upgrade at) = 5
record_code (Withdraw number at key of) = 7
record_code (Base next deep conf rows stamps reports) = 8
record_code (Text body text) = 9
record_code (Kept i) = 10

-- each of its fields is in its range
abbrev pub HasSpelling : JournalRecord → Type 0
HasSpelling what = IsTrue (are_in_range (record_fields what))

-- the one spelling of a record that has one
abbrev pub record_bytes : JournalRecord → List ℕ
record_bytes what = bytes_of (record_fields what)

abbrev pub Spells : JournalRecord → List ℕ → Type 0
Spells what bytes = HasSpelling what × (bytes ≡ record_bytes what)
