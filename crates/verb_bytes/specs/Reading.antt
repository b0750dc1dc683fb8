-- How the code reads each record, from left to right. What it answers is said in Decoding, without this.
use Rattle.std.specs.Prelude.{◌≡◌, ℕ, ◌-◌, Bool, not, List, [], ◌∷◌, length, Option, Some, None, Result, Ok, Err}
use Rattle.undo_base.specs.declared.keys.Key.{Key}
use Rattle.undo_base.specs.declared.keys.User.{User}
use Rattle.undo_base.specs.declared.keys.Flags.{Flags}
use Rattle.undo_base.specs.declared.asks.How.{How}
use Rattle.undo_base.specs.declared.asks.How.TheVariants.{Replace, Add, Take}
use Rattle.undo_base.specs.declared.limits.TheConstants.{MOST_KEYS, MOST_RECIPIENTS, MOST_USERS}
use Rattle.verb_core.specs.declared.conf.Account.{Account}
use Rattle.verb_core.specs.declared.conf.Alias.{Alias}
use Rattle.verb_core.specs.declared.conf.Filter.{Filter}
use Rattle.verb_core.specs.declared.conf.Scope.{Scope}
use Rattle.verb_core.specs.declared.conf.Scope.TheVariants.{Body, Field, Sender, Recipient}
use Rattle.verb_core.specs.Filters.{are_of_body}
use Rattle.verb_core.specs.declared.mailbox.Entry.{Entry}
use Rattle.verb_core.specs.declared.mailbox.Mailbox.{Mailbox}
use Rattle.verb_core.specs.declared.mailbox.BoxId.{BoxId}
use Rattle.verb_core.specs.declared.item.Item.{Item}
use Rattle.verb_core.specs.declared.item.Sight.{Sight}
use Rattle.verb_core.specs.declared.item.Way.{Way}
use Rattle.verb_core.specs.declared.item.Way.TheVariants.{Plain, NoSource, Merged}
use Rattle.verb_core.specs.declared.item.Act.{Act}
use Rattle.verb_core.specs.declared.item.Act.TheVariants.{SetAlias, DropAlias, SetFilter, DropFilter, Remove, Give}
use Rattle.verb_core.specs.declared.item.Deed.{Deed}
use Rattle.verb_core.specs.declared.item.Deed.TheVariants.{Deliver, Append, Fetch, Store, Copy, List as Names, Status, Select, Expunge, Close, Create, Rename, Delete, Act as Acts, Notice}
use Rattle.verb_core.specs.declared.item.Shown.{Shown}
use Rattle.verb_core.specs.declared.item.Shown.TheVariants.{Nothing, Seen, Names as Named, Count, Done, Copied, Put, Left, Way as Went, Moved}
use Rattle.paradox.specs.declared.reports.BrokenItem.{BrokenItem}
use Rattle.paradox.specs.declared.reports.Report.{Report}
use Rattle.paradox.specs.declared.words.Reason.{Reason}
use Rattle.paradox.specs.declared.words.Reason.TheVariants as reason
use Rattle.paradox.specs.declared.words.Verb.{Verb as UserVerb}
use Rattle.paradox.specs.declared.words.Verb.TheVariants as verb
use Rattle.verb_bytes.specs.declared.journal.CycleAsk.{CycleAsk}
use Rattle.verb_bytes.specs.declared.journal.JournalRecord.{JournalRecord}
use Rattle.verb_bytes.specs.declared.journal.JournalRecord.TheVariants.{Format, Verb, Operator, Cycle, Snapshot, Upgrade, Withdraw, Base, Text, Kept}
use Rattle.verb_bytes.specs.declared.decode.BadBytes.{BadBytes}
use Rattle.verb_bytes.specs.declared.decode.BadBytes.TheVariants.{Place, NoMemory}
use Rattle.verb_bytes.specs.declared.kinds.TheConstants.{LAST_RECORD, LAST_ACT, LAST_DEED, LAST_KEPT_DEED, LAST_REASON}
use Rattle.verb_bytes.specs.declared.write.TheConstants.{MOST_BODY}
use Rattle.verb_bytes.specs.Fields.{most_of_four, most_of_eight}
use Rattle.verb_bytes.specs.Spelling.{shown_kind}
use Rattle.std.specs.Int.{w64}
use Rattle.verb_bytes.specs.Readers.{Reader, done, ◌>>=◌, read1, read2, read3, read4, read5, read6, read7, list_at, nth_case, choice_at, byte_at, option_at, bool_at, such_that, name_at, field_name_at, text_at, key_at, actor_at, number_at, u32_at, moment_at, flags_at, user_at}

abbrev pub any_list_at : {A : Type 0} → Reader A → Reader (List A)
any_list_at one = list_at most_of_four one

abbrev pub any_text_at : Reader (List ℕ)
any_text_at = text_at most_of_four

abbrev pub body_at : Reader (List ℕ)
body_at = text_at MOST_BODY

abbrev pub u64_at : Reader ℕ
u64_at = number_at w64 most_of_eight

abbrev pub keys_at : Reader (List Key)
keys_at = list_at MOST_KEYS key_at

-- ---- configurations

abbrev pub account_of : List ℕ → List ℕ → Account
account_of n p = record { name = n; password = p }

abbrev pub account_at : Reader Account
account_at = read2 account_of name_at name_at

abbrev pub alias_of : List ℕ → List User → Alias
alias_of l u = record { local = l; users = u }

abbrev pub alias_at : Reader Alias
alias_at = read2 alias_of name_at (any_list_at user_at)

abbrev pub aliases_at : Reader (List Alias)
aliases_at = any_list_at alias_at

abbrev pub filter_of : List ℕ → List ℕ → Option (List ℕ) → Scope → Filter
filter_of i n f s = record { id = i; needle = n; file = f; scope = s }

-- a filter, behind whose other fields its scope is read
abbrev pub scoped_at : Reader Scope → Reader Filter
scoped_at scope = read4 filter_of name_at name_at (option_at name_at) scope

-- one of the whole text
abbrev pub filter_at : Reader Filter
filter_at = scoped_at (done Body)

abbrev pub other_scopes : List (Reader Scope)
other_scopes = read1 Field field_name_at ∷ done Sender ∷ done Recipient ∷ []

-- any scope, and one of no whole text
abbrev pub scope_at : Reader Scope
scope_at = choice_at 0 3 (done Body ∷ other_scopes)

abbrev pub other_scope_at : Reader Scope
other_scope_at = choice_at 1 3 other_scopes

-- filters of which some looks at less than the whole text
abbrev pub scoped_filters_at : Reader (List Filter)
scoped_filters_at = such_that (λ fs. not (are_of_body fs)) (any_list_at (scoped_at scope_at))

-- ---- mailboxes

abbrev pub entry_of : ℕ → Key → ℕ → ℕ → Flags → ℕ → Entry
entry_of u k o r f t = record { uid = u; key = k; body = record { origin = o; rev = r }; flags = f; at = t }

abbrev pub entry_at : Reader Entry
entry_at = read6 entry_of u64_at key_at u32_at u32_at flags_at moment_at

abbrev pub row_of : User → List ℕ → ℕ → List Entry → BoxId × Mailbox
row_of u n x e = (record { user = u; name = n }, record { next = x; entries = e })

abbrev pub row_at : Reader (BoxId × Mailbox)
row_at = read4 row_of user_at name_at u64_at (any_list_at entry_at)

-- ---- items

abbrev pub how_at : Reader How
how_at = choice_at 0 2 (done Replace ∷ done Add ∷ done Take ∷ [])

-- the acts, whose message has a text of at most so many bytes
abbrev pub act_cases : ℕ → List (Reader Act)
act_cases most =
    read2 SetAlias name_at (any_list_at user_at)
    ∷ read1 DropAlias name_at
    ∷ read1 SetFilter filter_at
    ∷ read1 DropFilter name_at
    ∷ read3 Remove user_at name_at key_at
    ∷ read3 Give user_at name_at (text_at most)
    ∷ read1 SetFilter (scoped_at other_scope_at)
    ∷ []

abbrev pub act_within_at : ℕ → Reader Act
act_within_at most = choice_at 1 LAST_ACT (act_cases most)

-- one that the operator asked for
abbrev pub act_at : Reader Act
act_at = act_within_at MOST_BODY

-- the deeds, whose message has a text of at most so many bytes
abbrev pub deed_cases : ℕ → List (Reader Deed)
deed_cases most =
    read3 Deliver any_text_at (list_at MOST_RECIPIENTS name_at) (text_at most)
    ∷ read4 Append name_at flags_at moment_at (text_at most)
    ∷ read4 Fetch name_at keys_at bool_at bool_at
    ∷ read4 Store name_at keys_at how_at flags_at
    ∷ read3 Copy name_at keys_at name_at
    ∷ read1 Names any_text_at
    ∷ read1 Status name_at
    ∷ read1 Select name_at
    ∷ read2 Expunge name_at keys_at
    ∷ read2 Close name_at keys_at
    ∷ read1 Create name_at
    ∷ read2 Rename name_at name_at
    ∷ read2 Delete name_at keys_at
    ∷ read1 Acts (act_within_at most)
    ∷ read2 Notice user_at (text_at most)
    ∷ []

-- a deed of a kind up to the last
abbrev pub deed_at : ℕ → ℕ → Reader Deed
deed_at last most = choice_at 1 last (deed_cases most)

abbrev pub sight_of : Key → ℕ → Sight
sight_of k r = record { key = k; rev = r }

abbrev pub sight_at : Reader Sight
sight_at = read2 sight_of key_at u32_at

abbrev pub way_at : Reader Way
way_at = choice_at 0 2 (done Plain ∷ done NoSource ∷ done Merged ∷ [])

-- what was shown, where at most so many keys are listed
abbrev pub shown_cases : ℕ → List (Reader Shown)
shown_cases most =
    done Nothing
    ∷ read1 Seen (list_at most sight_at)
    ∷ read1 Named (any_list_at name_at)
    ∷ read1 Count (option_at u32_at)
    ∷ read1 Done (list_at most key_at)
    ∷ read2 Copied (list_at most key_at) bool_at
    ∷ read1 Put bool_at
    ∷ read1 Left (list_at most key_at)
    ∷ read1 Went way_at
    ∷ read1 Moved (list_at most key_at)
    ∷ []

-- the kind is this one alone
abbrev pub shown_at : ℕ → ℕ → Reader Shown
shown_at most kind = byte_at kind kind >>= λ n. nth_case n (shown_cases most)

abbrev pub item_of : ℕ → ℕ → Option User → ℕ → Deed → Shown → Item
item_of number at by rev deed shown = record { number = number; at = at; by = by; rev = rev; deed = deed; shown = shown }

abbrev pub item_at : Reader Item
item_at = u32_at >>= λ number. moment_at >>= λ at. actor_at >>= λ by. deed_at LAST_DEED MOST_BODY >>= λ deed. read1 (item_of number at by 0 deed) (shown_at MOST_KEYS (shown_kind deed))

-- an item that is kept, with its rev
abbrev pub kept_at : Reader Item
kept_at = u32_at >>= λ number. moment_at >>= λ at. actor_at >>= λ by. u32_at >>= λ rev. deed_at LAST_KEPT_DEED most_of_four >>= λ deed. read1 (item_of number at by rev deed) (shown_at most_of_four (shown_kind deed))

-- ---- what cycles reported

abbrev pub verb_cases : List (Reader UserVerb)
verb_cases =
    done verb.Deliver
    ∷ done verb.Append
    ∷ done verb.Fetch
    ∷ done verb.Store
    ∷ done verb.Copy
    ∷ done verb.List
    ∷ done verb.Status
    ∷ done verb.Select
    ∷ done verb.Expunge
    ∷ done verb.Close
    ∷ done verb.Create
    ∷ done verb.Rename
    ∷ done verb.Delete
    ∷ []

abbrev pub verb_at : Reader UserVerb
verb_at = choice_at 1 LAST_DEED verb_cases

abbrev pub reason_cases : List (Reader Reason)
reason_cases =
    done reason.Missing
    ∷ done reason.Changed
    ∷ done reason.NoName
    ∷ done reason.Fewer
    ∷ done reason.Redirected
    ∷ done reason.Left
    ∷ done reason.Renamed
    ∷ done reason.Moved
    ∷ done reason.Withdrawn
    ∷ []

abbrev pub reason_at : Reader Reason
reason_at = choice_at 0 LAST_REASON reason_cases

abbrev pub broken_of : ℕ → User → UserVerb → Option (List ℕ) → Reason → BrokenItem
broken_of n u v m r = record { number = n; user = u; verb = v; mailbox = m; reason = r }

abbrev pub broken_at : Reader BrokenItem
broken_at = read5 broken_of u32_at user_at verb_at (option_at name_at) reason_at

abbrev pub stamp_of : User → List ℕ → ℕ → BoxId × ℕ
stamp_of u n s = (record { user = u; name = n }, s)

abbrev pub stamp_at : Reader (BoxId × ℕ)
stamp_at = read3 stamp_of user_at name_at u32_at

abbrev pub report_with : ℕ → ℕ → ℕ → List BrokenItem → List ℕ → List (BoxId × ℕ) → List ℕ → Report
report_with c p k b n r u = record { cycle = c; point = p; kept = k; broken = b; notices = n; renewed = r; unmatched = u }

abbrev pub report_at : Reader Report
report_at = read7 report_with u32_at u32_at u32_at (any_list_at broken_at) (any_list_at u32_at) (any_list_at stamp_at) (any_list_at u32_at)

abbrev pub keyed_of : List ℕ → Report → List ℕ × Report
keyed_of k r = (k, r)

abbrev pub keyed_report_at : Reader (List ℕ × Report)
keyed_report_at = read2 keyed_of name_at report_at

-- ---- records

abbrev pub replace_of : ℕ → List ℕ → ℕ × List ℕ
replace_of n t = (n, t)

abbrev pub replace_at : Reader (ℕ × List ℕ)
replace_at = read2 replace_of u32_at body_at

abbrev pub ask_of : List ℕ → ℕ → List ℕ → List (ℕ × List ℕ) → List Act → CycleAsk
ask_of k p d r i = record { key = k; point = p; drops = d; replaces = r; inserts = i }

abbrev pub cycle_ask_at : Reader CycleAsk
cycle_ask_at = read5 ask_of name_at u32_at (any_list_at u32_at) (any_list_at replace_at) (any_list_at act_at)

abbrev pub format_of : List ℕ → List (List ℕ) → ℕ → List Account → User → List Alias → JournalRecord
format_of h d f a p s = Format (record { host = h; domains = d; accounts = a; postmaster = p; first = f }) (record { aliases = s; filters = [] })

abbrev pub format_at : Reader JournalRecord
format_at = read6 format_of name_at (any_list_at name_at) u32_at (list_at MOST_USERS account_at) user_at aliases_at

abbrev pub snapshot_of : ℕ → List Alias → List Filter → List (BoxId × Mailbox) → JournalRecord
snapshot_of i a f r = Snapshot i (record { aliases = a; filters = f }) r

abbrev pub snapshot_at : Reader (List Filter) → Reader JournalRecord
snapshot_at filters = read4 snapshot_of u32_at aliases_at filters (any_list_at row_at)

abbrev pub base_of : ℕ → Bool → List Alias → List Filter → List (BoxId × Mailbox) → List (BoxId × ℕ) → List (List ℕ × Report) → JournalRecord
base_of n d a f r s t = Base n d (record { aliases = a; filters = f }) r s t

abbrev pub base_at : Reader JournalRecord
base_at = read7 base_of u32_at bool_at aliases_at (any_list_at (scoped_at scope_at)) (any_list_at row_at) (any_list_at stamp_at) (any_list_at keyed_report_at)

abbrev pub text_of_body : ℕ → ℕ → List ℕ → JournalRecord
text_of_body o r t = Text (record { origin = o; rev = r }) t

abbrev pub text_record_at : Reader JournalRecord
text_record_at = read3 text_of_body u32_at u32_at any_text_at

abbrev pub record_cases : List (Reader JournalRecord)
record_cases =
    format_at
    ∷ read1 Verb item_at
    ∷ read3 Operator u32_at moment_at act_at
    ∷ read3 Cycle u32_at moment_at cycle_ask_at
    ∷ snapshot_at (any_list_at filter_at)
    ∷ read1 Upgrade moment_at
    ∷ snapshot_at scoped_filters_at
    ∷ read4 Withdraw u32_at moment_at name_at u32_at
    ∷ base_at
    ∷ text_record_at
    ∷ read1 Kept kept_at
    ∷ []

abbrev pub record_at : Reader JournalRecord
record_at = choice_at 0 LAST_RECORD record_cases

-- where bytes are left behind the last field, they are what is refused
abbrev pub refused_behind : {A : Type 0} → Result (A × List ℕ) ℕ → Option ℕ
refused_behind (Err left) = Some left
refused_behind (Ok (x, [])) = None
refused_behind (Ok (x, b ∷ rest)) = Some (length (b ∷ rest))

-- of a place from the end, the place from the start
abbrev pub from_start : ℕ → Option ℕ → Option ℕ
from_start count None = None
from_start count (Some left) = Some (count - left)

-- the place of the first field that is cut or out of its range, or the place behind the last field where bytes follow
abbrev pub first_refused : List ℕ → Option ℕ
first_refused bytes = from_start (length bytes) (refused_behind (record_at bytes))

-- what reading all of the bytes may answer: the record with nothing behind it, the first place that is refused, or want
-- of memory
abbrev pub AnswersAll : List ℕ → Result JournalRecord BadBytes → Type 0
AnswersAll bytes (Ok what) = record_at bytes ≡ Ok (what, [])
AnswersAll bytes (Err (Place place)) = first_refused bytes ≡ Some place
AnswersAll bytes (Err NoMemory) = Unit {0}
