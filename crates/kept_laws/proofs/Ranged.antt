-- What holds of values whose fields are in their ranges.
use Rattle.std.proofs.Common.{◌≡◌, ℕ, ◌≤◌, ◌&&◌, Bool, true, List, [], ◌∷◌, length, nat_le, nat_lt, Option, Some, None, refl}
use Rattle.std.specs.Prelude.{IfSome, is_none}
use Rattle.std.specs.Cmp.{first_so}
use Rattle.std.specs.Int.{w32, w64}
use Rattle.std.specs.List.{AllByRecursion, flat_map}
use Rattle.std.proofs.lemmas.Bool.{and_parts, leb-true, ltb-true}
use Rattle.undo_base.specs.declared.keys.Key.{Key}
use Rattle.undo_base.specs.declared.limits.TheConstants.{LAST_MOMENT, MOST_KEYS, MOST_USERS}
use Rattle.undo_base.specs.Name.{IsName, first_unprintable}
use Rattle.verb_core.specs.declared.conf.Alias.{Alias}
use Rattle.verb_core.specs.declared.conf.Conf.{Conf}
use Rattle.verb_core.specs.declared.conf.Filter.{Filter}
use Rattle.verb_core.specs.declared.conf.House.{House}
use Rattle.verb_core.specs.declared.item.Sight.{Sight}
use Rattle.verb_core.specs.declared.item.Shown.{Shown}
use Rattle.verb_core.specs.declared.item.Shown.TheVariants.{Nothing, Seen, Names as Named, Count, Done, Copied, Put, Left, Way as Went, Moved}
use Rattle.verb_core.specs.declared.mailbox.BoxId.{BoxId}
use Rattle.verb_core.specs.declared.mailbox.Entry.{Entry}
use Rattle.verb_core.specs.declared.mailbox.Mailbox.{Mailbox}
use Rattle.verb_core.specs.Names.{is_empty}
use Rattle.verb_bytes.specs.declared.journal.JournalRecord.TheVariants.{Format, Base as BaseRecord}
use Rattle.verb_bytes.specs.Fields.{Field, ◌&◌, any_list_fields, are_in_range, bool_field, byte_field, flags_field, key_field, list_fields, moment_field, most_of_eight, most_of_four, name_field, number_field, only_if, option_fields, record_kind, u32_field, u64_field, user_field}
use Rattle.verb_bytes.specs.Fields as fields
use Rattle.verb_bytes.specs.Limits.{IsKey, IsSight}
use Rattle.verb_bytes.specs.Spelling.{HasSpelling, account_fields, alias_fields, aliases_fields, base_fields, broken_fields, entry_fields, house_fields, key_list, keyed_report_fields, reason_field, report_fields, row_fields, scoped_fields, shown_fields_within, sight_fields, stamp_fields, verb_field}
use Rattle.verb_bytes.proofs.Puts.{first_in_range, number_in_range, others_in_range}
use Rattle.paradox.specs.declared.reports.BrokenItem.{BrokenItem}
use Rattle.paradox.specs.declared.reports.Report.{Report}
use Rattle.kept_laws.proofs.Fits.{FitsAlias, FitsBroken, FitsConf, FitsEntry, FitsFilter, FitsKeyed, FitsReport, FitsRow, FitsShown, FitsStamp, IsFour}

-- ---- names, numbers and lists

none_is : (o : Option ℕ) → is_none o ≡ true → o ≡ None
none_is None e = refl
none_is (Some n) e = absurd (cc e)

name_of_test : (bytes : List ℕ) → fields.is_name bytes ≡ true → IsName bytes
name_of_test bytes e =
    let p : ((nat_le 1 (length bytes) && nat_le (length bytes) 200) ≡ true) × (is_none (first_unprintable bytes) ≡ true) = and_parts _ _ e in
    let q : (nat_le 1 (length bytes) ≡ true) × (nat_le (length bytes) 200 ≡ true) = and_parts _ _ p.0 in
    record { some = leb-true 1 (length bytes) q.0; most = leb-true (length bytes) 200 q.1; printable = none_is (first_unprintable bytes) p.1 }

pub name_ranged : (bytes : List ℕ) → are_in_range (name_field bytes) ≡ true → IsName bytes
unfolding name_field are_in_range
name_ranged bytes e = name_of_test bytes (first_so (fields.is_name bytes) true e)

pub key_ranged : (k : Key) → are_in_range (key_field k) ≡ true → IsKey k
unfolding key_field are_in_range
key_ranged k e =
    let both = and_parts (nat_lt k.item 4294967296) (nat_lt k.index 65536) (first_so (nat_lt k.item 4294967296 && nat_lt k.index 65536) true e) in
    (ltb-true k.item 4294967296 both.0, ltb-true k.index 65536 both.1)

pub four_ranged : (n : ℕ) → are_in_range (u32_field n) ≡ true → n ≤ 4294967295
four_ranged n e = number_in_range w32 most_of_four n e

pub each_ranged : {A : Type 0} (F : A → List Field) (P : A → Type 0) → ((x : A) → are_in_range (F x) ≡ true → P x) → (xs : List A) → are_in_range (flat_map F xs) ≡ true → AllByRecursion P xs
each_ranged F P one [] e = tt
each_ranged F P one (x ∷ xs) e = (one x (first_in_range (F x) (flat_map F xs) e), each_ranged F P one xs (others_in_range (F x) (flat_map F xs) e))

pub list_ranged : {A : Type 0} (most : ℕ) (F : A → List Field) (P : A → Type 0) → ((x : A) → are_in_range (F x) ≡ true → P x) → (xs : List A) → are_in_range (list_fields most F xs) ≡ true → AllByRecursion P xs
list_ranged most F P one xs e = each_ranged F P one xs (others_in_range (number_field w32 most (length xs)) (flat_map F xs) e)

pub option_ranged : {A : Type 0} (F : A → List Field) (P : A → Type 0) → ((x : A) → are_in_range (F x) ≡ true → P x) → (o : Option A) → are_in_range (option_fields F o) ≡ true → IfSome o P
option_ranged F P one None e = tt
option_ranged F P one (Some x) e = one x (others_in_range (byte_field 0 1 1) (F x) e)

pub keys_ranged : (ks : List Key) → are_in_range (key_list ks) ≡ true → AllByRecursion IsKey ks
keys_ranged ks e = list_ranged MOST_KEYS key_field IsKey key_ranged ks e

pub keys_few : (ks : List Key) → are_in_range (key_list ks) ≡ true → length ks ≤ 65536
keys_few ks e = number_in_range w32 MOST_KEYS (length ks) (first_in_range (number_field w32 MOST_KEYS (length ks)) (flat_map key_field ks) e)

-- ---- what is shown

sight_ranged : (s : Sight) → are_in_range (sight_fields s) ≡ true → IsSight s
sight_ranged s e = (key_ranged s.key (first_in_range (key_field s.key) (u32_field s.rev) e), four_ranged s.rev (others_in_range (key_field s.key) (u32_field s.rev) e))

pub shown_ranged : (most kind : ℕ) (s : Shown) → are_in_range (shown_fields_within most kind s) ≡ true → FitsShown s
shown_ranged most kind Nothing e = tt
shown_ranged most kind (Seen sights) e = list_ranged most sight_fields IsSight sight_ranged sights (others_in_range (byte_field kind kind 1) (list_fields most sight_fields sights) e)
shown_ranged most kind (Named names) e = list_ranged most_of_four name_field IsName name_ranged names (others_in_range (byte_field kind kind 2) (any_list_fields name_field names) e)
shown_ranged most kind (Count count) e = option_ranged u32_field IsFour four_ranged count (others_in_range (byte_field kind kind 3) (option_fields u32_field count) e)
shown_ranged most kind (Done ks) e = list_ranged most key_field IsKey key_ranged ks (others_in_range (byte_field kind kind 4) (list_fields most key_field ks) e)
shown_ranged most kind (Copied ks redirected) e =
    list_ranged most key_field IsKey key_ranged ks (first_in_range (list_fields most key_field ks) (bool_field redirected) (others_in_range (byte_field kind kind 5) (list_fields most key_field ks & bool_field redirected) e))
shown_ranged most kind (Put redirected) e = tt
shown_ranged most kind (Left ks) e = list_ranged most key_field IsKey key_ranged ks (others_in_range (byte_field kind kind 7) (list_fields most key_field ks) e)
shown_ranged most kind (Went w) e = tt
shown_ranged most kind (Moved ks) e = list_ranged most key_field IsKey key_ranged ks (others_in_range (byte_field kind kind 9) (list_fields most key_field ks) e)

-- ---- mailboxes

entry_ranged : (e : Entry) → are_in_range (entry_fields e) ≡ true → FitsEntry e
entry_ranged e h =
    let last = flags_field e.flags & moment_field e.at in
    let from_key = others_in_range (u64_field e.uid) (key_field e.key & u32_field e.body.origin & u32_field e.body.rev & last) h in
    let from_rev = others_in_range (u32_field e.body.origin) (u32_field e.body.rev & last) (others_in_range (key_field e.key) (u32_field e.body.origin & u32_field e.body.rev & last) from_key) in (
      key_ranged e.key (first_in_range (key_field e.key) (u32_field e.body.origin & u32_field e.body.rev & last) from_key),
      four_ranged e.body.rev (first_in_range (u32_field e.body.rev) last from_rev),
      number_in_range w64 LAST_MOMENT e.at (others_in_range (flags_field e.flags) (moment_field e.at) (others_in_range (u32_field e.body.rev) last from_rev)),
    )

from_name : (r : BoxId × Mailbox) → are_in_range (row_fields r) ≡ true → are_in_range (name_field r.0.name & u64_field r.1.next & any_list_fields entry_fields r.1.entries) ≡ true
from_name r h = others_in_range (user_field r.0.user) (name_field r.0.name & u64_field r.1.next & any_list_fields entry_fields r.1.entries) h

from_next : (r : BoxId × Mailbox) → are_in_range (row_fields r) ≡ true → are_in_range (u64_field r.1.next & any_list_fields entry_fields r.1.entries) ≡ true
from_next r h = others_in_range (name_field r.0.name) (u64_field r.1.next & any_list_fields entry_fields r.1.entries) (from_name r h)

row_ranged : (r : BoxId × Mailbox) → are_in_range (row_fields r) ≡ true → FitsRow r
row_ranged r h = (
  name_ranged r.0.name (first_in_range (name_field r.0.name) (u64_field r.1.next & any_list_fields entry_fields r.1.entries) (from_name r h)),
  list_ranged most_of_four entry_fields FitsEntry entry_ranged r.1.entries (others_in_range (u64_field r.1.next) (any_list_fields entry_fields r.1.entries) (from_next r h)),
)

-- its next UID
next_ranged : (r : BoxId × Mailbox) → are_in_range (row_fields r) ≡ true → r.1.next ≤ 18446744073709551615
next_ranged r h = number_in_range w64 most_of_eight r.1.next (first_in_range (u64_field r.1.next) (any_list_fields entry_fields r.1.entries) (from_next r h))

-- ---- reports

stamp_ranged : (r : BoxId × ℕ) → are_in_range (stamp_fields r) ≡ true → FitsStamp r
stamp_ranged r e =
    let named = others_in_range (user_field r.0.user) (name_field r.0.name & u32_field r.1) e in
    (name_ranged r.0.name (first_in_range (name_field r.0.name) (u32_field r.1) named), four_ranged r.1 (others_in_range (name_field r.0.name) (u32_field r.1) named))

broken_ranged : (b : BrokenItem) → are_in_range (broken_fields b) ≡ true → FitsBroken b
broken_ranged b e =
    let last = option_fields name_field b.mailbox & reason_field b.reason in
    let from_verb = others_in_range (user_field b.user) (verb_field b.verb & last) (others_in_range (u32_field b.number) (user_field b.user & verb_field b.verb & last) e) in (
      four_ranged b.number (first_in_range (u32_field b.number) (user_field b.user & verb_field b.verb & last) e),
      option_ranged name_field IsName name_ranged b.mailbox (first_in_range (option_fields name_field b.mailbox) (reason_field b.reason) (others_in_range (verb_field b.verb) last from_verb)),
    )

report_ranged : (r : Report) → are_in_range (report_fields r) ≡ true → FitsReport r
report_ranged r e =
    let unmatched = any_list_fields u32_field r.unmatched in
    let renewed = any_list_fields stamp_fields r.renewed & unmatched in
    let notices = any_list_fields u32_field r.notices & renewed in
    let broken = any_list_fields broken_fields r.broken & notices in
    let from_point = others_in_range (u32_field r.cycle) (u32_field r.point & u32_field r.kept & broken) e in
    let from_kept = others_in_range (u32_field r.point) (u32_field r.kept & broken) from_point in
    let from_broken = others_in_range (u32_field r.kept) broken from_kept in
    let from_notices = others_in_range (any_list_fields broken_fields r.broken) notices from_broken in
    let from_renewed = others_in_range (any_list_fields u32_field r.notices) renewed from_notices in
    record {
      cycle = four_ranged r.cycle (first_in_range (u32_field r.cycle) (u32_field r.point & u32_field r.kept & broken) e);
      point = four_ranged r.point (first_in_range (u32_field r.point) (u32_field r.kept & broken) from_point);
      kept = four_ranged r.kept (first_in_range (u32_field r.kept) broken from_kept);
      broken = list_ranged most_of_four broken_fields FitsBroken broken_ranged r.broken (first_in_range (any_list_fields broken_fields r.broken) notices from_broken);
      notices = list_ranged most_of_four u32_field IsFour four_ranged r.notices (first_in_range (any_list_fields u32_field r.notices) renewed from_notices);
      renewed = list_ranged most_of_four stamp_fields FitsStamp stamp_ranged r.renewed (first_in_range (any_list_fields stamp_fields r.renewed) unmatched from_renewed);
      unmatched = list_ranged most_of_four u32_field IsFour four_ranged r.unmatched (others_in_range (any_list_fields stamp_fields r.renewed) unmatched from_renewed);
    }

keyed_ranged : (r : List ℕ × Report) → are_in_range (keyed_report_fields r) ≡ true → FitsKeyed r
keyed_ranged r e = (name_ranged r.0 (first_in_range (name_field r.0) (report_fields r.1) e), report_ranged r.1 (others_in_range (name_field r.0) (report_fields r.1) e))

-- ---- configurations

alias_ranged : (a : Alias) → are_in_range (alias_fields a) ≡ true → FitsAlias a
alias_ranged a e = name_ranged a.local (first_in_range (name_field a.local) (any_list_fields user_field a.users) e)

filter_ranged : (f : Filter) → are_in_range (scoped_fields 0 f) ≡ true → FitsFilter f
filter_ranged f e = e

-- ---- records

-- what holds of what a Base has
pub record RangedBase (conf : Conf) (rows : List (BoxId × Mailbox)) (reports : List (List ℕ × Report)) : Type 0 where
  pub conf_fits : FitsConf conf
  pub rows_fit : AllByRecursion FitsRow rows
  pub nexts : AllByRecursion (λ (r : BoxId × Mailbox). r.1.next ≤ 18446744073709551615) rows
  pub reports_fit : AllByRecursion FitsKeyed reports

pub base_ranged : (next : ℕ) (deep : Bool) (conf : Conf) (rows : List (BoxId × Mailbox)) (stamps : List (BoxId × ℕ)) (reports : List (List ℕ × Report)) → HasSpelling (BaseRecord next deep conf rows stamps reports) → RangedBase conf rows reports
base_ranged next deep conf rows stamps reports e =
    let told = any_list_fields keyed_report_fields reports in
    let stamped = any_list_fields stamp_fields stamps & told in
    let mailboxes = any_list_fields row_fields rows & stamped in
    let filters = any_list_fields (scoped_fields 0) conf.filters & mailboxes in
    let aliases = aliases_fields conf.aliases & filters in
    let from_aliases = others_in_range (bool_field deep) aliases (others_in_range (u32_field next) (bool_field deep & aliases) (others_in_range (record_kind 8) (base_fields next deep conf rows stamps reports) e)) in
    let from_filters = others_in_range (aliases_fields conf.aliases) filters from_aliases in
    let from_rows = others_in_range (any_list_fields (scoped_fields 0) conf.filters) mailboxes from_filters in
    let of_rows = first_in_range (any_list_fields row_fields rows) stamped from_rows in
    record {
      conf_fits = record {
        aliases = list_ranged most_of_four alias_fields FitsAlias alias_ranged conf.aliases (first_in_range (aliases_fields conf.aliases) filters from_aliases);
        filters = list_ranged most_of_four (scoped_fields 0) FitsFilter filter_ranged conf.filters (first_in_range (any_list_fields (scoped_fields 0) conf.filters) mailboxes from_filters);
      };
      rows_fit = list_ranged most_of_four row_fields FitsRow row_ranged rows of_rows;
      nexts = list_ranged most_of_four row_fields (λ (r : BoxId × Mailbox). r.1.next ≤ 18446744073709551615) next_ranged rows of_rows;
      reports_fit = list_ranged most_of_four keyed_report_fields FitsKeyed keyed_ranged reports (others_in_range (any_list_fields stamp_fields stamps) told (others_in_range (any_list_fields row_fields rows) stamped from_rows));
    }

only_true : (t : Bool) → are_in_range (only_if t) ≡ true → t ≡ true
unfolding only_if are_in_range
only_true t h = first_so t true h

none_there : (fs : List Filter) → is_empty fs ≡ true → AllByRecursion FitsFilter fs
none_there [] e = tt
none_there (f ∷ fs) e = absurd (cc e)

-- the configuration of a Format
pub format_ranged : (house : House) (conf : Conf) → HasSpelling (Format house conf) → FitsConf conf
format_ranged house conf e =
    let empty = only_if (is_empty conf.filters) in
    let aliases = aliases_fields conf.aliases & empty in
    let postmaster = user_field house.postmaster & aliases in
    let accounts = list_fields MOST_USERS account_fields house.accounts & postmaster in
    let first = u32_field house.first & accounts in
    let domains = any_list_fields name_field house.domains & first in
    let from_aliases = others_in_range (user_field house.postmaster) aliases (others_in_range (list_fields MOST_USERS account_fields house.accounts) postmaster (others_in_range (u32_field house.first) accounts
    (others_in_range (any_list_fields name_field house.domains) first (others_in_range (name_field house.host) domains (others_in_range (record_kind 0) (house_fields house conf) e))))) in
    record {
      aliases = list_ranged most_of_four alias_fields FitsAlias alias_ranged conf.aliases (first_in_range (aliases_fields conf.aliases) empty from_aliases);
      filters = none_there conf.filters (only_true (is_empty conf.filters) (others_in_range (aliases_fields conf.aliases) empty from_aliases));
    }
