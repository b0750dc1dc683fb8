-- The items and the base that records leave, recorded again.
use Rattle.std.proofs.Common.{◌≡◌, ℕ, ◌+◌, ◌<◌, ◌≤◌, ◌&&◌, Bool, true, List, [], ◌∷◌, ◌++◌, length, map, take, drop, nat_le, nat_lt, refl, sym, subst, ◌∙◌, arith}
use Rattle.std.specs.Cmp.{first_so, second_so}
use Rattle.std.specs.List.{AllByRecursion, list_all}
use Rattle.std.proofs.lemmas.Bool.{leb-true}
use Rattle.std.proofs.lemmas.List.Folds.{list_all-append}
use Rattle.undo_base.specs.Name.{IsName}
use Rattle.verb_core.specs.declared.conf.Alias.{Alias}
use Rattle.verb_core.specs.declared.conf.Conf.{Conf}
use Rattle.verb_core.specs.declared.conf.House.{House}
use Rattle.verb_core.specs.declared.item.Item.{Item}
use Rattle.verb_core.specs.declared.mailbox.Body.{Body}
use Rattle.verb_core.specs.declared.mailbox.BoxId.{BoxId}
use Rattle.verb_core.specs.declared.mailbox.Mailbox.{Mailbox}
use Rattle.verb_core.specs.Boxes.{has_superiors, is_rising}
use Rattle.verb_core.specs.Items.{IsWellFormed}
use Rattle.verb_core.specs.Store.{IsValid, MailStore, is_house, is_known, is_row}
use Rattle.paradox.specs.declared.reports.Report.{Report}
use Rattle.verb_bytes.specs.declared.journal.JournalRecord.TheVariants.{Base as BaseRecord, Text as TextRecord, Kept as KeptRecord}
use Rattle.verb_bytes.specs.Fields.{Field, ◌&◌, actor_field, any_list_fields, bool_field, bytes_of, moment_field, most_of_four, record_kind, u32_field}
use Rattle.verb_bytes.specs.Places.{size_of}
use Rattle.verb_bytes.specs.Spelling.{HasSpelling, aliases_fields, base_fields, kept_deed_fields, kept_fields, keyed_report_fields, record_fields, row_fields, scoped_fields, shown_fields_within, shown_kind, stamp_fields}
use Rattle.verb_bytes.proofs.Ranges.{record_kind_fits}
use Rattle.verb_bytes.proofs.Sizes.{size_both}
use Rattle.seal_log.specs.Journal.{IsPayload}
use Rattle.box_store.specs.Making.{are_rows, have_fixed, knows_aliases, makes_store, store_of_rows}
use Rattle.store_kept.specs.Founding.{are_reports, are_stamps, based_on, base_stands, entries_of, is_entry_below, once_each, users_told}
use Rattle.store_kept.specs.Kept.{BaseTexts, Kept, is_by_key, store_of}
use Rattle.store_kept.proofs.Known.{MailIsKept}
use Rattle.cycle_rules.specs.Cutting.{base_at, cut}
use Rattle.mail_desk.specs.Counting.{bare_item}
use Rattle.desk_journal.specs.Founding.{cut_records}
use Rattle.desk_journal.specs.Permanence.{RevsBelow}
use Rattle.desk_journal.specs.Records.{payloads_of}
use Rattle.time_desk.specs.Cutting.{base_record}
use Rattle.cut_laws.specs.Cuts.{CanBeCut, CanBeWritten}
use Rattle.cut_laws.proofs.Cut.{cut_founded}
use Rattle.kept_laws.specs.Again.{CanBeKeptAgain, HasFrame, UidsFit}
use Rattle.kept_laws.proofs.Fields.{again_spelled}
use Rattle.kept_laws.proofs.Fits.{AreRows, Fits, FitsAlias, FitsKeyed, FitsStamp, FitsStore}
use Rattle.kept_laws.proofs.Lists.{all_dropped, all_taken}
use Rattle.kept_laws.proofs.Ranged.{base_ranged}
use Rattle.kept_laws.proofs.Stores.{run_fits}
use Rattle.kept_laws.proofs.Sized.{Known, RowWell, all_tested, bool_fits, fit_aliases, fit_both, fit_filters, fit_reports, fit_rows, fit_shown, fit_stamps, four_fits, zipped}
use Rattle.kept_laws.proofs.Staying.{AllHold}

size_is : (fields : List Field) → size_of fields ≡ length (bytes_of fields)
unfolding size_of
size_is fields = refl

-- ---- items

size_behind : (x y : List Field) (n : ℕ) → n ≤ size_of y → n ≤ size_of (x ++ y)
size_behind x y n le = omega (arith, le, size_both x y)

-- what an item shows takes fewer bytes than its Kept
shown_small : (i : Item) → HasFrame (KeptRecord i) → size_of (shown_fields_within most_of_four (shown_kind i.deed) i.shown) < 4294967296
shown_small i framed =
    let shown = shown_fields_within most_of_four (shown_kind i.deed) i.shown in
    let deed = kept_deed_fields i.deed in
    let fields = record_fields (KeptRecord i) in
    let room : size_of shown ≤ size_of fields =
    size_behind (record_kind 10) (kept_fields i) (size_of shown)
    (size_behind (u32_field i.number) (moment_field i.at & actor_field i.by & u32_field i.rev & deed & shown) (size_of shown)
    (size_behind (moment_field i.at) (actor_field i.by & u32_field i.rev & deed & shown) (size_of shown)
    (size_behind (actor_field i.by) (u32_field i.rev & deed & shown) (size_of shown)
    (size_behind (u32_field i.rev) (deed & shown) (size_of shown) (size_behind deed shown (size_of shown) (omega arith)))))) in
    omega (arith, room, size_is fields, framed)

item_again : (house : House) (i : Item) → is_house house ≡ true → IsWellFormed house i → Fits i → HasFrame (KeptRecord i) → CanBeKeptAgain i
item_again house i is formed fits framed = again_spelled house i is formed fits (fit_shown i.deed i.shown formed.form fits.shows (shown_small i framed))

each_item : (house : House) (t : List Item) → is_house house ≡ true → AllByRecursion (IsWellFormed house) t → AllByRecursion Fits t → AllByRecursion (λ (i : Item). HasFrame (KeptRecord i) → CanBeKeptAgain i) t
each_item house [] is formed fits = tt
each_item house (i ∷ t) is formed fits = ((λ framed. item_again house i is formed.0 fits.0 framed), each_item house t is formed.1 fits.1)

pub each_again : (kept : Kept) → AllHold kept → AllByRecursion (λ (i : Item). HasFrame (KeptRecord i) → CanBeKeptAgain i) kept.timeline
each_again kept h = each_item kept.house kept.timeline h.sound.house h.sound.timeline.formed h.items

-- ---- a base

-- the entries of each mailbox are below a number
each_below : (next : ℕ) (rows : List (BoxId × Mailbox)) → list_all (is_entry_below next) (entries_of rows) ≡ true → AllByRecursion (λ (r : BoxId × Mailbox). list_all (is_entry_below next) r.1.entries ≡ true) rows
each_below next [] e = tt
each_below next (r ∷ rows) e =
    let both = sym (list_all-append (is_entry_below next) r.1.entries (entries_of rows)) ∙ e in (
      first_so (list_all (is_entry_below next) r.1.entries) (list_all (is_entry_below next) (entries_of rows)) both,
      each_below next rows (second_so (list_all (is_entry_below next) r.1.entries) (list_all (is_entry_below next) (entries_of rows)) both),
    )

-- the stamps name the mailboxes
each_named : (stamps : List (BoxId × ℕ)) (rows : List (BoxId × Mailbox)) → map (λ (r : BoxId × ℕ). r.0) stamps ≡ map (λ (r : BoxId × Mailbox). r.0) rows → AreRows rows → AllByRecursion (λ (r : BoxId × ℕ). IsName r.0.name) stamps
each_named [] rows same h = tt
each_named (s ∷ stamps) [] same h = absurd (cc same)
each_named (s ∷ stamps) (r ∷ rows) same h =
    let id : s.0 ≡ r.0 = cc same in
    let rest : map (λ (q : BoxId × ℕ). q.0) stamps ≡ map (λ (q : BoxId × Mailbox). q.0) rows = cc same in
    (subst (λ (b : BoxId). IsName b.name) (sym id) h.0.0, each_named stamps rows rest h.1)

-- what is tested of the parts of a base that can stand
record Parts (house : House) (next : ℕ) (conf : Conf) (rows : List (BoxId × Mailbox)) (stamps : List (BoxId × ℕ)) (reports : List (List ℕ × Report)) : Type 0 where
  few : next ≤ 4194304
  rows_are : list_all (is_row house) rows ≡ true
  aliases : list_all (λ (a : Alias). list_all (is_known house) a.users) conf.aliases ≡ true
  below : list_all (is_entry_below next) (entries_of rows) ≡ true
  stamped : list_all (λ (r : BoxId × ℕ). nat_lt r.1 next && is_known house r.0.user) stamps ≡ true
  told : list_all (λ (r : List ℕ × Report). list_all (is_known house) (users_told r.1)) reports ≡ true

parts_of : (house : House) (next : ℕ) (deep : Bool) (conf : Conf) (rows : List (BoxId × Mailbox)) (stamps : List (BoxId × ℕ)) (reports : List (List ℕ × Report)) → base_stands house (based_on next deep conf rows stamps reports) ≡ true
    → Parts house next conf rows stamps reports
parts_of house next deep conf rows stamps reports stands =
    let five = first_so (nat_le next 4194304 && makes_store house conf rows && once_each rows && list_all (is_entry_below next) (entries_of rows) && are_stamps house next stamps) (are_reports house reports) stands in
    let four = first_so (nat_le next 4194304 && makes_store house conf rows && once_each rows && list_all (is_entry_below next) (entries_of rows)) (are_stamps house next stamps) five in
    let three = first_so (nat_le next 4194304 && makes_store house conf rows && once_each rows) (list_all (is_entry_below next) (entries_of rows)) four in
    let two = first_so (nat_le next 4194304 && makes_store house conf rows) (once_each rows) three in
    let makes = second_so (nat_le next 4194304) (makes_store house conf rows) two in
    let fixed = first_so (is_house house && are_rows house rows && have_fixed house rows) (knows_aliases house conf) makes in
    let rows_can = second_so (is_house house) (are_rows house rows) (first_so (is_house house && are_rows house rows) (have_fixed house rows) fixed) in
    record {
      few = leb-true next 4194304 (first_so (nat_le next 4194304) (makes_store house conf rows) two);
      rows_are = second_so (is_rising rows) (list_all (is_row house) rows) (first_so (is_rising rows && list_all (is_row house) rows) (list_all (has_superiors rows) rows) rows_can);
      aliases = second_so (is_house house && are_rows house rows && have_fixed house rows) (knows_aliases house conf) makes;
      below = second_so (nat_le next 4194304 && makes_store house conf rows && once_each rows) (list_all (is_entry_below next) (entries_of rows)) four;
      stamped = second_so (is_rising stamps) (list_all (λ (r : BoxId × ℕ). nat_lt r.1 next && is_known house r.0.user) stamps)
          (second_so (nat_le next 4194304 && makes_store house conf rows && once_each rows && list_all (is_entry_below next) (entries_of rows)) (are_stamps house next stamps) five);
      told = second_so (is_by_key reports) (list_all (λ (r : List ℕ × Report). list_all (is_known house) (users_told r.1)) reports)
          (second_so (nat_le next 4194304 && makes_store house conf rows && once_each rows && list_all (is_entry_below next) (entries_of rows) && are_stamps house next stamps) (are_reports house reports) stands);
    }

-- the parts fit, and their tests hold
each_row : (house : House) (is : is_house house ≡ true) (next : ℕ) (few : next ≤ 4294967295) (rows : List (BoxId × Mailbox)) → AreRows rows → AllByRecursion (λ (r : BoxId × Mailbox). is_row house r ≡ true) rows
    → AllByRecursion (λ (r : BoxId × Mailbox). list_all (is_entry_below next) r.1.entries ≡ true) rows → AllByRecursion (λ (r : BoxId × Mailbox). r.1.next ≤ 18446744073709551615) rows → AllByRecursion (RowWell house is next few) rows
each_row house is next few [] a b c d = tt
each_row house is next few (r ∷ rows) a b c d = ((a.0, b.0, c.0, d.0), each_row house is next few rows a.1 b.1 c.1 d.1)

each_stamp : (house : House) (is : is_house house ≡ true) (next : ℕ) → next ≤ 4294967295 → (stamps : List (BoxId × ℕ)) → AllByRecursion (λ (r : BoxId × ℕ). IsName r.0.name) stamps → AllByRecursion (λ (r : BoxId × ℕ). r.1 < next) stamps
    → list_all (λ (r : BoxId × ℕ). nat_lt r.1 next && is_known house r.0.user) stamps ≡ true → AllByRecursion (λ (r : BoxId × ℕ). FitsStamp r × Known house is r.0.user) stamps
each_stamp house is next few [] named fresh e = tt
each_stamp house is next few (r ∷ stamps) named fresh e =
    let less : r.1 < next = fresh.0 in
    let first = first_so (nat_lt r.1 next && is_known house r.0.user) (list_all (λ (q : BoxId × ℕ). nat_lt q.1 next && is_known house q.0.user) stamps) e in (
      ((named.0, omega (arith, less, few)), second_so (nat_lt r.1 next) (is_known house r.0.user) first),
      each_stamp house is next few stamps named.1 fresh.1 (second_so (nat_lt r.1 next && is_known house r.0.user) (list_all (λ (q : BoxId × ℕ). nat_lt q.1 next && is_known house q.0.user) stamps) e),
    )

base_fits : (house : House) (is : is_house house ≡ true) (next : ℕ) (deep : Bool) (base : MailStore) (stamps : List (BoxId × ℕ)) (reports : List (List ℕ × Report)) → FitsStore base → UidsFit base → AllByRecursion FitsKeyed reports
    → AllByRecursion (λ (r : BoxId × ℕ). IsName r.0.name) stamps → AllByRecursion (λ (r : BoxId × ℕ). r.1 < next) stamps → Parts house next base.conf base.boxes stamps reports → HasFrame (BaseRecord next deep base.conf base.boxes stamps reports)
    → HasSpelling (BaseRecord next deep base.conf base.boxes stamps reports)
base_fits house is next deep base stamps reports fits uids told named fresh parts framed =
    let conf = base.conf in
    let le : next ≤ 4194304 = parts.few in
    let few : next ≤ 4294967295 = omega (arith, le) in
    let reported = any_list_fields keyed_report_fields reports in
    let stamped = any_list_fields stamp_fields stamps & reported in
    let mailboxes = any_list_fields row_fields base.boxes & stamped in
    let filters = any_list_fields (scoped_fields 0) conf.filters & mailboxes in
    let aliases = aliases_fields conf.aliases & filters in
    let rows = each_row house is next few base.boxes fits.rows (all_tested (is_row house) base.boxes parts.rows_are) (each_below next base.boxes parts.below) uids in
    let users = zipped FitsAlias (λ (a : Alias). list_all (is_known house) a.users ≡ true) conf.aliases fits.conf.aliases (all_tested (λ (a : Alias). list_all (is_known house) a.users) conf.aliases parts.aliases) in
    let tells = zipped FitsKeyed (λ (r : List ℕ × Report). list_all (is_known house) (users_told r.1) ≡ true) reports told (all_tested (λ (r : List ℕ × Report). list_all (is_known house) (users_told r.1)) reports parts.told) in
    let fields = record_fields (BaseRecord next deep conf base.boxes stamps reports) in
    let within : size_of fields < 4294967296 = omega (arith, framed, size_is fields) in
    fit_both (record_kind 8) (base_fields next deep conf base.boxes stamps reports) (λ small. record_kind_fits 8 (omega arith))
    (fit_both (u32_field next) (bool_field deep & aliases) (λ small. four_fits next few)
    (fit_both (bool_field deep) aliases (λ small. bool_fits deep)
    (fit_both (aliases_fields conf.aliases) filters (fit_aliases house is conf.aliases users)
    (fit_both (any_list_fields (scoped_fields 0) conf.filters) mailboxes (fit_filters house is conf.filters fits.conf.filters)
    (fit_both (any_list_fields row_fields base.boxes) stamped (fit_rows house is next few base.boxes rows)
    (fit_both (any_list_fields stamp_fields stamps) reported (fit_stamps house is stamps (each_stamp house is next few stamps named fresh parts.stamped)) (fit_reports house is reports tells)))))))
    within

-- of what records leave, cut at a place
pub base_again : MailIsKept → ((house : House) (conf : Conf) (boxes : List (BoxId × Mailbox)) → IsValid (store_of_rows house conf boxes) → makes_store house conf boxes ≡ true) → (kept : Kept) (place : ℕ) → AllHold kept → RevsBelow kept → CanBeCut kept
    → HasFrame (base_record (cut kept place)) → UidsFit (base_at kept place) → HasSpelling (base_record (cut kept place))
base_again mail makes kept place h revs can framed uids =
    let founded = cut_founded mail makes kept place h.sound revs can in
    let store : FitsStore (store_of kept) = subst FitsStore (sym h.sound.runs) (run_fits kept.base kept.timeline h.base h.items) in
    base_fits kept.house h.sound.house kept.next kept.deep (base_at kept place) kept.stamps kept.reports (run_fits kept.base (take place kept.timeline) h.base (all_taken Fits place kept.timeline h.items)) uids h.reports
    (each_named kept.stamps (store_of kept).boxes h.sound.named store.rows) h.sound.fresh
    (parts_of kept.house kept.next kept.deep (base_at kept place).conf (base_at kept place).boxes kept.stamps kept.reports founded.base) framed

-- ---- a cut

-- the payloads of the items, behind those of the texts
framed_items : (texts : BaseTexts) (t : List Item) → AllByRecursion IsPayload (payloads_of (map (λ (x : Body × List ℕ). TextRecord x.0 x.1) texts ++ map KeptRecord t)) → AllByRecursion (λ (i : Item). HasFrame (KeptRecord i)) t
framed_items [] [] framed = tt
framed_items [] (i ∷ t) framed = (framed.0, framed_items [] t framed.1)
framed_items (x ∷ texts) t framed = framed_items texts t framed.1

bare_again : (t : List Item) → AllByRecursion (λ (i : Item). HasFrame (KeptRecord i) → CanBeKeptAgain i) t → AllByRecursion (λ (i : Item). HasFrame (KeptRecord i)) t → AllByRecursion (λ (i : Item). HasSpelling (KeptRecord i)) (map bare_item t)
bare_again [] can framed = tt
bare_again (i ∷ t) can framed = (can.0 framed.0, bare_again t can.1 framed.1)

pub cut_again : (kept : Kept) (place : ℕ) → AllByRecursion (λ (i : Item). HasFrame (KeptRecord i) → CanBeKeptAgain i) kept.timeline → (HasFrame (base_record (cut kept place)) → HasSpelling (base_record (cut kept place)))
    → AllByRecursion IsPayload (payloads_of (cut_records kept place)) → CanBeWritten kept place
cut_again kept place items base framed = record {
  base = base framed.1.0;
  items = bare_again (drop place kept.timeline) (all_dropped (λ (i : Item). HasFrame (KeptRecord i) → CanBeKeptAgain i) place kept.timeline items) (framed_items (cut kept place).texts (drop place kept.timeline) framed.1.1);
  framed = framed;
}

-- and it can be written in no other case
pub only_again : (kept : Kept) (place : ℕ) → CanBeWritten kept place → UidsFit (base_at kept place)
only_again kept place can = (base_ranged kept.next kept.deep (base_at kept place).conf (base_at kept place).boxes kept.stamps kept.reports can.base).nexts
