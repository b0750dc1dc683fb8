-- What a journal's records leave has a store in the ranges of records.
use Rattle.std.proofs.Common.{◌≡◌, ℕ, zero, suc, ◌+◌, ◌-◌, ◌*◌, ◌<◌, ◌≤◌, Bool, true, false, cond, not, ◌&&◌, ◌||◌, ◌==◌, List, [], ◌∷◌, ◌++◌, length, map, take, drop, Option, None, Some, is_some, nat_le, nat_lt, refl, sym, ap, ◌∙◌, subst, arith, eqb-true, leb-true, ltb-true, length-append}
use Rattle.std.specs.Cmp.{first_so, second_so}
use Rattle.std.specs.List.{AllByRecursion, flat_map, list_all, list_any}
use Rattle.std.specs.Int.{w32}
use Rattle.std.specs.Prelude.{IsTrue, is_none, option_map}
use Rattle.std.specs.Option.{option_and_then}
use Rattle.std.proofs.lemmas.Bool.{and_parts}
use Rattle.std.proofs.lemmas.List.{length-drop, length-map, take-append-drop}
use Rattle.std.proofs.lemmas.List.Folds.{list_all-append}
use Rattle.undo_base.specs.declared.keys.Key.{Key}
use Rattle.undo_base.specs.declared.keys.User.{User}
use Rattle.undo_base.specs.Name.{IsName}
use Rattle.verb_core.specs.declared.conf.Conf.{Conf}
use Rattle.verb_core.specs.declared.conf.House.{House}
use Rattle.verb_core.specs.declared.mailbox.Body.{Body}
use Rattle.verb_core.specs.declared.mailbox.BoxId.{BoxId}
use Rattle.verb_core.specs.declared.mailbox.Entry.{Entry}
use Rattle.verb_core.specs.declared.mailbox.Mailbox.{Mailbox}
use Rattle.verb_core.specs.declared.item.Act.{Act}
use Rattle.verb_core.specs.declared.item.Act.TheVariants.{Give}
use Rattle.verb_core.specs.declared.item.Deed.{Deed}
use Rattle.verb_core.specs.declared.item.Deed.TheVariants.{Deliver, Append, Create, Rename, Act as Acts}
use Rattle.verb_core.specs.declared.item.Item.{Item}
use Rattle.verb_core.specs.declared.item.Shown.{Shown}
use Rattle.verb_core.specs.Deeds.{act_item, with_text}
use Rattle.verb_core.specs.Items.{has_form, keys_in}
use Rattle.verb_core.specs.Step.{run}
use Rattle.verb_core.specs.Store.{is_house}
use Rattle.verb_bytes.specs.declared.journal.CycleAsk.{CycleAsk}
use Rattle.verb_bytes.specs.declared.journal.JournalRecord.{JournalRecord}
use Rattle.verb_bytes.specs.declared.journal.JournalRecord.TheVariants.{Format, Verb, Operator, Cycle, Snapshot, Upgrade, Withdraw, Base as BaseRecord, Text as TextRecord, Kept as KeptRecord}
use Rattle.verb_bytes.specs.Fields.{Field, are_in_range, ◌&◌, actor_field, any_list_fields, bool_field, deed_kind_to, flags_field, key_field, moment_field, most_of_four, name_field, number_field, record_kind, u32_field, u64_field, user_field}
use Rattle.verb_bytes.specs.Fields as fields
use Rattle.verb_bytes.specs.Limits.{AreMany, IsKey}
use Rattle.verb_bytes.specs.Spelling.{aliases_fields, deed_fields_within, entry_fields, kept_deed_fields, keyed_report_fields, row_fields, scoped_fields, shown_fields_within, shown_kind, stamp_fields}
use Rattle.verb_bytes.proofs.Forms.{deed_ranged, no_rev}
use Rattle.verb_bytes.proofs.Puts.{number_in_range}
use Rattle.withdraw.specs.declared.undone.UndoneBehind.{UndoneBehind}
use Rattle.withdraw.specs.Unediting.{as_shown, shown_among, showing}
use Rattle.store_kept.specs.Founding.{Based, base_stands, based_on, can_be_kept, founded, is_whole, text_stands, with_item, with_text as with_text_of}
use Rattle.store_kept.specs.Kept.{Kept, Reports, new_desk, passed, performed, snapshotted, store_of, undone_as, undone_of, upgraded}
use Rattle.paradox.specs.Letters.{notices}
use Rattle.paradox.specs.declared.reports.BrokenItem.{BrokenItem}
use Rattle.paradox.specs.declared.reports.Report.{Report}
use Rattle.store_kept.specs.Kept.{report_of}
use Rattle.paradox.specs.Answers.{broken}
use Rattle.repair_desk.specs.Repairs.{inserted, is_dropped, kept, new_timeline, position, repaired, replaced_by, takes_text, text_asked}
use Rattle.repair_desk.proofs.Points.{within}
use Rattle.cycle_rules.specs.Asking.{NoNumbers, Rewinds, after_cycle, after_repair, cycle_due, due_anew, due_at, due_by, undone_at}
use Rattle.cycle_rules.specs.Cycles.{cycled_at, leaves_numbers, repair_of}
use Rattle.cycle_rules.specs.Repairing.{Repair, broken_in, compared_in, front_in, kept_in, leaves_numbers_for, notice_items, reworked, told_in}
use Rattle.cycle_rules.specs.Withdrawals.{after_withdrawal, restored_items, unedit_of, withdraw_due, withdraw_due_at, withdrawn_at}
use Rattle.cycle_rules.specs.Judging.{shown_after, shown_by}
use Rattle.mail_cycle.proofs.Cycled.{few_notices, length_shown}
use Rattle.desk_journal.proofs.Entering.{item_runs}
use Rattle.desk_journal.specs.Founding.{Fore, after_kept_item, after_text, based_by, fore_after, fore_of, kept_stands, own, settled_by}
use Rattle.desk_journal.proofs.Fronts.{first_alone, first_opens}
use Rattle.desk_journal.specs.Records.{after_due, after_kept, after_record, after_records, behind, can_follow, can_keep, can_rewind, first_fore, first_state, front, goes_on, is_behind, opening_state, settled, is_formed, is_spelled, is_true, state}
use Rattle.house_text.specs.Beginning.{can_begin}
use Rattle.dialog_laws.specs.Ranges.{IsKeeping, IsStored, IsStoredEntry, IsStoredRow, MakesNames, names_made}
use Rattle.kept_laws.proofs.Lists.{all_filtered, all_joined, all_mapped, either, filter_no_longer}
use Rattle.dialog_laws.proofs.Naming.{name_of_test}
use Rattle.cut_laws.proofs.Sizes.{few_users, opening_length}
use Rattle.dialog_laws.proofs.Steps.{opening_stored, run_stored}

-- ---- choices that are made

some_when : (b : Bool) (x y : Kept) → cond b (Some x) None ≡ Some y → (b ≡ true) × (x ≡ y)
some_when true x y e = (refl, cc)
some_when false x y e = cc

one_some : (x y : Kept) → ◌≡◌ {A = Option Kept} (Some x) (Some y) → x ≡ y
one_some x y e = cc

some_where : (b : Bool) (o : Option Kept) (y : Kept) → cond b o None ≡ Some y → (b ≡ true) × (o ≡ Some y)
some_where true o y e = (refl, e)
some_where false o y e = cc

-- ---- an item whose record has a spelling

parts : (a b : List Field) → are_in_range (a ++ b) ≡ true → (are_in_range a ≡ true) × (are_in_range b ≡ true)
unfolding are_in_range
parts a b e = and_parts (list_all (λ (f : Field). f.in_range) a) (list_all (λ (f : Field). f.in_range) b) (sym (list_all-append (λ (f : Field). f.in_range) a b) ∙ e)

name_ranged : (bytes : List ℕ) → are_in_range (name_field bytes) ≡ true → IsName bytes
unfolding name_field are_in_range
name_ranged bytes e = name_of_test bytes (first_so (fields.is_name bytes) true e)

names_ranged : (last most : ℕ) (d : Deed) → are_in_range (deed_fields_within last most d) ≡ true → AllByRecursion IsName (names_made d)
names_ranged last most (Create mailbox) e = (name_ranged mailbox (parts (deed_kind_to last 11) (name_field mailbox) e).1, tt)
names_ranged last most (Rename mailbox target) e = (name_ranged target (parts (name_field mailbox) (name_field target) (parts (deed_kind_to last 12) (name_field mailbox ++ name_field target) e).1).1, tt)
names_ranged last most _ e = tt

spelled_names : (i : Item) → is_spelled (Verb i) ≡ true → MakesNames i
spelled_names i e = names_ranged _ _ i.deed (deed_ranged i e)

spelled_rev : (i : Item) → is_spelled (Verb i) ≡ true → i.rev ≡ 0
spelled_rev i e = no_rev i e

-- what is known of an item that can follow
record Follows (k : Kept) (i : Item) : Type 0 where
  number : i.number ≡ k.next
  left : k.next < 4194304
  few : length (keys_in i.deed) ≤ 65536

follows : (k : Kept) (i : Item) → can_follow k i ≡ true → Follows k i
follows k i e =
    let p : (((i.number == k.next) && nat_lt k.next 4194304) ≡ true) × (is_formed k.house i ≡ true) = and_parts _ _ e in
    let q : ((i.number == k.next) ≡ true) × (nat_lt k.next 4194304 ≡ true) = and_parts _ _ p.0 in
    record {
      number = eqb-true i.number k.next q.0;
      left = ltb-true k.next 4194304 q.1;
      few = leb-true (length (keys_in i.deed)) 65536 (second_so _ (nat_le (length (keys_in i.deed)) 65536) (first_so _ (has_form i.deed i.shown) p.1));
    }

-- ---- what holds of whatever records leave

-- where so many items were kept at first, and the base has at most so many mailboxes
module _ (first boxes : ℕ) where
  -- What holds of what a cycle left to be withdrawn, where so many items are in force and this is the next number. No more items stood
  -- before the cycle than were kept at first and numbers were drawn by then. No more came behind it than numbers were drawn since.
  record ComesGood (count next : ℕ) (last : UndoneBehind) : Type 0 where
    keeping : AllByRecursion IsKeeping last.later
    before : last.position + length last.later ≤ first + last.cycle
    since : last.cycle + (count - last.placed) ≤ next

  abbrev ComesGoodIf : ℕ → ℕ → Option UndoneBehind → Type 0
  ComesGoodIf count next None = Unit {0}
  ComesGoodIf count next (Some last) = ComesGood count next last

  -- what holds of whatever a journal's records leave
  record IsGood (k : Kept) : Type 0 where
    stored : IsStored k.base
    rows : length k.base.boxes ≤ boxes
    accounts : length k.house.accounts ≤ 200
    runs : k.store ≡ run k.base k.timeline
    keeping : AllByRecursion IsKeeping k.timeline
    few : length k.timeline ≤ first + k.next
    next : k.next ≤ 4194304
    undone : ComesGoodIf (length k.timeline) k.next k.undone

  good_stored : (k : Kept) → IsGood k → length k.base.boxes + 200 * length k.timeline ≤ 4294967295 → IsStored (store_of k)
  good_stored k g room = subst IsStored (sym g.runs) (run_stored k.base k.timeline g.stored room g.keeping)

  -- one more item, and one more number
  comes_more : (few many next : ℕ) (o : Option UndoneBehind) → many ≤ few + 1 → ComesGoodIf few next o → ComesGoodIf many (next + 1) o
  comes_more few many next None le good = tt
  comes_more few many next (Some last) le good = record { keeping = good.keeping; before = good.before; since = omega (arith, le, good.since) }

  good_performed : (k : Kept) (i : Item) → IsGood k → Follows k i → i.rev ≡ 0 → MakesNames i → IsGood (performed k i)
  good_performed k i g f rev names =
      let number : i.number ≡ k.next = f.number in
      let left : k.next < 4194304 = f.left in
      let few : length k.timeline ≤ first + k.next = g.few in
      let long : length (k.timeline ++ i ∷ []) ≡ length k.timeline + length (i ∷ []) = length-append k.timeline (i ∷ []) in
      let whole : length (k.timeline ++ i ∷ []) ≤ first + (k.next + 1) = omega (arith, long, few) in
      let next : k.next + 1 ≤ 4194304 = omega (arith, left) in
      record {
        stored = g.stored;
        rows = g.rows;
        accounts = g.accounts;
        runs = item_runs k i g.runs;
        keeping = all_joined IsKeeping k.timeline (i ∷ []) g.keeping (record { number = omega (arith, number, left); rev = omega (arith, rev); few = f.few; names = names }, tt);
        few = whole;
        next = next;
        undone = comes_more (length k.timeline) (length (k.timeline ++ i ∷ [])) k.next k.undone (omega (arith, long)) g.undone;
      }

  -- ---- parts of a timeline

  all_taken : (n : ℕ) (xs : List Item) → AllByRecursion IsKeeping xs → AllByRecursion IsKeeping (take n xs)
  all_taken zero [] k = tt
  all_taken zero (x ∷ xs) k = tt
  all_taken (suc n) [] k = tt
  all_taken (suc n) (x ∷ xs) k = (k.0, all_taken n xs k.1)

  all_dropped : (n : ℕ) (xs : List Item) → AllByRecursion IsKeeping xs → AllByRecursion IsKeeping (drop n xs)
  all_dropped zero [] k = tt
  all_dropped zero (x ∷ xs) k = k
  all_dropped (suc n) [] k = tt
  all_dropped (suc n) (x ∷ xs) k = all_dropped n xs k.1

  taken_few : (n : ℕ) (xs : List Item) → length (take n xs) ≤ n
  taken_few zero [] = omega arith
  taken_few zero (x ∷ xs) = omega arith
  taken_few (suc n) [] = omega arith
  taken_few (suc n) (x ∷ xs) = let rest : length (take n xs) ≤ n = taken_few n xs in omega (arith, rest)

  -- ---- a cycle

  act_few : (act : Act) → length (keys_in (Acts act)) ≤ 65536
  act_few act = omega arith

  inserted_keeping : (number at : ℕ) (acts : List Act) → number + length acts ≤ 4294967295 → AllByRecursion IsKeeping (inserted number at acts)
  inserted_keeping number at [] le = tt
  inserted_keeping number at (act ∷ acts) le =
      (record { number = omega (arith, le); rev = omega arith; few = act_few act; names = tt }, inserted_keeping (number + 1) at acts (omega (arith, le)))

  length_inserted : (number at : ℕ) (acts : List Act) → length (inserted number at acts) ≡ length acts
  length_inserted number at [] = refl
  length_inserted number at (act ∷ acts) = ap suc (length_inserted (number + 1) at acts)

  told_keeping : (number at : ℕ) (ns : List (User × List ℕ)) → number + length ns ≤ 4294967295 → AllByRecursion IsKeeping (notice_items number at ns)
  told_keeping number at [] le = tt
  told_keeping number at (n ∷ ns) le =
      (record { number = omega (arith, le); rev = omega arith; few = omega arith; names = tt }, told_keeping (number + 1) at ns (omega (arith, le)))

  length_told : (number at : ℕ) (ns : List (User × List ℕ)) → length (notice_items number at ns) ≡ length ns
  length_told number at [] = refl
  length_told number at (n ∷ ns) = ap suc (length_told (number + 1) at ns)

  -- another text changes neither keys nor names
  text_keys : (text : List ℕ) (d : Deed) → length (keys_in d) ≤ 65536 → length (keys_in (with_text text d)) ≤ 65536
  text_keys text (Deliver from to old) h = h
  text_keys text (Append mailbox flags moment old) h = h
  text_keys text (Acts (Give u mailbox old)) h = h
  text_keys text _ h = h

  text_names : (text : List ℕ) (d : Deed) → AllByRecursion IsName (names_made d) → AllByRecursion IsName (names_made (with_text text d))
  text_names text (Create mailbox) h = h
  text_names text (Rename mailbox target) h = h
  text_names text (Acts (Give u mailbox old)) h = tt
  text_names text _ h = tt

  replaced_keeping : (c : ℕ) (i : Item) (o : Option (List ℕ)) → c ≤ 4194304 → IsKeeping i → IsKeeping (replaced_by c i o)
  replaced_keeping c i None le h = h
  replaced_keeping c i (Some text) le h =
      either IsKeeping (takes_text i.deed) (record i { rev = c; deed = with_text text i.deed }) i
      (record { number = h.number; rev = omega (arith, le); few = text_keys text i.deed h.few; names = text_names text i.deed h.names }) h

  repaired_keeping : (t : List Item) (ask : CycleAsk) (c at place : ℕ) → c ≤ 4194304 → c + length ask.inserts ≤ 4294967295 → AllByRecursion IsKeeping t → AllByRecursion IsKeeping (new_timeline t ask c at place)
  repaired_keeping t ask c at place le room h =
      all_joined IsKeeping (take place t ++ inserted c at ask.inserts) (map (repaired ask c) (kept ask (drop place t)))
      (all_joined IsKeeping (take place t) (inserted c at ask.inserts) (all_taken place t h) (inserted_keeping c at ask.inserts room))
      (all_mapped IsKeeping IsKeeping (repaired ask c) (λ i k. replaced_keeping c i (text_asked ask.replaces i.number) le k) (kept ask (drop place t))
      (all_filtered IsKeeping (λ (i : Item). not (is_dropped ask i)) (drop place t) (all_dropped place t h)))

  length_repaired : (t : List Item) (ask : CycleAsk) (c at place : ℕ) → length (new_timeline t ask c at place) ≤ length t + length ask.inserts
  length_repaired t ask c at place =
      let stay : List Item = kept ask (drop place t) in
      let a : length ((take place t ++ inserted c at ask.inserts) ++ map (repaired ask c) stay) ≡ length (take place t ++ inserted c at ask.inserts) + length (map (repaired ask c) stay) =
      length-append (take place t ++ inserted c at ask.inserts) (map (repaired ask c) stay) in
      let b : length (take place t ++ inserted c at ask.inserts) ≡ length (take place t) + length (inserted c at ask.inserts) = length-append (take place t) (inserted c at ask.inserts) in
      let d : length (inserted c at ask.inserts) ≡ length ask.inserts = length_inserted c at ask.inserts in
      let e : length (map (repaired ask c) stay) ≡ length stay = length-map stay (repaired ask c) in
      let f : length stay ≤ length (drop place t) = filter_no_longer (λ (i : Item). not (is_dropped ask i)) (drop place t) in
      let g : length (take place t ++ drop place t) ≡ length (take place t) + length (drop place t) = length-append (take place t) (drop place t) in
      let h : length (take place t ++ drop place t) ≡ length t = ap (λ (xs : List Item). length xs) (take-append-drop place t) in
      omega (arith, a, b, d, e, f, g, h)

  shown_keeping : (i : Item) (now : List Shown) → IsKeeping i → IsKeeping (shown_by i now)
  shown_keeping i [] h = h
  shown_keeping i (now ∷ rest) h = either IsKeeping (is_some (broken i now)) (record i { shown = now }) i (record { number = h.number; rev = h.rev; few = h.few; names = h.names }) h

  after_keeping : (front : ℕ) (t : List Item) (now : List Shown) → AllByRecursion IsKeeping t → AllByRecursion IsKeeping (shown_after front t now)
  after_keeping front [] now h = tt
  after_keeping zero (i ∷ is) now h = (shown_keeping i now h.0, after_keeping zero is (drop 1 now) h.1)
  after_keeping (suc front) (i ∷ is) now h = (h.0, after_keeping front is now h.1)

  -- what a repair leaves, of items that keep a store so and are no more than the numbers drawn and the acts that come in
  good_reworked : (k : Kept) (at : ℕ) (key : List ℕ) (repair : Repair) (undone : Option UndoneBehind) → IsGood k → leaves_numbers_for k repair.acts ≡ true
      → AllByRecursion IsKeeping repair.items → length repair.items ≤ first + (k.next + repair.acts)
      → ((told : ℕ) → ComesGoodIf (length repair.items + told) (k.next + 1 + repair.acts + told) undone) → IsGood (after_repair k key (reworked k at repair) undone)
  good_reworked k at key repair undone g leaves keeping many comes =
      let room : k.next + 1 + repair.acts + length k.house.accounts ≤ 4194303 = leb-true (k.next + 1 + repair.acts + length k.house.accounts) 4194303 leaves in
      let list : List BrokenItem = broken_in k repair in
      let ns : List (User × List ℕ) = notices k.house k.next at list in
      let users : length ns ≤ length k.house.accounts = few_notices k.house k.next at list in
      let told : length (told_in k at repair) ≡ length ns = length_told (k.next + repair.acts) at ns in
      let shown : length (kept_in k repair) ≡ length repair.items = length_shown (front_in repair) repair.items (compared_in k repair) in
      let long : length (kept_in k repair ++ told_in k at repair) ≡ length (kept_in k repair) + length (told_in k at repair) = length-append (kept_in k repair) (told_in k at repair) in
      let count : length repair.items + length (told_in k at repair) ≡ length (kept_in k repair ++ told_in k at repair) = omega (arith, shown, long) in
      let whole : length (kept_in k repair ++ told_in k at repair) ≤ first + (k.next + 1 + repair.acts + length (told_in k at repair)) = omega (arith, many, count) in
      let next : k.next + 1 + repair.acts + length (told_in k at repair) ≤ 4194304 = omega (arith, told, users, room) in
      record {
        stored = g.stored;
        rows = g.rows;
        accounts = g.accounts;
        runs = refl;
        keeping = all_joined IsKeeping (kept_in k repair) (told_in k at repair) (after_keeping (front_in repair) repair.items (compared_in k repair) keeping)
            (told_keeping (k.next + repair.acts) at ns (omega (arith, room, users)));
        few = whole;
        next = next;
        undone = subst (λ (n : ℕ). ComesGoodIf n (k.next + 1 + repair.acts + length (told_in k at repair)) undone) count (comes (length (told_in k at repair)));
      }

  drawn_since : (next items acts told : ℕ) → next + (items + told - items) ≤ next + 1 + acts + told
  drawn_since next items acts told = omega arith

  good_cycled : (k : Kept) (ask : CycleAsk) (at place : ℕ) → IsGood k → place ≤ length k.timeline → leaves_numbers k ask ≡ true → IsGood (after_cycle k ask (cycled_at k at ask place))
  good_cycled k ask at place g le leaves =
      let room : k.next + 1 + length ask.inserts + length k.house.accounts ≤ 4194303 = leb-true (k.next + 1 + length ask.inserts + length k.house.accounts) 4194303 leaves in
      let repairs : length (new_timeline k.timeline ask k.next at place) ≤ length k.timeline + length ask.inserts = length_repaired k.timeline ask k.next at place in
      let few : length k.timeline ≤ first + k.next = g.few in
      let later : length (drop place k.timeline) ≡ length k.timeline - place = length-drop place k.timeline in
      let before : place + length (drop place k.timeline) ≤ first + k.next = omega (arith, later, le, few) in
      let items : List Item = new_timeline k.timeline ask k.next at place in
      good_reworked k at ask.key (repair_of k at ask place) (Some (undone_at k ask place (length items))) g leaves
      (repaired_keeping k.timeline ask k.next at place g.next (omega (arith, room)) g.keeping) (omega (arith, repairs, few))
      (λ told. record { keeping = all_dropped place k.timeline g.keeping; before = before; since = drawn_since k.next (length items) (length ask.inserts) told })

  -- ---- a withdrawal

  showing_keeping : (i : Item) (o : Option Shown) → IsKeeping i → IsKeeping (showing i o)
  showing_keeping i None h = h
  showing_keeping i (Some shown) h = record { number = h.number; rev = h.rev; few = h.few; names = h.names }

  restored_keeping : (k : Kept) (last : UndoneBehind) → AllByRecursion IsKeeping k.timeline → AllByRecursion IsKeeping last.later → AllByRecursion IsKeeping (restored_items k last)
  restored_keeping k last h back =
      let present : List Item = drop last.position k.timeline in
      let front : List Item = take last.position k.timeline in
      let later : List Item = map (as_shown present) last.later in
      all_joined IsKeeping (front ++ later) (drop last.placed k.timeline)
      (all_joined IsKeeping front later (all_taken last.position k.timeline h)
      (all_mapped IsKeeping IsKeeping (as_shown present) (λ i keeps. showing_keeping i (shown_among present i.number) keeps) last.later back))
      (all_dropped last.placed k.timeline h)

  length_restored : (k : Kept) (last : UndoneBehind) → length (restored_items k last) ≤ last.position + length last.later + (length k.timeline - last.placed)
  length_restored k last =
      let front : List Item = take last.position k.timeline in
      let later : List Item = map (as_shown (drop last.position k.timeline)) last.later in
      let rest : List Item = drop last.placed k.timeline in
      let a : length ((front ++ later) ++ rest) ≡ length (front ++ later) + length rest = length-append (front ++ later) rest in
      let b : length (front ++ later) ≡ length front + length later = length-append front later in
      let d : length front ≤ last.position = taken_few last.position k.timeline in
      let e : length later ≡ length last.later = length-map last.later (as_shown (drop last.position k.timeline)) in
      let f : length rest ≡ length k.timeline - last.placed = length-drop last.placed k.timeline in
      omega (arith, a, b, d, e, f)

  good_withdrawn : (k : Kept) (at : ℕ) (key : List ℕ) (last : UndoneBehind) → IsGood k → ComesGood (length k.timeline) k.next last → leaves_numbers_for k 0 ≡ true → IsGood (after_withdrawal k key (withdrawn_at k at last))
  good_withdrawn k at key last g comes leaves =
      let many : length (restored_items k last) ≤ last.position + length last.later + (length k.timeline - last.placed) = length_restored k last in
      let before : last.position + length last.later ≤ first + last.cycle = comes.before in
      let since : last.cycle + (length k.timeline - last.placed) ≤ k.next = comes.since in
      good_reworked k at key (unedit_of k last) None g leaves (restored_keeping k last g.keeping comes.keeping) (omega (arith, many, before, since)) (λ told. tt)

  none_is : (k : Kept) → ◌≡◌ {A = Option Kept} None (Some k) → ⊥
  none_is k e = cc

  at_place : (k : Kept) (at : ℕ) (ask : CycleAsk) (o : Option ℕ) (new : Kept) → IsGood k → position k.timeline ask.point ≡ o → after_due (after_cycle k ask) (due_at k at ask o) ≡ Some new → IsGood new
  at_place k at ask None new g found e = absurd (none_is new e)
  at_place k at ask (Some place) new g found e = by (leaves_numbers k ask) refl e
    where
      by : (b : Bool) → leaves_numbers k ask ≡ b → after_due (after_cycle k ask) (cond b (Rewinds (cycled_at k at ask place)) NoNumbers) ≡ Some new → IsGood new
      by true is same = subst IsGood (one_some (after_cycle k ask (cycled_at k at ask place)) new same) (good_cycled k ask at place g (within k.timeline ask.point place found) is)
      by false is same = absurd (none_is new same)

  due_good : (k : Kept) (at : ℕ) (ask : CycleAsk) (o : Option Report) (new : Kept) → IsGood k → after_due (after_cycle k ask) (due_by o (due_anew k at ask)) ≡ Some new → IsGood new
  due_good k at ask None new g e = at_place k at ask (position k.timeline ask.point) new g refl e
  due_good k at ask (Some report) new g e = absurd (none_is new e)

  -- what the cycle of a number left is what the last one left
  last_good : (count next of : ℕ) (o : Option UndoneBehind) (last : UndoneBehind) → ComesGoodIf count next o → option_and_then (undone_as of) o ≡ Some last → ComesGood count next last
  last_good count next of None last good e = absurd (cc e)
  last_good count next of (Some one) last good e = by (one.cycle == of) e
    where
      by : (b : Bool) → cond b (Some one) None ≡ Some last → ComesGood count next last
      by true same = subst (ComesGood count next) (let is : one ≡ last = cc same in is) good
      by false same = absurd (cc same)

  at_last : (k : Kept) (at of : ℕ) (key : List ℕ) (o : Option UndoneBehind) (new : Kept) → IsGood k → undone_of k of ≡ o → after_due (after_withdrawal k key) (withdraw_due_at k at o) ≡ Some new → IsGood new
  at_last k at of key None new g found e = absurd (none_is new e)
  at_last k at of key (Some last) new g found e = by (leaves_numbers_for k 0) refl e
    where
      by : (b : Bool) → leaves_numbers_for k 0 ≡ b → after_due (after_withdrawal k key) (cond b (Rewinds (withdrawn_at k at last)) NoNumbers) ≡ Some new → IsGood new
      by true is same =
          subst IsGood (one_some (after_withdrawal k key (withdrawn_at k at last)) new same) (good_withdrawn k at key last g (last_good (length k.timeline) k.next of k.undone last g.undone found) is)
      by false is same = absurd (none_is new same)

  taken_back_good : (k : Kept) (at of : ℕ) (key : List ℕ) (o : Option Report) (new : Kept) → IsGood k → after_due (after_withdrawal k key) (due_by o (withdraw_due_at k at (undone_of k of))) ≡ Some new → IsGood new
  taken_back_good k at of key None new g e = at_last k at of key (undone_of k of) new g refl e
  taken_back_good k at of key (Some report) new g e = absurd (none_is new e)

  -- ---- one record, and all

  record_good : (k : Kept) (r : JournalRecord) (new : Kept) → IsGood k → after_record k r ≡ Some new → IsGood new
  record_good k (Verb i) new g e =
      let s = some_when (is_spelled (Verb i) && can_follow k i) (performed k i) new e in
      let p = and_parts (is_spelled (Verb i)) (can_follow k i) s.0 in
      subst IsGood s.1 (good_performed k i g (follows k i p.1) (spelled_rev i p.0) (spelled_names i p.0))
  record_good k (Operator number at act) new g e =
      let i : Item = act_item number at act in
      let s = some_when (is_spelled (Operator number at act) && can_follow k i) (performed k i) new e in
      let p = and_parts (is_spelled (Operator number at act)) (can_follow k i) s.0 in
      subst IsGood s.1 (good_performed k i g (follows k i p.1) refl tt)
  record_good k (Cycle number at ask) new g e =
      due_good k at ask (report_of k.reports ask.key) new g (some_where (is_spelled (Cycle number at ask) && can_rewind k number ask) (after_due (after_cycle k ask) (cycle_due k at ask)) new e).1
  record_good k (Snapshot items conf rows) new g e =
      let s = some_when (is_spelled (Snapshot items conf rows) && can_keep k items conf rows) (after_kept k (Snapshot items conf rows)) new e in
      subst IsGood s.1
      (either IsGood (is_true k (Snapshot items conf rows)) (snapshotted k) (record k { marks = passed k.marks })
      (record { stored = g.stored; rows = g.rows; accounts = g.accounts; runs = g.runs; keeping = g.keeping; few = g.few; next = g.next; undone = g.undone })
      (record { stored = g.stored; rows = g.rows; accounts = g.accounts; runs = g.runs; keeping = g.keeping; few = g.few; next = g.next; undone = g.undone }))
  record_good k (Upgrade at) new g e =
      let s = some_when (is_spelled (Upgrade at) && not k.deep) (upgraded k) new e in
      subst IsGood s.1 (record { stored = g.stored; rows = g.rows; accounts = g.accounts; runs = g.runs; keeping = g.keeping; few = g.few; next = g.next; undone = g.undone })
  record_good k (Withdraw number at key of) new g e =
      taken_back_good k at of key (report_of k.reports key) new g
      (some_where (is_spelled (Withdraw number at key of) && (number == k.next)) (after_due (after_withdrawal k key) (withdraw_due k at key of)) new e).1
  record_good k _ new g e = absurd (none_is new e)

  records_good : (k : Kept) (rs : List JournalRecord) (new : Kept) → IsGood k → after_records k rs ≡ Some new → IsGood new
  records_good k [] new g e = subst IsGood (one_some k new e) g
  records_good k (r ∷ rs) new g e = by (after_record k r) refl e (λ next h. records_good next rs new h)
    where
      by : (o : Option Kept) → after_record k r ≡ o → option_and_then (λ next. after_records next rs) o ≡ Some new → ((next : Kept) → IsGood next → after_records next rs ≡ Some new → IsGood new) → IsGood new
      by None is same more = absurd (none_is new same)
      by (Some next) is same more = more next (record_good k r next g is) same

-- ---- what stands in the ranges of records

many_ranged : {A : Type 0} (F : A → List Field) (P : A → Type 0) → ((x : A) → are_in_range (F x) ≡ true → P x) → (xs : List A) → are_in_range (flat_map F xs) ≡ true → AllByRecursion P xs
many_ranged F P one [] e = tt
many_ranged F P one (x ∷ xs) e = let both = parts (F x) (flat_map F xs) e in (one x both.0, many_ranged F P one xs both.1)

key_ranged : (k : Key) → are_in_range (key_field k) ≡ true → IsKey k
unfolding key_field are_in_range
key_ranged k e =
    let both = and_parts (nat_lt k.item 4294967296) (nat_lt k.index 65536) (first_so (nat_lt k.item 4294967296 && nat_lt k.index 65536) true e) in
    (ltb-true k.item 4294967296 both.0, ltb-true k.index 65536 both.1)

entry_ranged : (e : Entry) → are_in_range (entry_fields e) ≡ true → IsStoredEntry e
entry_ranged e h =
    let from_key = parts (u64_field e.uid) (key_field e.key & u32_field e.body.origin & u32_field e.body.rev & flags_field e.flags & moment_field e.at) h in
    let from_origin = parts (key_field e.key) (u32_field e.body.origin & u32_field e.body.rev & flags_field e.flags & moment_field e.at) from_key.1 in
    let from_rev = parts (u32_field e.body.origin) (u32_field e.body.rev & flags_field e.flags & moment_field e.at) from_origin.1 in
    let rev = parts (u32_field e.body.rev) (flags_field e.flags & moment_field e.at) from_rev.1 in
    (key_ranged e.key from_origin.0, number_in_range w32 most_of_four e.body.rev rev.0)

row_ranged : (r : BoxId × Mailbox) → are_in_range (row_fields r) ≡ true → IsStoredRow r
row_ranged r h =
    let from_name = parts (user_field r.0.user) (name_field r.0.name & u64_field r.1.next & any_list_fields entry_fields r.1.entries) h in
    let from_next = parts (name_field r.0.name) (u64_field r.1.next & any_list_fields entry_fields r.1.entries) from_name.1 in
    let from_entries = parts (u64_field r.1.next) (any_list_fields entry_fields r.1.entries) from_next.1 in
    let entries = parts (number_field w32 most_of_four (length r.1.entries)) (flat_map entry_fields r.1.entries) from_entries.1 in
    (name_ranged r.0.name from_next.0, many_ranged entry_fields IsStoredEntry entry_ranged r.1.entries entries.1)

rows_ranged : (rows : List (BoxId × Mailbox)) → are_in_range (any_list_fields row_fields rows) ≡ true → AreMany IsStoredRow rows
rows_ranged rows h =
    let both = parts (number_field w32 most_of_four (length rows)) (flat_map row_fields rows) h in
    record { each = many_ranged row_fields IsStoredRow row_ranged rows both.1; few = number_in_range w32 most_of_four (length rows) both.0 }

-- the mailboxes of a base
base_rows : (next : ℕ) (deep : Bool) (conf : Conf) (rows : List (BoxId × Mailbox)) (stamps : List (BoxId × ℕ)) (reports : Reports) → is_spelled (BaseRecord next deep conf rows stamps reports) ≡ true → AreMany IsStoredRow rows
base_rows next deep conf rows stamps reports h =
    let aliases = aliases_fields conf.aliases in
    let filters = any_list_fields (scoped_fields 0) conf.filters in
    let mailboxes = any_list_fields row_fields rows in
    let last = any_list_fields stamp_fields stamps & any_list_fields keyed_report_fields reports in
    let from_next = parts (record_kind 8) (u32_field next & bool_field deep & aliases & filters & mailboxes & last) h in
    let from_deep = parts (u32_field next) (bool_field deep & aliases & filters & mailboxes & last) from_next.1 in
    let from_aliases = parts (bool_field deep) (aliases & filters & mailboxes & last) from_deep.1 in
    let from_filters = parts aliases (filters & mailboxes & last) from_aliases.1 in
    let from_rows = parts filters (mailboxes & last) from_filters.1 in
    rows_ranged rows (parts mailboxes last from_rows.1).0

-- the deed of an item that is kept
kept_names : (i : Item) → is_spelled (KeptRecord i) ≡ true → MakesNames i
kept_names i h =
    let shown = shown_fields_within most_of_four (shown_kind i.deed) i.shown in
    let fields = kept_deed_fields i.deed & shown in
    let from_number = parts (record_kind 10) (u32_field i.number & moment_field i.at & actor_field i.by & u32_field i.rev & fields) h in
    let from_at = parts (u32_field i.number) (moment_field i.at & actor_field i.by & u32_field i.rev & fields) from_number.1 in
    let from_by = parts (moment_field i.at) (actor_field i.by & u32_field i.rev & fields) from_at.1 in
    let from_rev = parts (actor_field i.by) (u32_field i.rev & fields) from_by.1 in
    let from_deed = parts (u32_field i.rev) fields from_rev.1 in
    names_ranged _ _ i.deed (parts (kept_deed_fields i.deed) shown from_deed.1).0

-- ---- what a journal opens with

-- a base with what stands behind it, as far as it was read
record FoundGood (b : Based) : Type 0 where
  stored : AreMany IsStoredRow b.rows
  keeping : AllByRecursion IsKeeping b.items
  next : b.next ≤ 4194304

abbrev FoundIf : Option Based → Type 0
FoundIf None = Unit {0}
FoundIf (Some b) = FoundGood b

record ForeGood (f : Fore) : Type 0 where
  house : IsTrue (is_house f.house)
  first : f.house.first ≤ 4194303
  based : FoundIf f.based

some_based : (b : Bool) (x y : Based) → cond b (Some x) None ≡ Some y → (b ≡ true) × (x ≡ y)
some_based true x y e = (refl, cc)
some_based false x y e = cc

base_good : (f : Fore) (next : ℕ) (deep : Bool) (conf : Conf) (rows : List (BoxId × Mailbox)) (stamps : List (BoxId × ℕ)) (reports : Reports) (b : Based) → based_by f (BaseRecord next deep conf rows stamps reports) ≡ Some b → FoundGood b
base_good f next deep conf rows stamps reports b e =
    let new = based_on next deep conf rows stamps reports in
    let what = BaseRecord next deep conf rows stamps reports in
    let s = some_based (is_spelled what && is_none f.based && base_stands f.house new) new b e in
    let p = and_parts (is_spelled what && is_none f.based) (base_stands f.house new) s.0 in
    let q = and_parts (is_spelled what) (is_none f.based) p.0 in
    let le = first_so (nat_le next 4194304) _ (first_so _ _ (first_so _ _ (first_so _ _ (first_so _ _ p.1)))) in
    subst FoundGood s.1 (record { stored = base_rows next deep conf rows stamps reports q.0; keeping = tt; next = leb-true next 4194304 le })

text_good : (what : JournalRecord) (body : Body) (text : List ℕ) (old : Option Based) (b : Based) → FoundIf old → option_and_then (after_text what body text) old ≡ Some b → FoundGood b
text_good what body text None b g e = absurd (cc e)
text_good what body text (Some a) b g e =
    let s = some_based (is_spelled what && text_stands a body) (with_text_of a body text) b e in
    subst FoundGood s.1 (record { stored = g.stored; keeping = g.keeping; next = g.next })

item_good : (house : House) (i : Item) (a : Based) → FoundGood a → is_spelled (KeptRecord i) ≡ true → kept_stands house a i ≡ true → FoundGood (with_item a i)
item_good house i a g spelled stands =
    let p = and_parts (is_formed house i) (can_be_kept a i) stands in
    let below = and_parts (nat_lt i.number a.next) (nat_lt i.rev a.next) (first_so _ _ (first_so _ _ p.1)) in
    let number : i.number < a.next = ltb-true i.number a.next below.0 in
    let rev : i.rev < a.next = ltb-true i.rev a.next below.1 in
    let next : a.next ≤ 4194304 = g.next in
    record {
      stored = g.stored;
      keeping = all_joined IsKeeping a.items (i ∷ []) g.keeping (
        record {
          number = omega (arith, number, next);
          rev = omega (arith, rev, next);
          few = leb-true (length (keys_in i.deed)) 65536 (second_so _ (nat_le (length (keys_in i.deed)) 65536) (first_so _ (has_form i.deed i.shown) p.0));
          names = kept_names i spelled;
        },
        tt,
      );
      next = g.next;
    }

kept_good : (house : House) (i : Item) (old : Option Based) (b : Based) → FoundIf old → option_and_then (after_kept_item house (KeptRecord i) i) old ≡ Some b → FoundGood b
kept_good house i None b g e = absurd (cc e)
kept_good house i (Some a) b g e =
    let s = some_based (is_spelled (KeptRecord i) && kept_stands house a i) (with_item a i) b e in
    let p = and_parts (is_spelled (KeptRecord i)) (kept_stands house a i) s.0 in
    subst FoundGood s.1 (item_good house i a g p.0 p.1)

based_good : (f : Fore) (r : JournalRecord) (b : Based) → ForeGood f → based_by f r ≡ Some b → FoundGood b
based_good f (BaseRecord next deep conf rows stamps reports) b g e = base_good f next deep conf rows stamps reports b e
based_good f (TextRecord body text) b g e = text_good (TextRecord body text) body text f.based b g.based e
based_good f (KeptRecord i) b g e = kept_good f.house i f.based b g.based e
based_good f _ b g e = absurd (cc e)

own_good : (f g : Fore) (r : JournalRecord) → ForeGood f → own f r ≡ Some g → ForeGood g
own_good f g r good e = by (based_by f r) refl e
  where
    by : (o : Option Based) → based_by f r ≡ o → option_map (λ (b : Based). record f { based = Some b }) o ≡ Some g → ForeGood g
    by None is e = absurd (cc e)
    by (Some b) is e = let same : record f { based = Some b } ≡ g = cc e in subst ForeGood same (record { house = good.house; first = good.first; based = based_good f r b good is })

fore_good : (f g : Fore) (rs : List JournalRecord) → ForeGood f → fore_after f rs ≡ Some g → ForeGood g
fore_good f g [] good e = let same : f ≡ g = cc e in subst ForeGood same good
fore_good f g (r ∷ rs) good e = by (own f r) refl e (λ next h. fore_good next g rs h)
  where
    by : (o : Option Fore) → own f r ≡ o → option_and_then (λ next. fore_after next rs) o ≡ Some g → ((next : Fore) → ForeGood next → fore_after next rs ≡ Some g → ForeGood g) → ForeGood g
    by None is e more = absurd (cc e)
    by (Some next) is e more = more next (own_good f next r good is) e

format_good : (r : JournalRecord) (f : Fore) → first_fore r ≡ Some f → ForeGood f
format_good (Format house conf) f e = by (is_spelled (Format house conf)) (can_begin house conf) refl e
  where
    made : can_begin house conf ≡ true → ForeGood (record { house = house; opening = conf; based = None })
    made begins =
        let is : is_house house ≡ true = first_so _ _ (first_so _ _ (first_so _ _ (first_so _ _ (first_so _ _ (first_so _ _ begins))))) in
        record { house = is; first = leb-true house.first 4194303 (second_so _ (nat_le house.first 4194303) is); based = tt }

    by : (spelled begins : Bool) → can_begin house conf ≡ begins → cond (spelled && begins) (Some (record { house = house; opening = conf; based = None })) None ≡ Some f → ForeGood f
    by true true is e = let same : record { house = house; opening = conf; based = None } ≡ f = cc e in subst ForeGood same (made is)
    by true false is e = absurd (cc e)
    by false begins is e = absurd (cc e)
format_good _ f e = absurd (cc e)

opened_fore : (records : List JournalRecord) (f : Fore) → fore_of records ≡ Some f → ForeGood f
opened_fore [] f e = absurd (cc e)
opened_fore (r ∷ rs) f e = by (first_fore r) refl e
  where
    by : (o : Option Fore) → first_fore r ≡ o → option_and_then (λ g. fore_after g rs) o ≡ Some f → ForeGood f
    by None is e = absurd (cc e)
    by (Some g) is e = fore_good g f rs (format_good r g is) e

-- what is left of a Format alone
desk_good : (house : House) (conf : Conf) → IsTrue (is_house house) → house.first ≤ 4194303 → IsGood 0 400 (new_desk house conf)
desk_good house conf is first = record {
  stored = opening_stored house conf is;
  rows = opening_length house conf is;
  accounts = few_users house is;
  runs = refl;
  keeping = tt;
  few = omega arith;
  next = omega (arith, first);
  undone = tt;
}

-- and of a base
based_desk : (house : House) (conf : Conf) (b : Based) → IsTrue (is_house house) → FoundGood b → IsGood (length b.items) (length b.rows) (founded house conf b)
based_desk house conf b is g = record {
  stored = g.stored;
  rows = omega arith;
  accounts = few_users house is;
  runs = refl;
  keeping = g.keeping;
  few = omega arith;
  next = g.next;
  undone = tt;
}

-- it is good with some such numbers
record SomeGood (k : Kept) : Type 0 where
  first : ℕ
  boxes : ℕ
  good : IsGood first boxes k

settled_good : (house : House) (conf : Conf) (o : Option Based) (k : Kept) → IsTrue (is_house house) → house.first ≤ 4194303 → FoundIf o → settled_by house conf o ≡ Some k → SomeGood k
settled_good house conf None k is first g e = let same : new_desk house conf ≡ k = cc e in subst SomeGood same (record { first = 0; boxes = 400; good = desk_good house conf is first })
settled_good house conf (Some b) k is first g e = by (is_whole house b) e
  where
    by : (t : Bool) → cond t (Some (founded house conf b)) None ≡ Some k → SomeGood k
    by true e = let same : founded house conf b ≡ k = cc e in subst SomeGood same (record { first = length b.items; boxes = length b.rows; good = based_desk house conf b is g })
    by false e = absurd (cc e)

front_good : (records : List JournalRecord) (k : Kept) → opening_state records ≡ Some k → SomeGood k
front_good records k e = by (fore_of records) refl e
  where
    by : (o : Option Fore) → fore_of records ≡ o → option_and_then settled o ≡ Some k → SomeGood k
    by None is e = absurd (cc e)
    by (Some f) is e = let g = opened_fore records f is in settled_good f.house f.opening f.based k g.house g.first g.based e

-- ---- all of them

pub journal_stored : (records : List JournalRecord) (new : Kept) → state records ≡ Some new → length new.base.boxes + 200 * length new.timeline ≤ 4294967295 → IsStored (store_of new)
journal_stored records new e room = by (opening_state (front records)) refl e
  where
    by : (o : Option Kept) → opening_state (front records) ≡ o → option_and_then (λ k. after_records k (behind records)) o ≡ Some new → IsStored (store_of new)
    by None is same = absurd (cc same)
    by (Some k) is same =
        let g = front_good (front records) k is in
        good_stored g.first g.boxes new (records_good g.first g.boxes k (behind records) new g.good same) room

-- a journal without a base
alone : (rs : List JournalRecord) → list_any goes_on rs ≡ false → is_behind rs ≡ true
alone [] none = refl
alone (r ∷ rs) none = by (goes_on r) none
  where
    by : (b : Bool) → (b || list_any goes_on rs) ≡ false → not b ≡ true
    by true none = absurd (cc none)
    by false none = refl

rest_none : (r : JournalRecord) (rs : List JournalRecord) → list_any goes_on (r ∷ rs) ≡ false → list_any goes_on rs ≡ false
rest_none r rs none = by (goes_on r) none
  where
    by : (b : Bool) → (b || list_any goes_on rs) ≡ false → list_any goes_on rs ≡ false
    by true none = absurd (cc none)
    by false none = none

first_good : (r : JournalRecord) (k : Kept) → first_state r ≡ Some k → IsGood 0 400 k
first_good r k e = by (first_fore r) refl e
  where
    plain : (f : Fore) → first_fore r ≡ Some f → f.based ≡ None
    plain f is = based_none r f is
      where
        based_none : (r : JournalRecord) (f : Fore) → first_fore r ≡ Some f → f.based ≡ None
        based_none (Format house conf) f is = by (is_spelled (Format house conf) && can_begin house conf) is
          where
            by : (b : Bool) → cond b (Some (record { house = house; opening = conf; based = None })) None ≡ Some f → f.based ≡ None
            by true e = let same : record { house = house; opening = conf; based = None } ≡ f = cc e in ap (λ (g : Fore). g.based) (sym same)
            by false e = absurd (cc e)
        based_none _ f is = absurd (cc is)

    of : (f : Fore) (o : Option Based) → f.based ≡ o → o ≡ None → ForeGood f → settled_by f.house f.opening o ≡ Some k → IsGood 0 400 k
    of f None is none g e = let same : new_desk f.house f.opening ≡ k = cc e in subst (IsGood 0 400) same (desk_good f.house f.opening g.house g.first)
    of f (Some b) is none g e = absurd (cc none)

    by : (o : Option Fore) → first_fore r ≡ o → option_and_then settled o ≡ Some k → IsGood 0 400 k
    by None is e = absurd (cc e)
    by (Some f) is e = of f f.based refl (plain f is) (format_good r f is) e

pub plain_stored : (records : List JournalRecord) (new : Kept) → state records ≡ Some new → list_any goes_on records ≡ false → IsStored (store_of new)
plain_stored [] new e none = absurd (cc e)
plain_stored (r ∷ rs) new e none =
    let one = first_alone r rs (alone rs (rest_none r rs none)) in
    by (first_state r) refl ((λ j. option_and_then (λ (k : Kept). after_records k (sym one.1 j)) (opens j)) ∙ e)
  where
    opens : first_state r ≡ opening_state (front (r ∷ rs))
    opens = sym (ap opening_state (first_alone r rs (alone rs (rest_none r rs none))).0 ∙ first_opens r)

    by : (o : Option Kept) → first_state r ≡ o → option_and_then (λ k. after_records k rs) o ≡ Some new → IsStored (store_of new)
    by None is same = absurd (cc same)
    by (Some k) is same =
        let g = records_good 0 400 k rs new (first_good r k is) same in
        good_stored 0 400 new g (omega (arith, g.rows, g.few, g.next))
