-- What a journal's records leave stands in the ranges of records, but for UIDs and the lengths of lists.
use Rattle.std.proofs.Common.{◌≡◌, ℕ, ◌+◌, ◌-◌, ◌≤◌, ◌==◌, ◌&&◌, not, Bool, true, false, cond, List, [], ◌∷◌, ◌++◌, length, map, take, drop, Option, None, Some, is_none, refl, sym, subst, arith, leb-true, length-append}
use Rattle.std.proofs.lemmas.Bool.{and_parts}
use Rattle.std.proofs.lemmas.List.{length-drop, length-map}
use Rattle.std.specs.Prelude.{IfSome, option_map}
use Rattle.std.specs.Option.{option_and_then}
use Rattle.std.specs.List.{AllByRecursion}
use Rattle.undo_base.specs.declared.keys.User.{User}
use Rattle.undo_base.specs.declared.limits.TheConstants.{LAST_MOMENT}
use Rattle.undo_base.specs.Name.{IsName}
use Rattle.verb_core.specs.declared.conf.Conf.{Conf}
use Rattle.verb_core.specs.declared.conf.House.{House}
use Rattle.verb_core.specs.declared.mailbox.BoxId.{BoxId}
use Rattle.verb_core.specs.declared.mailbox.Body.{Body}
use Rattle.verb_core.specs.declared.mailbox.Mailbox.{Mailbox}
use Rattle.verb_core.specs.declared.item.Act.{Act}
use Rattle.verb_core.specs.declared.item.Item.{Item}
use Rattle.verb_core.specs.Deeds.{act_item, with_text}
use Rattle.verb_core.specs.Step.{answers}
use Rattle.verb_bytes.specs.declared.journal.CycleAsk.{CycleAsk}
use Rattle.verb_bytes.specs.declared.journal.JournalRecord.{JournalRecord}
use Rattle.verb_bytes.specs.declared.journal.JournalRecord.TheVariants.{Format, Verb, Operator, Cycle, Snapshot, Upgrade, Withdraw, Base as BaseRecord, Text as TextRecord, Kept as KeptRecord}
use Rattle.withdraw.specs.declared.undone.UndoneBehind.{UndoneBehind}
use Rattle.withdraw.specs.Unediting.{as_shown, item_of, showing}
use Rattle.store_kept.specs.Founding.{Based, base_stands, based_on, founded, is_whole, text_stands, with_item, with_text as with_text_of}
use Rattle.store_kept.specs.Kept.{Kept, Reports, new_desk, passed, performed, report_of, snapshotted, undone_as, undone_of, upgraded}
use Rattle.paradox.specs.Letters.{notices}
use Rattle.paradox.specs.declared.reports.Report.{Report}
use Rattle.mail_cycle.proofs.Cycled.{few_notices, few_told, length_shown}
use Rattle.mail_desk.proofs.Timelines.{few}
use Rattle.repair_desk.specs.Repairs.{inserted, is_dropped, kept, new_timeline, position, repaired, replaced_by, takes_text, text_asked}
use Rattle.cycle_rules.specs.Asking.{NoNumbers, Rewinds, after_cycle, after_repair, cycle_due, due_anew, due_at, due_by, undone_at}
use Rattle.cycle_rules.specs.Cycles.{cycled_at, leaves_numbers, repair_of}
use Rattle.cycle_rules.specs.Repairing.{Repair, broken_in, compared_in, front_in, kept_in, leaves_numbers_for, notice_items, report_in, reworked, timeline_in, told_in}
use Rattle.cycle_rules.specs.Withdrawals.{after_withdrawal, restored_items, unedit_of, withdraw_due, withdraw_due_at, withdrawn_at}
use Rattle.desk_journal.specs.Founding.{Fore, after_kept_item, after_text, based_by, fore_after, fore_of, kept_stands, own, settled_by}
use Rattle.desk_journal.specs.Permanence.{IsSound}
use Rattle.desk_journal.specs.Records.{after_due, after_kept, after_record, after_records, behind, can_follow, can_keep, can_rewind, first_fore, front, is_spelled, is_true, opening_state, settled, state}
use Rattle.house_text.specs.Beginning.{can_begin}
use Rattle.kept_laws.proofs.Fits.{AreRows, Fits, FitsAnswer, FitsConf, FitsKeyed, FitsReport, FitsStore, IsFour}
use Rattle.kept_laws.proofs.Fields.{CycleFits, cycle_fits, kept_fits, operator_fits, retold_again, verb_fits, withdraw_key, withdraw_at}
use Rattle.kept_laws.proofs.Lists.{all_dropped, all_filtered, all_joined, all_mapped, all_taken, either, found_has}
use Rattle.kept_laws.proofs.Ranged.{base_ranged, format_ranged}
use Rattle.kept_laws.proofs.Reporting.{notices_fit, put_fits, report_fits, unmatched_fit}
use Rattle.kept_laws.proofs.Stores.{opening_fits, run_fits}
use Rattle.kept_laws.proofs.Shows.{after_fits, answers_fit}

-- ---- choices that are made

some_when : (b : Bool) (x y : Kept) → cond b (Some x) None ≡ Some y → (b ≡ true) × (x ≡ y)
some_when true x y e = (refl, cc)
some_when false x y e = cc

some_where : (b : Bool) (o : Option Kept) (y : Kept) → cond b o None ≡ Some y → (b ≡ true) × (o ≡ Some y)
some_where true o y e = (refl, e)
some_where false o y e = cc

some_based : (b : Bool) (x y : Based) → cond b (Some x) None ≡ Some y → (b ≡ true) × (x ≡ y)
some_based true x y e = (refl, cc)
some_based false x y e = cc

one_some : (x y : Kept) → ◌≡◌ {A = Option Kept} (Some x) (Some y) → x ≡ y
one_some x y e = cc

none_is : (k : Kept) → ◌≡◌ {A = Option Kept} None (Some k) → ⊥
none_is k e = cc

-- ---- what a journal opens with

pub record FitsBased (b : Based) : Type 0 where
  pub rows : AreRows b.rows
  pub conf : FitsConf b.conf
  pub items : AllByRecursion Fits b.items
  pub reports : AllByRecursion FitsKeyed b.reports

abbrev BasedIf : Option Based → Type 0
BasedIf None = Unit {0}
BasedIf (Some b) = FitsBased b

record ForeFits (f : Fore) : Type 0 where
  opening : FitsConf f.opening
  based : BasedIf f.based

base_hold : (f : Fore) (next : ℕ) (deep : Bool) (conf : Conf) (rows : List (BoxId × Mailbox)) (stamps : List (BoxId × ℕ)) (reports : Reports) (b : Based) → based_by f (BaseRecord next deep conf rows stamps reports) ≡ Some b → FitsBased b
base_hold f next deep conf rows stamps reports b e =
    let new = based_on next deep conf rows stamps reports in
    let what = BaseRecord next deep conf rows stamps reports in
    let s = some_based (is_spelled what && is_none f.based && base_stands f.house new) new b e in
    let p = and_parts (is_spelled what && is_none f.based) (base_stands f.house new) s.0 in
    let q = and_parts (is_spelled what) (is_none f.based) p.0 in
    let ranged = base_ranged next deep conf rows stamps reports q.0 in
    subst FitsBased s.1 (record { rows = ranged.rows_fit; conf = ranged.conf_fits; items = tt; reports = ranged.reports_fit })

text_hold : (what : JournalRecord) (body : Body) (text : List ℕ) (old : Option Based) (b : Based) → BasedIf old → option_and_then (after_text what body text) old ≡ Some b → FitsBased b
text_hold what body text None b h e = absurd (cc e)
text_hold what body text (Some a) b h e =
    subst FitsBased (some_based (is_spelled what && text_stands a body) (with_text_of a body text) b e).1 (record { rows = h.rows; conf = h.conf; items = h.items; reports = h.reports })

kept_hold : (house : House) (i : Item) (old : Option Based) (b : Based) → BasedIf old → option_and_then (after_kept_item house (KeptRecord i) i) old ≡ Some b → FitsBased b
kept_hold house i None b h e = absurd (cc e)
kept_hold house i (Some a) b h e =
    let s = some_based (is_spelled (KeptRecord i) && kept_stands house a i) (with_item a i) b e in
    let p = and_parts (is_spelled (KeptRecord i)) (kept_stands house a i) s.0 in
    subst FitsBased s.1 (record { rows = h.rows; conf = h.conf; items = all_joined Fits a.items (i ∷ []) h.items (kept_fits i p.0, tt); reports = h.reports })

based_hold : (f : Fore) (r : JournalRecord) (b : Based) → BasedIf f.based → based_by f r ≡ Some b → FitsBased b
based_hold f (BaseRecord next deep conf rows stamps reports) b h e = base_hold f next deep conf rows stamps reports b e
based_hold f (TextRecord body text) b h e = text_hold (TextRecord body text) body text f.based b h e
based_hold f (KeptRecord i) b h e = kept_hold f.house i f.based b h e
based_hold f _ b h e = absurd (cc e)

own_hold : (f g : Fore) (r : JournalRecord) → ForeFits f → own f r ≡ Some g → ForeFits g
own_hold f g r h e = by (based_by f r) refl e
  where
    by : (o : Option Based) → based_by f r ≡ o → option_map (λ (b : Based). record f { based = Some b }) o ≡ Some g → ForeFits g
    by None is e = absurd (cc e)
    by (Some b) is e = let same : record f { based = Some b } ≡ g = cc e in subst ForeFits same (record { opening = h.opening; based = based_hold f r b h.based is })

fore_hold : (f g : Fore) (rs : List JournalRecord) → ForeFits f → fore_after f rs ≡ Some g → ForeFits g
fore_hold f g [] h e = let same : f ≡ g = cc e in subst ForeFits same h
fore_hold f g (r ∷ rs) h e = by (own f r) refl e (λ next more is. fore_hold next g rs more is)
  where
    by : (o : Option Fore) → own f r ≡ o → option_and_then (λ next. fore_after next rs) o ≡ Some g → ((next : Fore) → ForeFits next → fore_after next rs ≡ Some g → ForeFits g) → ForeFits g
    by None is e more = absurd (cc e)
    by (Some next) is e more = more next (own_hold f next r h is) e

first_hold : (r : JournalRecord) (f : Fore) → first_fore r ≡ Some f → ForeFits f
first_hold (Format house conf) f e = by (is_spelled (Format house conf)) (can_begin house conf) refl e
  where
    by : (spelled begins : Bool) → is_spelled (Format house conf) ≡ spelled → cond (spelled && begins) (Some (let plain : Fore = record { house = house; opening = conf; based = None } in plain)) None ≡ Some f → ForeFits f
    by true true is e =
        let plain : Fore = record { house = house; opening = conf; based = None } in
        let same : plain ≡ f = cc e in
        subst ForeFits same (record { opening = format_ranged house conf is; based = tt })
    by true false is e = absurd (cc e)
    by false begins is e = absurd (cc e)
first_hold _ f e = absurd (cc e)

read_hold : (records : List JournalRecord) (f : Fore) → fore_of records ≡ Some f → ForeFits f
read_hold [] f e = absurd (cc e)
read_hold (r ∷ rs) f e = by (first_fore r) refl e
  where
    by : (o : Option Fore) → first_fore r ≡ o → option_and_then (λ g. fore_after g rs) o ≡ Some f → ForeFits f
    by None is e = absurd (cc e)
    by (Some g) is e = fore_hold g f rs (first_hold r g is) e

-- ---- what is left

-- what can be withdrawn
abbrev BackIf : Option UndoneBehind → Type 0
BackIf None = Unit {0}
BackIf (Some last) = AllByRecursion Fits last.later × (last.point ≤ 4294967295)

pub record AllHold (k : Kept) : Type 0 where
  pub sound : IsSound k
  pub base : FitsStore k.base
  pub items : AllByRecursion Fits k.timeline
  pub back : BackIf k.undone
  pub reports : AllByRecursion FitsKeyed k.reports

settled_hold : (house : House) (conf : Conf) (o : Option Based) (k : Kept) → IsSound k → FitsConf conf → BasedIf o → settled_by house conf o ≡ Some k → AllHold k
settled_hold house conf None k sound opening h e =
    let same : new_desk house conf ≡ k = cc e in
    subst AllHold same (record { sound = subst IsSound (sym same) sound; base = opening_fits house conf opening; items = tt; back = tt; reports = tt })
settled_hold house conf (Some b) k sound opening h e = by (is_whole house b) e
  where
    by : (t : Bool) → cond t (Some (founded house conf b)) None ≡ Some k → AllHold k
    by true e =
        let same : founded house conf b ≡ k = cc e in
        subst AllHold same (record { sound = subst IsSound (sym same) sound; base = record { rows = h.rows; conf = h.conf }; items = h.items; back = tt; reports = h.reports })
    by false e = absurd (cc e)

opened_hold : (records : List JournalRecord) (k : Kept) → IsSound k → opening_state records ≡ Some k → AllHold k
opened_hold records k sound e = by (fore_of records) refl e
  where
    by : (o : Option Fore) → fore_of records ≡ o → option_and_then settled o ≡ Some k → AllHold k
    by None is e = absurd (cc e)
    by (Some f) is e = let fore = read_hold records f is in settled_hold f.house f.opening f.based k sound fore.opening fore.based e

-- ---- a record that performs nothing anew

item_hold : (k : Kept) (i : Item) (what : JournalRecord) (new : Kept) → IsSound new → (is_spelled what ≡ true → Fits i) → AllHold k → cond (is_spelled what && can_follow k i) (Some (performed k i)) None ≡ Some new → AllHold new
item_hold k i what new sound one h e =
    let s = some_when (is_spelled what && can_follow k i) (performed k i) new e in
    let p = and_parts (is_spelled what) (can_follow k i) s.0 in
    subst AllHold s.1 (record { sound = subst IsSound (sym s.1) sound; base = h.base; items = all_joined Fits k.timeline (i ∷ []) h.items (one p.0, tt); back = h.back; reports = h.reports })

snapshot_hold : (k : Kept) (items : ℕ) (conf : Conf) (rows : List (BoxId × Mailbox)) (new : Kept) → IsSound new → AllHold k → after_record k (Snapshot items conf rows) ≡ Some new → AllHold new
snapshot_hold k items conf rows new sound h e =
    let s = some_when (is_spelled (Snapshot items conf rows) && can_keep k items conf rows) (after_kept k (Snapshot items conf rows)) new e in
    by (is_true k (Snapshot items conf rows)) s.1
  where
    by : (b : Bool) → cond b (snapshotted k) (record k { marks = passed k.marks }) ≡ new → AllHold new
    by true is = subst AllHold is (record { sound = subst IsSound (sym is) sound; base = h.base; items = h.items; back = h.back; reports = h.reports })
    by false is = subst AllHold is (record { sound = subst IsSound (sym is) sound; base = h.base; items = h.items; back = h.back; reports = h.reports })

upgrade_hold : (k : Kept) (at : ℕ) (new : Kept) → IsSound new → AllHold k → after_record k (Upgrade at) ≡ Some new → AllHold new
upgrade_hold k at new sound h e =
    let s = some_when (is_spelled (Upgrade at) && not k.deep) (upgraded k) new e in
    subst AllHold s.1 (record { sound = subst IsSound (sym s.1) sound; base = h.base; items = h.items; back = h.back; reports = h.reports })

-- ---- cycles and withdrawals

inserted_hold : (number at : ℕ) (acts : List Act) → number + length acts ≤ 4294967295 → ((n : ℕ) → n ≤ 4294967295 → AllByRecursion (λ (act : Act). Fits (act_item n at act)) acts) → AllByRecursion Fits (inserted number at acts)
inserted_hold number at [] le all = tt
inserted_hold number at (act ∷ acts) le all = ((all (number + 1) (omega (arith, le))).0, inserted_hold (number + 1) at acts (omega (arith, le)) (λ n few. (all n few).1))

told_hold : (number at : ℕ) (ns : List (User × List ℕ)) → number + length ns ≤ 4294967295 → at ≤ LAST_MOMENT → AllByRecursion Fits (notice_items number at ns)
told_hold number at [] le moment = tt
told_hold number at (n ∷ ns) le moment =
    (record { number = omega (arith, le); rev = omega arith; again = record { at = moment; deed = tt }; shows = tt }, told_hold (number + 1) at ns (omega (arith, le)) moment)

replaced_hold : (c : ℕ) (i : Item) (o : Option (List ℕ)) → c ≤ 4294967295 → Fits i → Fits (replaced_by c i o)
replaced_hold c i None le h = h
replaced_hold c i (Some text) le h =
    either Fits (takes_text i.deed) (record i { rev = c; deed = with_text text i.deed }) i
    (record { number = h.number; rev = le; again = retold_again c text i h.again; shows = h.shows }) h

repaired_hold : (t : List Item) (ask : CycleAsk) (c at place : ℕ) → c ≤ 4294967295 → AllByRecursion Fits (inserted c at ask.inserts) → AllByRecursion Fits t → AllByRecursion Fits (new_timeline t ask c at place)
repaired_hold t ask c at place le acts h =
    all_joined Fits (take place t ++ inserted c at ask.inserts) (map (repaired ask c) (kept ask (drop place t)))
    (all_joined Fits (take place t) (inserted c at ask.inserts) (all_taken Fits place t h) acts)
    (all_mapped Fits Fits (repaired ask c) (λ i one. replaced_hold c i (text_asked ask.replaces i.number) le one) (kept ask (drop place t))
    (all_filtered Fits (λ (i : Item). not (is_dropped ask i)) (drop place t) (all_dropped Fits place t h)))

length_kept : (t : List Item) (ask : CycleAsk) (c at place : ℕ) → length (kept ask (drop place t)) ≤ length (new_timeline t ask c at place)
length_kept t ask c at place =
    let stay : List Item = kept ask (drop place t) in
    let whole : length ((take place t ++ inserted c at ask.inserts) ++ map (repaired ask c) stay) ≡ length (take place t ++ inserted c at ask.inserts) + length (map (repaired ask c) stay) =
    length-append (take place t ++ inserted c at ask.inserts) (map (repaired ask c) stay) in
    let same : length (map (repaired ask c) stay) ≡ length stay = length-map stay (repaired ask c) in
    omega (arith, whole, same)

-- what holds of a repair that is asked for at a moment under a key
record RepairFits (k : Kept) (at : ℕ) (key : List ℕ) (repair : Repair) : Type 0 where
  moment : at ≤ LAST_MOMENT
  named : IsName key
  leaves : leaves_numbers_for k repair.acts ≡ true
  items : AllByRecursion Fits repair.items
  before : AllByRecursion Fits repair.before
  point : repair.point ≤ 4294967295
  stay : repair.kept ≤ length repair.items
  unmatched : AllByRecursion IsFour repair.unmatched

reworked_hold : (k : Kept) (at : ℕ) (key : List ℕ) (repair : Repair) (undone : Option UndoneBehind) → IsSound (after_repair k key (reworked k at repair) undone) → AllHold k → RepairFits k at key repair → BackIf undone
    → AllHold (after_repair k key (reworked k at repair) undone)
reworked_hold k at key repair undone sound h fits back =
    let room : k.next + 1 + repair.acts + length k.house.accounts ≤ 4194303 = leb-true (k.next + 1 + repair.acts + length k.house.accounts) 4194303 fits.leaves in
    let ns : List (User × List ℕ) = notices k.house k.next at (broken_in k repair) in
    let users : length ns ≤ length k.house.accounts = few_notices k.house k.next at (broken_in k repair) in
    let told : AllByRecursion Fits (told_in k at repair) = told_hold (k.next + repair.acts) at ns (omega (arith, room, users)) fits.moment in
    let shown : AllByRecursion Fits (kept_in k repair) =
    after_fits (front_in repair) repair.items (compared_in k repair) fits.items (all_dropped FitsAnswer (front_in repair) (answers k.base repair.items) (answers_fit k.base repair.items h.base fits.items)) in
    let all : AllByRecursion Fits (timeline_in k at repair) = all_joined Fits (kept_in k repair) (told_in k at repair) shown told in
    let long : length (kept_in k repair ++ told_in k at repair) ≡ length (kept_in k repair) + length (told_in k at repair) = length-append (kept_in k repair) (told_in k at repair) in
    let same : length (kept_in k repair) ≡ length repair.items = length_shown (front_in repair) repair.items (compared_in k repair) in
    let most : length (kept_in k repair ++ told_in k at repair) ≤ k.next + 1 + repair.acts + length (told_in k at repair) = few (k.next + 1 + repair.acts + length (told_in k at repair)) (timeline_in k at repair) sound.timeline.apart sound.below in
    let stay : repair.kept ≤ length repair.items = fits.stay in
    let fewer : length (told_in k at repair) ≤ length k.house.accounts = few_told k.house (k.next + repair.acts) k.next at (broken_in k repair) in
    let report : FitsReport (report_in k at repair) =
    report_fits k at repair fits.before (run_fits k.base (timeline_in k at repair) h.base all).rows (omega (arith, room)) fits.point (omega (arith, long, same, most, stay, fewer, room)) fits.unmatched
    (notices_fit (k.next + repair.acts) at ns (omega (arith, room, users))) in
    record { sound = sound; base = h.base; items = all; back = back; reports = put_fits key (report_in k at repair) k.reports fits.named report h.reports }

cycled_hold : (k : Kept) (ask : CycleAsk) (at place : ℕ) → IsSound (after_cycle k ask (cycled_at k at ask place)) → CycleFits at ask → leaves_numbers k ask ≡ true → AllHold k → AllHold (after_cycle k ask (cycled_at k at ask place))
cycled_hold k ask at place sound asked leaves h =
    let room : k.next + 1 + length ask.inserts + length k.house.accounts ≤ 4194303 = leb-true (k.next + 1 + length ask.inserts + length k.house.accounts) 4194303 leaves in
    reworked_hold k at ask.key (repair_of k at ask place) (Some (undone_at k ask place (length (new_timeline k.timeline ask k.next at place)))) sound h
    (record {
      moment = asked.moment;
      named = asked.named;
      leaves = leaves;
      items = repaired_hold k.timeline ask k.next at place (omega (arith, room)) (inserted_hold k.next at ask.inserts (omega (arith, room)) asked.inserts) h.items;
      before = all_dropped Fits place k.timeline h.items;
      point = asked.point;
      stay = length_kept k.timeline ask k.next at place;
      unmatched = unmatched_fit ask (drop place k.timeline) asked.drops asked.replaces;
    })
    (all_dropped Fits place k.timeline h.items, asked.point)

-- an item as it is shown among others
as_hold : (present : List Item) (i : Item) → AllByRecursion Fits present → Fits i → Fits (as_shown present i)
as_hold present i all h = by (item_of present i.number) (found_has Fits (λ (j : Item). j.number == i.number) present all)
  where
    by : (o : Option Item) → IfSome o Fits → Fits (showing i (option_map (λ (j : Item). j.shown) o))
    by None is = h
    by (Some j) is = record { number = h.number; rev = h.rev; again = record { at = h.again.at; deed = h.again.deed }; shows = is.shows }

restored_hold : (k : Kept) (last : UndoneBehind) → AllByRecursion Fits k.timeline → AllByRecursion Fits last.later → AllByRecursion Fits (restored_items k last)
restored_hold k last h back =
    let present : List Item = drop last.position k.timeline in
    let front : List Item = take last.position k.timeline in
    let later : List Item = map (as_shown present) last.later in
    all_joined Fits (front ++ later) (drop last.placed k.timeline)
    (all_joined Fits front later (all_taken Fits last.position k.timeline h)
    (all_mapped Fits Fits (as_shown present) (λ i one. as_hold present i (all_dropped Fits last.position k.timeline h) one) last.later back))
    (all_dropped Fits last.placed k.timeline h)

withdrawn_hold : (k : Kept) (at : ℕ) (key : List ℕ) (last : UndoneBehind) → IsSound (after_withdrawal k key (withdrawn_at k at last)) → at ≤ LAST_MOMENT → IsName key → leaves_numbers_for k 0 ≡ true → AllHold k
    → AllByRecursion Fits last.later × (last.point ≤ 4294967295) → AllHold (after_withdrawal k key (withdrawn_at k at last))
withdrawn_hold k at key last sound moment named leaves h back =
    let items : AllByRecursion Fits (restored_items k last) = restored_hold k last h.items back.0 in
    let less : length (drop last.position (restored_items k last)) ≡ length (restored_items k last) - last.position = length-drop last.position (restored_items k last) in
    reworked_hold k at key (unedit_of k last) None sound h
    (record {
      moment = moment;
      named = named;
      leaves = leaves;
      items = items;
      before = all_dropped Fits last.position (restored_items k last) items;
      point = back.1;
      stay = omega (arith, less);
      unmatched = tt;
    })
    tt

-- ---- one record, and all

at_place : (k : Kept) (at : ℕ) (ask : CycleAsk) (o : Option ℕ) (new : Kept) → IsSound new → CycleFits at ask → AllHold k → after_due (after_cycle k ask) (due_at k at ask o) ≡ Some new → AllHold new
at_place k at ask None new sound asked h e = absurd (none_is new e)
at_place k at ask (Some place) new sound asked h e = by (leaves_numbers k ask) refl e
  where
    by : (b : Bool) → leaves_numbers k ask ≡ b → after_due (after_cycle k ask) (cond b (Rewinds (cycled_at k at ask place)) NoNumbers) ≡ Some new → AllHold new
    by true is same =
        let one = one_some (after_cycle k ask (cycled_at k at ask place)) new same in
        subst AllHold one (cycled_hold k ask at place (subst IsSound (sym one) sound) asked is h)
    by false is same = absurd (none_is new same)

due_hold : (k : Kept) (at : ℕ) (ask : CycleAsk) (o : Option Report) (new : Kept) → IsSound new → CycleFits at ask → AllHold k → after_due (after_cycle k ask) (due_by o (due_anew k at ask)) ≡ Some new → AllHold new
due_hold k at ask None new sound asked h e = at_place k at ask (position k.timeline ask.point) new sound asked h e
due_hold k at ask (Some report) new sound asked h e = absurd (none_is new e)

last_hold : (of : ℕ) (o : Option UndoneBehind) (last : UndoneBehind) → BackIf o → option_and_then (undone_as of) o ≡ Some last → AllByRecursion Fits last.later × (last.point ≤ 4294967295)
last_hold of None last back e = absurd (cc e)
last_hold of (Some one) last back e = by (one.cycle == of) e
  where
    by : (b : Bool) → cond b (Some one) None ≡ Some last → AllByRecursion Fits last.later × (last.point ≤ 4294967295)
    by true same = subst (λ (u : UndoneBehind). AllByRecursion Fits u.later × (u.point ≤ 4294967295)) (let is : one ≡ last = cc same in is) back
    by false same = absurd (cc same)

at_last : (k : Kept) (at of : ℕ) (key : List ℕ) (o : Option UndoneBehind) (new : Kept) → IsSound new → at ≤ LAST_MOMENT → IsName key → AllHold k → undone_of k of ≡ o → after_due (after_withdrawal k key) (withdraw_due_at k at o) ≡ Some new → AllHold new
at_last k at of key None new sound moment named h found e = absurd (none_is new e)
at_last k at of key (Some last) new sound moment named h found e = by (leaves_numbers_for k 0) refl e
  where
    by : (b : Bool) → leaves_numbers_for k 0 ≡ b → after_due (after_withdrawal k key) (cond b (Rewinds (withdrawn_at k at last)) NoNumbers) ≡ Some new → AllHold new
    by true is same =
        let one = one_some (after_withdrawal k key (withdrawn_at k at last)) new same in
        subst AllHold one (withdrawn_hold k at key last (subst IsSound (sym one) sound) moment named is h (last_hold of k.undone last h.back found))
    by false is same = absurd (none_is new same)

back_hold : (k : Kept) (at of : ℕ) (key : List ℕ) (o : Option Report) (new : Kept) → IsSound new → at ≤ LAST_MOMENT → IsName key → AllHold k → after_due (after_withdrawal k key) (due_by o (withdraw_due_at k at (undone_of k of))) ≡ Some new → AllHold new
back_hold k at of key None new sound moment named h e = at_last k at of key (undone_of k of) new sound moment named h refl e
back_hold k at of key (Some report) new sound moment named h e = absurd (none_is new e)

record_hold : (k : Kept) (r : JournalRecord) (new : Kept) → IsSound new → AllHold k → after_record k r ≡ Some new → AllHold new
record_hold k (Verb i) new sound h e = item_hold k i (Verb i) new sound (verb_fits i) h e
record_hold k (Operator number at act) new sound h e = item_hold k (act_item number at act) (Operator number at act) new sound (operator_fits number at act) h e
record_hold k (Snapshot items conf rows) new sound h e = snapshot_hold k items conf rows new sound h e
record_hold k (Upgrade at) new sound h e = upgrade_hold k at new sound h e
record_hold k (Cycle number at ask) new sound h e =
    let s = some_where (is_spelled (Cycle number at ask) && can_rewind k number ask) (after_due (after_cycle k ask) (cycle_due k at ask)) new e in
    due_hold k at ask (report_of k.reports ask.key) new sound (cycle_fits number at ask (and_parts (is_spelled (Cycle number at ask)) (can_rewind k number ask) s.0).0) h s.1
record_hold k (Withdraw number at key of) new sound h e =
    let s = some_where (is_spelled (Withdraw number at key of) && (number == k.next)) (after_due (after_withdrawal k key) (withdraw_due k at key of)) new e in
    let spelled = (and_parts (is_spelled (Withdraw number at key of)) (number == k.next) s.0).0 in
    back_hold k at of key (report_of k.reports key) new sound (withdraw_at number at key of spelled) (withdraw_key number at key of spelled) h s.1
record_hold k _ new sound h e = absurd (none_is new e)

module _ (stays : (old new : Kept) (r : JournalRecord) → IsSound old → after_record old r ≡ Some new → IsSound new) (opens : (records : List JournalRecord) (kept : Kept) → opening_state records ≡ Some kept → IsSound kept) where
  records_hold : (k : Kept) (rs : List JournalRecord) (new : Kept) → AllHold k → after_records k rs ≡ Some new → AllHold new
  records_hold k [] new h e = subst AllHold (one_some k new e) h
  records_hold k (r ∷ rs) new h e = by (after_record k r) refl e (λ next more is. records_hold next rs new more is)
    where
      by : (o : Option Kept) → after_record k r ≡ o → option_and_then (λ next. after_records next rs) o ≡ Some new → ((next : Kept) → AllHold next → after_records next rs ≡ Some new → AllHold new) → AllHold new
      by None is same more = absurd (none_is new same)
      by (Some next) is same more = more next (record_hold k r next (stays k next r h.sound is) h is) same

  pub state_hold : (records : List JournalRecord) (new : Kept) → state records ≡ Some new → AllHold new
  state_hold records new e = by (opening_state (front records)) refl e
    where
      by : (o : Option Kept) → opening_state (front records) ≡ o → option_and_then (λ k. after_records k (behind records)) o ≡ Some new → AllHold new
      by None is same = absurd (none_is new same)
      by (Some k) is same = records_hold k (behind records) new (opened_hold (front records) k (opens (front records) k is) is) same
