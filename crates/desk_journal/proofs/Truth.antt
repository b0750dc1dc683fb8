-- Records that are true.
use Rattle.std.proofs.Common.{◌≡◌, ℕ, zero, suc, ◌&&◌, Bool, true, false, cond, List, [], ◌∷◌, ◌++◌, take, Option, Some, None, Ok, eqb-true, ap, ap₂, refl, sym, subst, ◌∙◌}
use Rattle.std.specs.Prelude.{option_and_then}
use Rattle.std.specs.Option.{option_map_or}
use Rattle.std.specs.Coded.{Coded}
use Rattle.std.proofs.lemmas.Bool.{and_parts, eq-eqb}
use base.Stored.{Gv, gnil, gnum, gcons}
use Rattle.undo_base.specs.declared.keys.User.{User}
use Rattle.verb_core.specs.declared.ask.Ask.{Ask}
use Rattle.verb_core.specs.declared.conf.Conf.{Conf}
use Rattle.verb_core.specs.declared.conf.House.{House}
use Rattle.verb_core.specs.declared.item.Act.{Act}
use Rattle.verb_core.specs.declared.item.Item.{Item}
use Rattle.verb_core.specs.Live.{answered, live}
use Rattle.verb_bytes.specs.declared.journal.CycleAsk.{CycleAsk}
use Rattle.verb_bytes.specs.declared.journal.JournalRecord.{JournalRecord}
use Rattle.verb_bytes.specs.declared.journal.JournalRecord.TheVariants.{Format, Verb, Operator, Cycle, Upgrade}
use Rattle.store_kept.specs.Kept.{Kept, store_of}
use Rattle.mail_desk.proofs.Readied.{asked_is}
use Rattle.desk_journal.specs.Records.{after_record, after_records, all_true, are_true, behind, front, is_behind, is_true, opening_state, record_code, snapshot_record, state, true_record}
use Rattle.desk_journal.specs.Sameness.{is_same, same_codes}
use Rattle.desk_journal.proofs.Fronts.{behind_grows, front_stays}

-- ---- the test

codes_are : (x y : Gv) → same_codes x y ≡ true → x ≡ y
codes_are gnil gnil e = refl
codes_are gnil (gnum n) e = absurd (cc e)
codes_are gnil (gcons c d) e = absurd (cc e)
codes_are (gnum m) gnil e = absurd (cc e)
codes_are (gnum m) (gnum n) e = ap gnum (eqb-true m n e)
codes_are (gnum m) (gcons c d) e = absurd (cc e)
codes_are (gcons a b) gnil e = absurd (cc e)
codes_are (gcons a b) (gnum n) e = absurd (cc e)
codes_are (gcons a b) (gcons c d) e =
    let parts = and_parts (same_codes a c) (same_codes b d) e in
    ap₂ gcons (codes_are a c parts.0) (codes_are b d parts.1)

codes_same : (x : Gv) → same_codes x x ≡ true
codes_same gnil = refl
codes_same (gnum n) = eq-eqb n n refl
codes_same (gcons a b) = ap₂ (λ (x y : Bool). x && y) (codes_same a) (codes_same b)

-- what passes the test is the same, and each value passes it with itself
pub same_is : {A : Type 0} (coded : Coded A) (x y : A) → is_same coded x y ≡ true → x ≡ y
same_is coded x y e = coded.inj x y (codes_are (coded.code x) (coded.code y) e)

pub same_itself : {A : Type 0} (coded : Coded A) (x : A) → is_same coded x x ≡ true
same_itself coded x = codes_same (coded.code x)

-- ---- one record

-- a record is true exactly where it is the one that would be
pub true_is : (kept : Kept) (what : JournalRecord) → is_true kept what ≡ true → what ≡ true_record kept what
true_is kept what = same_is record_code what (true_record kept what)

pub true_as : (kept : Kept) (what : JournalRecord) → what ≡ true_record kept what → is_true kept what ≡ true
true_as kept what is = subst (λ (r : JournalRecord). is_same record_code what r ≡ true) is (same_itself record_code what)

-- an item that is due shows the step's answer
pub live_true : (kept : Kept) (number at : ℕ) (by : Option User) (ask : Ask) (deep : Bool) (item : Item) → live (store_of kept) number at by ask deep ≡ Ok item → is_true kept (Verb item) ≡ true
live_true kept number at by ask deep item is =
    true_as kept (Verb item)
    (subst (λ (i : Item). Verb i ≡ Verb (answered (store_of kept) i)) (sym (asked_is (store_of kept) number at by ask deep item is).0) refl)

pub act_true : (kept : Kept) (number at : ℕ) (act : Act) → is_true kept (Operator number at act) ≡ true
act_true kept number at act = same_itself record_code (Operator number at act)

pub cycle_true : (kept : Kept) (number at : ℕ) (ask : CycleAsk) → is_true kept (Cycle number at ask) ≡ true
cycle_true kept number at ask = same_itself record_code (Cycle number at ask)

pub snapshot_true : (kept : Kept) → is_true kept (snapshot_record kept) ≡ true
snapshot_true kept = same_itself record_code (snapshot_record kept)

pub upgrade_true : (kept : Kept) (at : ℕ) → is_true kept (Upgrade at) ≡ true
upgrade_true kept at = same_itself record_code (Upgrade at)

-- ---- more records

pub one_true : (kept : Kept) (what : JournalRecord) → is_true kept what ≡ true → all_true kept (what ∷ []) ≡ true
one_true kept what truth = ap₂ (λ (x y : Bool). x && y) truth (none (after_record kept what))
  where
    none : (o : Option Kept) → option_map_or (λ (next : Kept). true) o true ≡ true
    none None = refl
    none (Some next) = refl

-- first these, and then those
pub true_append : (kept mid : Kept) (first more : List JournalRecord) → after_records kept first ≡ Some mid → all_true kept first ≡ true → all_true mid more ≡ true → all_true kept (first ++ more) ≡ true
true_append kept mid [] more is truth then_true = let same : kept ≡ mid = cc is in subst (λ (k : Kept). all_true k more ≡ true) (sym same) then_true
true_append kept mid (r ∷ first) more is truth then_true = by (after_record kept r) is (parts.1) (λ next e t. true_append next mid first more e t then_true)
  where
    parts : (is_true kept r ≡ true) × (option_map_or (λ (next : Kept). all_true next first) (after_record kept r) true ≡ true)
    parts = and_parts (is_true kept r) (option_map_or (λ (next : Kept). all_true next first) (after_record kept r) true) truth

    by : (o : Option Kept) → option_and_then (λ (next : Kept). after_records next first) o ≡ Some mid → option_map_or (λ (next : Kept). all_true next first) o true ≡ true
        → ((next : Kept) → after_records next first ≡ Some mid → all_true next first ≡ true → all_true next (first ++ more) ≡ true)
        → (is_true kept r && option_map_or (λ (next : Kept). all_true next (first ++ more)) o true) ≡ true
    by None e t go = absurd (cc e)
    by (Some next) e t go = ap₂ (λ (x y : Bool). x && y) parts.0 (go next e t)

-- the first of true records
pub true_front : (kept : Kept) (records : List JournalRecord) (count : ℕ) → all_true kept records ≡ true → all_true kept (take count records) ≡ true
true_front kept records zero truth = refl
true_front kept [] (suc count) truth = refl
true_front kept (r ∷ rs) (suc count) truth = by (after_record kept r) parts.1 (λ next t. true_front next rs count t)
  where
    parts : (is_true kept r ≡ true) × (option_map_or (λ (next : Kept). all_true next rs) (after_record kept r) true ≡ true)
    parts = and_parts (is_true kept r) (option_map_or (λ (next : Kept). all_true next rs) (after_record kept r) true) truth

    by : (o : Option Kept) → option_map_or (λ (next : Kept). all_true next rs) o true ≡ true → ((next : Kept) → all_true next rs ≡ true → all_true next (take count rs) ≡ true)
        → (is_true kept r && option_map_or (λ (next : Kept). all_true next (take count rs)) o true) ≡ true
    by None t go = ap₂ (λ (x y : Bool). x && y) parts.0 refl
    by (Some next) t go = ap₂ (λ (x y : Bool). x && y) parts.0 (go next t)

-- ---- a journal's

pub first_true : (house : House) (conf : Conf) → are_true (Format house conf ∷ []) ≡ true
first_true house conf = by (opening_state (Format house conf ∷ []))
  where
    by : (o : Option Kept) → option_map_or (λ (kept : Kept). all_true kept []) o true ≡ true
    by None = refl
    by (Some kept) = refl

-- true records, and more that are true behind them
pub journal_more : (records more : List JournalRecord) (kept : Kept) → is_behind more ≡ true → state records ≡ Some kept → are_true records ≡ true → all_true kept more ≡ true → are_true (records ++ more) ≡ true
journal_more [] more kept on is truth then_true = absurd (cc is)
journal_more (r ∷ rs) more kept on is truth then_true =
    (λ j. option_map_or (λ (first : Kept). all_true first (behind_grows (r ∷ rs) more (λ none. absurd (cc none)) on j)) (opening_state (front_stays (r ∷ rs) more (λ none. absurd (cc none)) on j)) true)
    ∙ by (opening_state (front (r ∷ rs))) is truth
  where
    by : (o : Option Kept) → option_and_then (λ (first : Kept). after_records first (behind (r ∷ rs))) o ≡ Some kept → option_map_or (λ (first : Kept). all_true first (behind (r ∷ rs))) o true ≡ true
        → option_map_or (λ (first : Kept). all_true first (behind (r ∷ rs) ++ more)) o true ≡ true
    by None e t = refl
    by (Some first) e t = true_append first kept (behind (r ∷ rs)) more e t then_true
