-- What is counted of a journal's records.
use Rattle.std.proofs.Common.{◌≡◌, ℕ, ◌+◌, Bool, true, false, ◌||◌, cond, List, [], ◌∷◌, ◌++◌, length, filter, Option, Some, None, refl, ap, sym, subst, ◌∙◌, arith, length-append}
use Rattle.std.specs.Prelude.{option_and_then}
use Rattle.std.specs.List.{list_any}
use Rattle.std.proofs.lemmas.List.Elements.{filter-append}
use Rattle.verb_core.specs.declared.conf.Conf.{Conf}
use Rattle.verb_core.specs.declared.conf.House.{House}
use Rattle.verb_core.specs.declared.item.Item.{Item}
use Rattle.verb_core.specs.declared.mailbox.BoxId.{BoxId}
use Rattle.verb_core.specs.declared.mailbox.Mailbox.{Mailbox}
use Rattle.verb_core.specs.Deeds.{act_item}
use Rattle.verb_bytes.specs.declared.journal.CycleAsk.{CycleAsk}
use Rattle.verb_bytes.specs.declared.journal.JournalRecord.{JournalRecord}
use Rattle.verb_bytes.specs.declared.journal.JournalRecord.TheVariants.{Verb, Operator, Cycle, Snapshot, Upgrade, Withdraw}
use Rattle.withdraw.specs.declared.undone.UndoneBehind.{UndoneBehind}
use Rattle.store_kept.specs.Kept.{Kept, Marks, passed, performed, snapshotted}
use Rattle.cycle_rules.specs.Asking.{after_cycle}
use Rattle.cycle_rules.specs.Cycles.{cycled_at, told_at}
use Rattle.cycle_rules.specs.Repairing.{told_in}
use Rattle.cycle_rules.specs.Withdrawals.{after_withdrawal, unedit_of, withdrawn_at}
use Rattle.desk_journal.specs.Records.{after_kept, after_record, after_records, after_snapshot, behind, front, goes_on, is_rewind, is_snapshot, is_true, opening_state, state}
use Rattle.desk_journal.proofs.Fronts.{two_parts}
use Rattle.desk_journal.proofs.Runs.{state_append}
use Rattle.desk_journal.proofs.Upgrading.{upgrade_is}
use Rattle.snapshot_laws.specs.Usable.{rewinds_in, snapshots_in}
use Rattle.snapshot_laws.proofs.Runs.{IsLasting, along}
use Rattle.snapshot_laws.proofs.Fronts.{IsHouses, houses_first, opens}
use Rattle.snapshot_laws.proofs.Steps.{cycled_is, kept_is, performed_is, withdrawn_is}

-- ---- how many records pass a test

one_first : (p : JournalRecord → Bool) (r : JournalRecord) (rs : List JournalRecord) → length (filter p (r ∷ rs)) ≡ length (filter p (r ∷ [])) + length (filter p rs)
one_first p r rs = elim (p r) as (λ b. length (cond b (r ∷ filter p rs) (filter p rs)) ≡ length (cond b (r ∷ []) []) + length (filter p rs)) [ true ↦ omega arith | false ↦ omega arith ]

one_last : (p : JournalRecord → Bool) (done : List JournalRecord) (r : JournalRecord) → length (filter p (done ++ r ∷ [])) ≡ length (filter p done) + length (filter p (r ∷ []))
one_last p done r = ap length (filter-append p done (r ∷ [])) ∙ length-append (filter p done) (filter p (r ∷ []))

-- ---- the snapshots

abbrev IsTaken : List JournalRecord → Kept → Type 0
IsTaken records kept = kept.marks.taken ≡ snapshots_in records

taken_first : (records : List JournalRecord) (kept : Kept) → opening_state (front records) ≡ Some kept → IsTaken (front records) kept
taken_first records kept e = let is = opens records kept e in ap (λ (m : Marks). m.taken) is.marks ∙ sym is.snapshots

-- as many more as the record is
taken_by : (done : List JournalRecord) (r : JournalRecord) (old new more : ℕ) → old ≡ snapshots_in done → new ≡ old + more → snapshots_in (r ∷ []) ≡ more → new ≡ snapshots_in (done ++ r ∷ [])
taken_by done r old new more before rises one = omega (arith, one_last is_snapshot done r)

taken_kept : (kept : Kept) (what : JournalRecord) → (after_kept kept what).marks.taken ≡ kept.marks.taken + 1
taken_kept kept what = elim (is_true kept what) as (λ b. (cond b (snapshotted kept) (record kept { marks = passed kept.marks })).marks.taken ≡ kept.marks.taken + 1) [ true ↦ refl | false ↦ refl ]

taken_more : IsLasting IsTaken
taken_more done kept (Verb item) next is old e =
    taken_by done (Verb item) kept.marks.taken next.marks.taken 0 old (ap (λ (k : Kept). k.marks.taken) (sym (performed_is kept next (Verb item) item e)) ∙ omega arith) refl
taken_more done kept (Operator number at act) next is old e =
    taken_by done (Operator number at act) kept.marks.taken next.marks.taken 0 old
    (ap (λ (k : Kept). k.marks.taken) (sym (performed_is kept next (Operator number at act) (act_item number at act) e)) ∙ omega arith) refl
taken_more done kept (Cycle number at ask) next is old e =
    taken_by done (Cycle number at ask) kept.marks.taken next.marks.taken 0 old (ap (λ (k : Kept). k.marks.taken) (sym (cycled_is kept next at ask number e).next_is) ∙ omega arith) refl
taken_more done kept (Snapshot items conf rows) next is old e =
    taken_by done (Snapshot items conf rows) kept.marks.taken next.marks.taken 1 old
    (ap (λ (k : Kept). k.marks.taken) (sym (kept_is kept next items conf rows e).next_is) ∙ taken_kept kept (Snapshot items conf rows)) refl
taken_more done kept (Upgrade at) next is old e =
    taken_by done (Upgrade at) kept.marks.taken next.marks.taken 0 old (ap (λ (k : Kept). k.marks.taken) (sym (upgrade_is kept next at e)) ∙ omega arith) refl
taken_more done kept (Withdraw number at key of) next is old e =
    taken_by done (Withdraw number at key of) kept.marks.taken next.marks.taken 0 old
    (ap (λ (k : Kept). k.marks.taken) (sym (withdrawn_is kept next at key of number e).next_is) ∙ omega arith) refl
taken_more done kept _ next is old e = absurd (cc e)

pub taken_are : (records : List JournalRecord) (kept : Kept) → state records ≡ Some kept → IsTaken records kept
taken_are = along IsTaken taken_first taken_more

-- ---- the items that entered

-- between two states, with so many cycles and withdrawals and no snapshot, as many items entered as numbers were given, but for those
-- of the cycles and the withdrawals
record CountsNumbers (old new : Kept) (rewinds : ℕ) : Type 0 where
  first : new.first ≡ old.first
  numbers : old.next + rewinds + new.marks.since ≡ new.next + old.marks.since

counts_item : (kept : Kept) (item : Item) → CountsNumbers kept (performed kept item) 0
counts_item kept item = record { first = refl; numbers = omega arith }

given : (next since acts notices one : ℕ) → one ≡ 1 → next + one + (since + (acts + notices)) ≡ next + 1 + acts + notices + since
given next since acts notices one e = omega arith

counts_cycle : (kept : Kept) (at : ℕ) (ask : CycleAsk) (place : ℕ) (one : ℕ) → one ≡ 1 → CountsNumbers kept (after_cycle kept ask (cycled_at kept at ask place)) one
counts_cycle kept at ask place one e = record { first = refl; numbers = given kept.next kept.marks.since (length ask.inserts) (length (told_at kept at ask place)) one e }

counts_withdrawal : (kept : Kept) (at : ℕ) (key : List ℕ) (last : UndoneBehind) (one : ℕ) → one ≡ 1 → CountsNumbers kept (after_withdrawal kept key (withdrawn_at kept at last)) one
counts_withdrawal kept at key last one e = record { first = refl; numbers = given kept.next kept.marks.since 0 (length (told_in kept at (unedit_of kept last))) one e }

counts_one : (kept next : Kept) (r : JournalRecord) → after_record kept r ≡ Some next → is_snapshot r ≡ false → CountsNumbers kept next (rewinds_in (r ∷ []))
counts_one kept next (Verb item) e plain = subst (λ (k : Kept). CountsNumbers kept k 0) (performed_is kept next (Verb item) item e) (counts_item kept item)
counts_one kept next (Operator number at act) e plain =
    subst (λ (k : Kept). CountsNumbers kept k 0) (performed_is kept next (Operator number at act) (act_item number at act) e) (counts_item kept (act_item number at act))
counts_one kept next (Cycle number at ask) e plain =
    let cycled = cycled_is kept next at ask number e in
    subst (λ (k : Kept). CountsNumbers kept k (rewinds_in (Cycle number at ask ∷ []))) cycled.next_is (counts_cycle kept at ask cycled.place (rewinds_in (Cycle number at ask ∷ [])) refl)
counts_one kept next (Snapshot items conf rows) e plain = absurd (cc plain)
counts_one kept next (Upgrade at) e plain = subst (λ (k : Kept). CountsNumbers kept k 0) (upgrade_is kept next at e) (record { first = refl; numbers = omega arith })
counts_one kept next (Withdraw number at key of) e plain =
    let taken = withdrawn_is kept next at key of number e in
    subst (λ (k : Kept). CountsNumbers kept k (rewinds_in (Withdraw number at key of ∷ []))) taken.next_is
    (counts_withdrawal kept at key taken.last (rewinds_in (Withdraw number at key of ∷ [])) refl)
counts_one kept next _ e plain = absurd (cc e)

-- ---- the number from which a journal draws

-- no record changes it, nor the house
record SameFirst (kept next : Kept) : Type 0 where
  first : next.first ≡ kept.first
  house : next.house ≡ kept.house

stays_kept : (kept : Kept) (what : JournalRecord) → SameFirst kept (after_kept kept what)
stays_kept kept what = elim (is_true kept what) as (λ b. SameFirst kept (cond b (snapshotted kept) (record kept { marks = passed kept.marks }))) [ true ↦ record { first = refl; house = refl } | false ↦ record { first = refl; house = refl } ]

same_first : (kept next : Kept) (r : JournalRecord) → after_record kept r ≡ Some next → SameFirst kept next
same_first kept next (Verb item) e = subst (SameFirst kept) (performed_is kept next (Verb item) item e) (record { first = refl; house = refl })
same_first kept next (Operator number at act) e = subst (SameFirst kept) (performed_is kept next (Operator number at act) (act_item number at act) e) (record { first = refl; house = refl })
same_first kept next (Cycle number at ask) e = subst (SameFirst kept) (cycled_is kept next at ask number e).next_is (record { first = refl; house = refl })
same_first kept next (Snapshot items conf rows) e = subst (SameFirst kept) (kept_is kept next items conf rows e).next_is (stays_kept kept (Snapshot items conf rows))
same_first kept next (Upgrade at) e = subst (SameFirst kept) (upgrade_is kept next at e) (record { first = refl; house = refl })
same_first kept next (Withdraw number at key of) e = subst (SameFirst kept) (withdrawn_is kept next at key of number e).next_is (record { first = refl; house = refl })
same_first kept next _ e = absurd (cc e)

fewer : (p : JournalRecord → Bool) (done more : List JournalRecord) → list_any p (done ++ more) ≡ false → list_any p done ≡ false
fewer p [] more none = refl
fewer p (r ∷ rs) more none = by (p r) none (fewer p rs more)
  where
    by : (b : Bool) → (b || list_any p (rs ++ more)) ≡ false → (list_any p (rs ++ more) ≡ false → list_any p rs ≡ false) → (b || list_any p rs) ≡ false
    by true none rest = absurd (cc none)
    by false none rest = rest none

houses_more : IsLasting IsHouses
houses_more done kept r next is old e none =
    let same = same_first kept next r e in
    same.first ∙ old (fewer goes_on done (r ∷ []) none) ∙ ap (λ (h : House). h.first) (sym same.house)

pub houses : (records : List JournalRecord) (kept : Kept) → state records ≡ Some kept → list_any goes_on records ≡ false → kept.first ≡ kept.house.first
houses = along IsHouses houses_first houses_more

-- ---- what entered

-- no record is a snapshot, nor the first
no_first : (r : JournalRecord) (rs : List JournalRecord) → snapshots_in (r ∷ rs) ≡ 0 → (is_snapshot r ≡ false) × (snapshots_in rs ≡ 0)
no_first r rs none = by (is_snapshot r) none
  where
    by : (b : Bool) → length (cond b (r ∷ filter is_snapshot rs) (filter is_snapshot rs)) ≡ 0 → (b ≡ false) × (snapshots_in rs ≡ 0)
    by true e = absurd (omega (arith, e))
    by false e = (refl, e)

joined : (old mid new : Kept) (a b all : ℕ) → CountsNumbers old mid a → CountsNumbers mid new b → all ≡ a + b → CountsNumbers old new all
joined old mid new a b all first second sum = record {
  first = second.first ∙ first.first;
  numbers = (let one = first.numbers in let two = second.numbers in omega arith);
}

counts : (rs : List JournalRecord) (old new : Kept) → after_records old rs ≡ Some new → snapshots_in rs ≡ 0 → CountsNumbers old new (rewinds_in rs)
counts [] old new e none = let same : old ≡ new = cc e in subst (λ (k : Kept). CountsNumbers old k 0) same (record { first = refl; numbers = omega arith })
counts (r ∷ rs) old new e none = by (after_record old r) refl e (λ next f. counts rs next new f (no_first r rs none).1)
  where
    by : (o : Option Kept) → after_record old r ≡ o → option_and_then (λ (k : Kept). after_records k rs) o ≡ Some new
        → ((next : Kept) → after_records next rs ≡ Some new → CountsNumbers next new (rewinds_in rs)) → CountsNumbers old new (rewinds_in (r ∷ rs))
    by None f e more = absurd (cc e)
    by (Some next) f e more =
        joined old next new (rewinds_in (r ∷ [])) (rewinds_in rs) (rewinds_in (r ∷ rs)) (counts_one old next r f (no_first r rs none).0) (more next e) (one_first is_rewind r rs)

-- as many as in the front and behind it
parts : (p : JournalRecord → Bool) (records : List JournalRecord) → length (filter p records) ≡ length (filter p (front records)) + length (filter p (behind records))
parts p records =
    ap (λ (rs : List JournalRecord). length (filter p rs)) (sym (two_parts records))
    ∙ ap length (filter-append p (front records) (behind records))
    ∙ length-append (filter p (front records)) (filter p (behind records))

-- since the beginning
pub since_first : (records : List JournalRecord) (kept : Kept) → state records ≡ Some kept → snapshots_in records ≡ 0 → kept.first + rewinds_in records + kept.marks.since ≡ kept.next
since_first records kept e none = by (opening_state (front records)) refl e
  where
    from : (first : Kept) → opening_state (front records) ≡ Some first → after_records first (behind records) ≡ Some kept → kept.first + rewinds_in records + kept.marks.since ≡ kept.next
    from first is f =
        let opened = opens records first is in
        let snapshots = parts is_snapshot records in
        let all = counts (behind records) first kept f (omega (arith, none, snapshots)) in
        let number : kept.first ≡ first.next = all.first ∙ opened.drawn in
        let fresh : first.marks.since ≡ 0 = ap (λ (m : Marks). m.since) opened.marks in
        let cycles = parts is_rewind records in
        let none_first : rewinds_in (front records) ≡ 0 = opened.rewinds in
        let sum = all.numbers in
        omega (arith, number, fresh, cycles, none_first, sum)

    by : (o : Option Kept) → opening_state (front records) ≡ o → option_and_then (λ (k : Kept). after_records k (behind records)) o ≡ Some kept → kept.first + rewinds_in records + kept.marks.since ≡ kept.next
    by None f e = absurd (cc e)
    by (Some first) f e = from first f e

-- since a snapshot
module _ (old : Kept) (items : ℕ) (conf : Conf) (rows : List (BoxId × Mailbox)) where
  next_kept : (after_kept old (Snapshot items conf rows)).next ≡ old.next
  next_kept = elim (is_true old (Snapshot items conf rows)) as (λ b. (cond b (snapshotted old) (record old { marks = passed old.marks })).next ≡ old.next) [ true ↦ refl | false ↦ refl ]

  since_kept : (after_kept old (Snapshot items conf rows)).marks.since ≡ 0
  since_kept = elim (is_true old (Snapshot items conf rows)) as (λ b. (cond b (snapshotted old) (record old { marks = passed old.marks })).marks.since ≡ 0) [ true ↦ refl | false ↦ refl ]

  since_by : (after : List JournalRecord) (kept : Kept) (o : Option Kept) → after_snapshot old items conf rows ≡ o → option_and_then (λ (k : Kept). after_records k after) o ≡ Some kept
      → snapshots_in after ≡ 0 → old.next + rewinds_in after + kept.marks.since ≡ kept.next
  since_by after kept None f e none = absurd (cc e)
  since_by after kept (Some next) f e none =
      let is = (kept_is old next items conf rows f).next_is in
      let number : next.next ≡ old.next = ap (λ (k : Kept). k.next) (sym is) ∙ next_kept in
      let fresh : next.marks.since ≡ 0 = ap (λ (k : Kept). k.marks.since) (sym is) ∙ since_kept in
      let sum = (counts after next kept e none).numbers in
      omega arith

  pub since_snapshot : (before after : List JournalRecord) (kept : Kept) → state before ≡ Some old → state (before ++ Snapshot items conf rows ∷ after) ≡ Some kept → snapshots_in after ≡ 0
      → old.next + rewinds_in after + kept.marks.since ≡ kept.next
  since_snapshot before after kept is e none =
      since_by after kept (after_snapshot old items conf rows) refl (sym (state_append before (Snapshot items conf rows ∷ after) old refl is) ∙ e) none
