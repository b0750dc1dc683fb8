-- What holds of all that records leave, and what lasts from one of them to a later one.
use Rattle.std.proofs.Common.{◌≡◌, ℕ, ◌+◌, ◌-◌, ◌<◌, ◌≤◌, ◌==◌, Bool, true, false, ◌&&◌, ◌||◌, cond, nat_le, nat_lt, arith, refl, ap, sym, subst, ◌∙◌, not, List, ◌∷◌, length, map, Option, Some, None, is_some, is_eq, eqb-true, unwrap_or, option_and_then, []}
use Rattle.std.specs.List.{AllByRecursion, list_all, list_any, cons_option}
use Rattle.std.proofs.lemmas.Bool.{and_parts, leb-true}
use Rattle.verb_core.specs.declared.conf.Conf.{Conf}
use Rattle.verb_core.specs.declared.conf.House.{House}
use Rattle.verb_core.specs.declared.item.Item.{Item}
use Rattle.verb_core.specs.declared.mailbox.Body.{Body}
use Rattle.verb_core.specs.declared.mailbox.BoxId.{BoxId}
use Rattle.verb_core.specs.declared.mailbox.Mailbox.{Mailbox}
use Rattle.verb_core.specs.Boxes.{box_cmp, row_at}
use Rattle.verb_core.specs.Deeds.{act_item}
use Rattle.verb_core.specs.Items.{IsWellFormed, has_form, is_own, keys_in, users_in}
use Rattle.verb_core.specs.Stamps.{stamps_after}
use Rattle.verb_core.specs.Step.{Boxes, step}
use Rattle.verb_core.specs.Store.{is_house, is_known, opening}
use Rattle.verb_core.proofs.StampLaws.{after-ids}
use Rattle.verb_bytes.specs.declared.journal.CycleAsk.{CycleAsk}
use Rattle.verb_bytes.specs.declared.journal.JournalRecord.{JournalRecord}
use Rattle.verb_bytes.specs.declared.journal.JournalRecord.TheVariants.{Format, Verb, Operator, Cycle, Snapshot, Upgrade, Withdraw}
use Rattle.verb_bytes.specs.Spelling.{HasSpelling}
use Rattle.paradox.specs.declared.reports.Report.{Report}
use Rattle.withdraw.specs.declared.undone.UndoneBehind.{UndoneBehind}
use Rattle.store_kept.specs.Coming.{Comes, ComesIf, HasUndoneTexts, TextsComeIf}
use Rattle.store_kept.specs.Kept.{BaseTexts, Kept, Marks, marked, new_desk, origin_of, passed, performed, report_of, snapshotted, store_of, undone_of, upgraded}
use Rattle.store_kept.proofs.Coming.{comes_on, texts_on}
use Rattle.repair_desk.specs.Repairs.{are_known, position}
use Rattle.cycle_rules.specs.Asking.{Due, NoNumbers, NoPoint, Repeats, Rewinds, after_cycle, cycle_due, due_anew, due_at, due_by}
use Rattle.cycle_rules.specs.Cycles.{Cycled, cycled_at, leaves_numbers}
use Rattle.cycle_rules.specs.Repairing.{leaves_numbers_for}
use Rattle.cycle_rules.specs.Withdrawals.{after_withdrawal, withdraw_due, withdraw_due_anew, withdraw_due_at, withdrawn_at}
use Rattle.mail_cycle.specs.Permanence.{UidsLast, UidsStay}
use Rattle.mail_cycle.proofs.Lasting.{lasts_cycled, lasts_itself, lasts_on, lasts_performed, lasts_withdrawn, stay_cycled, uids_stay_on}
use Rattle.mail_cycle.proofs.Left.{left_due, left_revs}
use Rattle.mail_cycle.proofs.Withdrawn.{due_comes, due_texts_come, withdrawal_goes_on, withdrawal_revs}
use Rattle.mail_desk.proofs.Bases.{base_goes_on, base_stays}
use Rattle.mail_desk.proofs.Timelines.{all_on, apart_on, below_on, others_below}
use Rattle.house_text.specs.Beginning.{can_begin}
use Rattle.desk_journal.specs.Founding.{Fore}
use Rattle.desk_journal.specs.Records.{after_cycle_record, after_due, after_item, after_record, after_records, after_snapshot, after_withdraw_record, behind, can_follow, can_keep, can_rewind, first_state, front, goes_on, is_behind, is_formed, is_spelled, is_true, is_withdrawal, opening_state, settled, state}
use Rattle.desk_journal.specs.Permanence.{IsSound, RevsBelow}
use Rattle.desk_journal.proofs.Entering.{base_weaker, item_runs, item_revs, no_rev}
use Rattle.desk_journal.proofs.Founded.{formed_is, front_sound}
use Rattle.desk_journal.proofs.Fronts.{first_alone, first_opens}
use Rattle.desk_journal.proofs.Upgrading.{upgrade_is}
use Rattle.time_desk.proofs.Accounts.{sound_valid}
use Rattle.time_desk.proofs.Lasts.{record_lasts, stay_kept}
use Rattle.time_desk.proofs.Undone.{undone_is}

-- ---- at first

-- the base is the opening store
abbrev pub BeginsOpen : Kept → Type 0
BeginsOpen kept = kept.base ≡ opening kept.house kept.opening

-- what holds of what is kept, and of its texts
abbrev pub StateHolds : Kept → Type 0
StateHolds kept = IsSound kept × RevsBelow kept × HasUndoneTexts kept

-- nothing can come back of what a journal opens with
first_back : (kept : Kept) → kept.undone ≡ None → HasUndoneTexts kept
first_back kept none = subst (TextsComeIf kept.timeline) (sym none) tt

-- a Format alone leaves the opening store
first_opening : (r : JournalRecord) (kept : Kept) → first_state r ≡ Some kept → BeginsOpen kept
first_opening (Format house conf) kept is = by (is_spelled (Format house conf) && can_begin house conf) is
  where
    by : (b : Bool) → option_and_then settled (cond b (Some (let plain : Fore = record { house = house; opening = conf; based = None } in plain)) None) ≡ Some kept → BeginsOpen kept
    by true e = let same : new_desk house conf ≡ kept = cc e in subst BeginsOpen same refl
    by false e = absurd (cc e)
first_opening _ kept is = absurd (cc is)

-- ---- an item more

row_low : (stamps : List (BoxId × ℕ)) (id : BoxId) (number next : ℕ) → number ≡ next → AllByRecursion (λ (r : BoxId × ℕ). r.1 < next) stamps → unwrap_or (row_at id stamps) number < next + 1
row_low [] id number next is all = omega arith
row_low (r ∷ stamps) id number next is all = elim (is_eq (box_cmp id r.0)) as (λ b. unwrap_or (cond b (Some r.1) (row_at id stamps)) number < next + 1) [
  | true ↦ let low : r.1 < next = all.0 in omega arith
  | false ↦ row_low stamps id number next is all.1
]

fresh_on : (stamps : List (BoxId × ℕ)) (number next : ℕ) → number ≡ next → AllByRecursion (λ (r : BoxId × ℕ). r.1 < next) stamps → (boxes : Boxes) → AllByRecursion (λ (r : BoxId × ℕ). r.1 < next + 1) (stamps_after number boxes stamps)
fresh_on stamps number next is all [] = tt
fresh_on stamps number next is all (r ∷ boxes) = (row_low stamps r.0 number next is all, fresh_on stamps number next is all boxes)

pub item_sound : (kept : Kept) (i : Item) → IsSound kept → IsWellFormed kept.house i → i.number ≡ kept.next → IsSound (performed kept i)
item_sound kept i sound formed number = record {
  house = sound.house;
  aliases = sound.aliases;
  base = base_goes_on kept i sound.base formed number sound.below;
  runs = item_runs kept i sound.runs;
  timeline = record {
    formed = all_on (IsWellFormed kept.house) kept.timeline i sound.timeline.formed formed;
    apart = apart_on kept.timeline i sound.timeline.apart (others_below kept.next kept.timeline i sound.below number);
  };
  below = below_on kept.next kept.timeline i sound.below number;
  named = after-ids i.number (step (store_of kept) i).0.boxes kept.stamps;
  fresh = fresh_on kept.stamps i.number kept.next number sound.fresh (step (store_of kept) i).0.boxes;
  undone = comes_on (origin_of kept) kept.timeline kept.next i kept.undone number sound.undone;
}

-- an item that can follow is well formed, and has the next number
pub follows_formed : (kept : Kept) (i : Item) → can_follow kept i ≡ true → IsWellFormed kept.house i × (i.number ≡ kept.next)
follows_formed kept i can =
    let parts = and_parts ((i.number == kept.next) && nat_lt kept.next 4194304) (is_formed kept.house i) can in
    (formed_is kept.house i parts.1, eqb-true i.number kept.next (and_parts (i.number == kept.next) (nat_lt kept.next 4194304) parts.0).0)

-- ---- from what is kept to what is kept behind more records

-- The texts of what can come back are known to be the same where revs were below the next number.
pub record Follows (old new : Kept) : Type 0 where
  pub sound : IsSound new
  pub texts : RevsBelow old → HasUndoneTexts old → RevsBelow new × HasUndoneTexts new
  pub lasts : RevsBelow old → HasUndoneTexts old → UidsLast old new
  pub opens : BeginsOpen old → BeginsOpen new

pub item_follows : (kept : Kept) (i : Item) → IsSound kept → IsWellFormed kept.house i → i.number ≡ kept.next → i.rev ≡ 0 → Follows kept (performed kept i)
item_follows kept i sound formed number rev = record {
  sound = item_sound kept i sound formed number;
  texts = λ revs back. (item_revs kept i rev revs, texts_on (origin_of kept) kept.timeline kept.next i kept.undone number sound.undone back);
  lasts = λ revs back. lasts_performed kept i (sound_valid kept sound) sound.named number;
  opens = λ opens. opens;
}

item_record : (kept new : Kept) (what : JournalRecord) (i : Item) → (HasSpelling what → i.rev ≡ 0) → IsSound kept → after_item kept what i ≡ Some new → Follows kept new
item_record kept new what i rev sound is = by (is_spelled what) (can_follow kept i) refl refl is
  where
    by : (spelled can : Bool) → is_spelled what ≡ spelled → can_follow kept i ≡ can → cond (spelled && can) (Some (performed kept i)) None ≡ Some new → Follows kept new
    by true true e f is =
        let same : performed kept i ≡ new = cc is in
        let formed = follows_formed kept i f in
        subst (Follows kept) same (item_follows kept i sound formed.0 formed.1 (rev e))
    by true false e f is = absurd (cc is)
    by false can e f is = absurd (cc is)

-- ---- a cycle

risen : {a b : ℕ} → a < b → a ≤ b
risen less = omega (arith, less)

-- revs of the texts of a base are below a later number
base_rises : (texts : BaseTexts) (next later : ℕ) → next ≤ later → AllByRecursion (λ (r : Body × List ℕ). r.0.rev < next) texts → AllByRecursion (λ (r : Body × List ℕ). r.0.rev < later) texts
base_rises texts next later le = base_weaker (λ (r : Body × List ℕ). r.0.rev < next) (λ (r : Body × List ℕ). r.0.rev < later) (λ r less. omega (arith, less, le)) texts

module _ (kept : Kept) (at : ℕ) (ask : CycleAsk) (sound : IsSound kept) (known : are_known kept.house ask.inserts ≡ true) where
  abbrev RevsBy : Due → Type 0
  RevsBy (Repeats report) = Unit {0}
  RevsBy NoPoint = Unit {0}
  RevsBy NoNumbers = Unit {0}
  RevsBy (Rewinds due) = AllByRecursion (λ (i : Item). i.rev < kept.next) kept.timeline → AllByRecursion (λ (i : Item). i.rev < due.next) due.timeline

  revs_by_place : (o : Option ℕ) → RevsBy (due_at kept at ask o)
  revs_by_place None = tt
  revs_by_place (Some place) = elim (leaves_numbers kept ask) as (λ b. RevsBy (cond b (Rewinds (cycled_at kept at ask place)) NoNumbers)) [ true ↦ left_revs kept at ask place | false ↦ tt ]

  cycle_revs : (due : Cycled) → due_anew kept at ask ≡ Rewinds due → AllByRecursion (λ (i : Item). i.rev < kept.next) kept.timeline → AllByRecursion (λ (i : Item). i.rev < due.next) due.timeline
  cycle_revs due is = subst RevsBy is (revs_by_place (position kept.timeline ask.point))

  pub cycle_follows : (due : Cycled) → due_anew kept at ask ≡ Rewinds due → Follows kept (after_cycle kept ask due)
  cycle_follows due is =
      let goes = left_due kept at ask due sound.timeline sound.below sound.fresh known is in
      record {
        sound = record {
          house = sound.house;
          aliases = sound.aliases;
          base = base_stays kept due.timeline due.next sound.base (goes.base sound.base) (risen goes.rises);
          runs = refl;
          timeline = goes.timeline;
          below = goes.below;
          named = goes.named;
          fresh = goes.fresh;
          undone = due_comes kept at ask sound.timeline sound.below due known sound.base is;
        };
        texts = λ revs back. (
          record { items = cycle_revs due is revs.items; base = base_rises kept.texts kept.next due.next (risen goes.rises) revs.base },
          due_texts_come kept at ask sound.timeline sound.below due revs.items is,
        );
        lasts = λ revs back. lasts_cycled kept at ask due sound.base sound.undone sound.timeline.apart is;
        opens = λ opens. opens;
      }

-- and no text comes back
abbrev FollowsOn : Kept → Kept → Type 0
FollowsOn old new = Follows old new × UidsStay old new

cycle_record : (kept new : Kept) (number at : ℕ) (ask : CycleAsk) → IsSound kept → after_cycle_record kept number at ask ≡ Some new → FollowsOn kept new
cycle_record kept new number at ask sound is = by (is_spelled (Cycle number at ask)) (can_rewind kept number ask) refl is
  where
    by_due : are_known kept.house ask.inserts ≡ true → (due : Due) → due_anew kept at ask ≡ due → after_due (after_cycle kept ask) due ≡ Some new → FollowsOn kept new
    by_due known (Repeats report) e is = absurd (cc is)
    by_due known NoPoint e is = absurd (cc is)
    by_due known NoNumbers e is = absurd (cc is)
    by_due known (Rewinds due) e is =
        let same : after_cycle kept ask due ≡ new = cc is in
        subst (FollowsOn kept) same (cycle_follows kept at ask sound known due e, (lasts_cycled kept at ask due sound.base sound.undone sound.timeline.apart e, stay_cycled kept at ask due sound.base sound.timeline.apart e))

    by_report : are_known kept.house ask.inserts ≡ true → (found : Option Report) → after_due (after_cycle kept ask) (due_by found (due_anew kept at ask)) ≡ Some new → FollowsOn kept new
    by_report known None is = by_due known (due_anew kept at ask) refl is
    by_report known (Some report) is = absurd (cc is)

    by : (spelled can : Bool) → can_rewind kept number ask ≡ can → cond (spelled && can) (after_due (after_cycle kept ask) (cycle_due kept at ask)) None ≡ Some new → FollowsOn kept new
    by true true e is = by_report (and_parts (number == kept.next) (are_known kept.house ask.inserts) e).1 (report_of kept.reports ask.key) is
    by true false e is = absurd (cc is)
    by false can e is = absurd (cc is)

-- ---- a withdrawal

-- what it leaves can't be withdrawn
withdrawal_follows : (kept : Kept) (at : ℕ) (key : List ℕ) (of : ℕ) (last : UndoneBehind) → IsSound kept → undone_of kept of ≡ Some last → leaves_numbers_for kept 0 ≡ true
    → Follows kept (after_withdrawal kept key (withdrawn_at kept at last))
withdrawal_follows kept at key of last sound is left =
    let there : kept.undone ≡ Some last = undone_is kept of last is in
    let comes : Comes (origin_of kept) kept.timeline kept.next last = subst (ComesIf (origin_of kept) kept.timeline kept.next) there sound.undone in
    let due : Cycled = withdrawn_at kept at last in
    let goes = withdrawal_goes_on kept last sound.timeline comes at sound.below sound.fresh left in
    record {
      sound = record {
        house = sound.house;
        aliases = sound.aliases;
        base = base_stays kept due.timeline due.next sound.base (goes.base sound.base) (risen goes.rises);
        runs = refl;
        timeline = goes.timeline;
        below = goes.below;
        named = goes.named;
        fresh = goes.fresh;
        undone = tt;
      };
      texts = λ revs back. (
        record { items = withdrawal_revs kept last sound.timeline comes at (subst (TextsComeIf kept.timeline) there back) revs.items; base = base_rises kept.texts kept.next due.next (risen goes.rises) revs.base },
        tt,
      );
      lasts = λ revs back. lasts_withdrawn kept at key last sound.base sound.timeline there comes (subst (TextsComeIf kept.timeline) there back);
      opens = λ opens. opens;
    }

withdraw_record : (kept new : Kept) (number at : ℕ) (key : List ℕ) (of : ℕ) → IsSound kept → after_withdraw_record kept number at key of ≡ Some new → Follows kept new
withdraw_record kept new number at key of sound is = by (is_spelled (Withdraw number at key of)) (number == kept.next) is
  where
    by_numbers : (last : UndoneBehind) → undone_of kept of ≡ Some last → (b : Bool) → leaves_numbers_for kept 0 ≡ b
        → after_due (after_withdrawal kept key) (cond b (Rewinds (withdrawn_at kept at last)) NoNumbers) ≡ Some new → Follows kept new
    by_numbers last there true left is =
        let same : after_withdrawal kept key (withdrawn_at kept at last) ≡ new = cc is in
        subst (Follows kept) same (withdrawal_follows kept at key of last sound there left)
    by_numbers last there false left is = absurd (cc is)

    by_last : (o : Option UndoneBehind) → undone_of kept of ≡ o → after_due (after_withdrawal kept key) (withdraw_due_at kept at o) ≡ Some new → Follows kept new
    by_last None there is = absurd (cc is)
    by_last (Some last) there is = by_numbers last there (leaves_numbers_for kept 0) refl is

    by_report : (found : Option Report) → after_due (after_withdrawal kept key) (due_by found (withdraw_due_anew kept at of)) ≡ Some new → Follows kept new
    by_report None is = by_last (undone_of kept of) refl is
    by_report (Some report) is = absurd (cc is)

    by : (spelled can : Bool) → cond (spelled && can) (after_due (after_withdrawal kept key) (withdraw_due kept at key of)) None ≡ Some new → Follows kept new
    by true true is = by_report (report_of kept.reports key) is
    by true false is = absurd (cc is)
    by false can is = absurd (cc is)

-- ---- a snapshot

-- what is known of the snapshots says nothing of the rest
marks_follow : (kept : Kept) (marks : Marks) → IsSound kept → Follows kept (record kept { marks = marks })
marks_follow kept marks sound =
    let same = lasts_itself kept in
    record {
      sound = record {
        house = sound.house;
        aliases = sound.aliases;
        base = sound.base;
        runs = sound.runs;
        timeline = sound.timeline;
        below = sound.below;
        named = sound.named;
        fresh = sound.fresh;
        undone = sound.undone;
      };
      texts = λ revs back. (revs, back);
      lasts = λ revs back. record { next = same.next; stamps = same.stamps; texts = same.texts };
      opens = λ opens. opens;
    }

snapshot_record_follows : (kept new : Kept) (items : ℕ) (conf : Conf) (rows : Boxes) → IsSound kept → after_snapshot kept items conf rows ≡ Some new → Follows kept new
snapshot_record_follows kept new items conf rows sound is = by (is_spelled (Snapshot items conf rows) && can_keep kept items conf rows) (is_true kept (Snapshot items conf rows)) is
  where
    by : (can truth : Bool) → cond can (Some (cond truth (snapshotted kept) (record kept { marks = passed kept.marks }))) None ≡ Some new → Follows kept new
    by true true e = let same : snapshotted kept ≡ new = cc e in subst (Follows kept) same (marks_follow kept (marked (length kept.timeline) kept.marks) sound)
    by true false e = let same : record kept { marks = passed kept.marks } ≡ new = cc e in subst (Follows kept) same (marks_follow kept (passed kept.marks) sound)
    by false truth e = absurd (cc e)

-- ---- an upgrade

-- whether names may have superiors says nothing of the rest
upgrade_follows : (kept : Kept) → IsSound kept → Follows kept (upgraded kept)
upgrade_follows kept sound =
    let same = lasts_itself kept in
    record {
      sound = record {
        house = sound.house;
        aliases = sound.aliases;
        base = sound.base;
        runs = sound.runs;
        timeline = sound.timeline;
        below = sound.below;
        named = sound.named;
        fresh = sound.fresh;
        undone = sound.undone;
      };
      texts = λ revs back. (revs, back);
      lasts = λ revs back. record { next = same.next; stamps = same.stamps; texts = same.texts };
      opens = λ opens. opens;
    }

-- ---- records

pub record_follows : (kept new : Kept) (r : JournalRecord) → IsSound kept → after_record kept r ≡ Some new → Follows kept new
record_follows kept new (Verb item) sound is = item_record kept new (Verb item) item (no_rev item) sound is
record_follows kept new (Operator number at act) sound is = item_record kept new (Operator number at act) (act_item number at act) (λ fits. refl) sound is
record_follows kept new (Cycle number at ask) sound is = (cycle_record kept new number at ask sound is).0
record_follows kept new (Snapshot items conf rows) sound is = snapshot_record_follows kept new items conf rows sound is
record_follows kept new (Upgrade at) sound is = subst (Follows kept) (upgrade_is kept new at is) (upgrade_follows kept sound)
record_follows kept new (Withdraw number at key of) sound is = withdraw_record kept new number at key of sound is
record_follows kept new _ sound is = absurd (cc is)

follows_itself : (kept : Kept) → IsSound kept → Follows kept kept
follows_itself kept sound = record { sound = sound; texts = λ revs back. (revs, back); lasts = λ revs back. lasts_itself kept; opens = λ opens. opens }

follows_on : (a b c : Kept) → Follows a b → Follows b c → Follows a c
follows_on a b c first second = record {
  sound = second.sound;
  texts = λ revs back. let mid = first.texts revs back in second.texts mid.0 mid.1;
  lasts = λ revs back. let mid = first.texts revs back in lasts_on a b c (first.lasts revs back) (second.lasts mid.0 mid.1);
  opens = λ opens. second.opens (first.opens opens);
}

pub records_follow : (rs : List JournalRecord) (kept new : Kept) → IsSound kept → after_records kept rs ≡ Some new → Follows kept new
records_follow [] kept new sound is = let same : kept ≡ new = cc is in subst (Follows kept) same (follows_itself kept sound)
records_follow (r ∷ rs) kept new sound is = elim (after_record kept r) as (λ o. after_record kept r ≡ o → option_and_then (λ (next : Kept). after_records next rs) o ≡ Some new → Follows kept new) [
  | None ↦ λ e is. absurd (cc is)
  | Some next ↦ λ e is.
      let first = record_follows kept next r sound e in
      follows_on kept next new first (records_follow rs next new first.sound is)
] refl is

-- ---- texts that stay

-- over a record that is no withdrawal
record_stays : (kept new : Kept) (r : JournalRecord) → is_withdrawal r ≡ false → IsSound kept → after_record kept r ≡ Some new → UidsStay kept new
record_stays kept new (Verb item) plain sound is = record_lasts kept new (Verb item) refl (sound_valid kept sound, sound.named) is
record_stays kept new (Operator number at act) plain sound is = record_lasts kept new (Operator number at act) refl (sound_valid kept sound, sound.named) is
record_stays kept new (Cycle number at ask) plain sound is = (cycle_record kept new number at ask sound is).1
record_stays kept new (Snapshot items conf rows) plain sound is = record_lasts kept new (Snapshot items conf rows) refl (sound_valid kept sound, sound.named) is
record_stays kept new (Upgrade at) plain sound is = record_lasts kept new (Upgrade at) refl (sound_valid kept sound, sound.named) is
record_stays kept new (Withdraw number at key of) plain sound is = absurd (cc plain)
record_stays kept new _ plain sound is = absurd (cc is)

neither : (a b : Bool) → (a || b) ≡ false → (a ≡ false) × (b ≡ false)
neither true b e = absurd (cc e)
neither false b e = (refl, e)

-- over records of which none is
pub records_stay : (rs : List JournalRecord) (kept new : Kept) → IsSound kept → after_records kept rs ≡ Some new → list_any is_withdrawal rs ≡ false → UidsStay kept new
records_stay [] kept new sound is none = stay_kept kept new (sym (cc is))
records_stay (r ∷ rs) kept new sound is none = elim (after_record kept r) as (λ o. after_record kept r ≡ o → option_and_then (λ (next : Kept). after_records next rs) o ≡ Some new → UidsStay kept new) [
  | None ↦ λ e is. absurd (cc is)
  | Some next ↦ λ e is.
      let plain = neither (is_withdrawal r) (list_any is_withdrawal rs) none in
      uids_stay_on kept next new (record_stays kept next r plain.0 sound e) (records_stay rs next new (record_follows kept next r sound e).sound is plain.1)
] refl is

-- ---- a journal

-- what its records leave
pub state_holds : (rs : List JournalRecord) (kept : Kept) → state rs ≡ Some kept → StateHolds kept
state_holds rs kept is = by (opening_state (front rs)) refl is
  where
    by : (o : Option Kept) → opening_state (front rs) ≡ o → option_and_then (λ (k : Kept). after_records k (behind rs)) o ≡ Some kept → StateHolds kept
    by None e is = absurd (cc is)
    by (Some first) e is =
        let held = front_sound (front rs) first e in
        let follows = records_follow (behind rs) first kept held.0 is in
        let texts = follows.texts held.1.revs (first_back first held.1.undone) in
        (follows.sound, texts.0, texts.1)

none_behind : (rs : List JournalRecord) → list_any goes_on rs ≡ false → is_behind rs ≡ true
none_behind [] none = refl
none_behind (r ∷ rs) none = ap not (neither (goes_on r) (list_any goes_on rs) none).0

-- where none of them goes on with its Format, the base is the opening store
pub state_opening : (rs : List JournalRecord) (kept : Kept) → state rs ≡ Some kept → list_any goes_on rs ≡ false → BeginsOpen kept
state_opening [] kept is none = absurd (cc is)
state_opening (r ∷ rs) kept is none = by (opening_state (front (r ∷ rs))) refl is
  where
    alone : front (r ∷ rs) ≡ r ∷ []
    alone = (first_alone r rs (none_behind rs (neither (goes_on r) (list_any goes_on rs) none).1)).0

    by : (o : Option Kept) → opening_state (front (r ∷ rs)) ≡ o → option_and_then (λ (k : Kept). after_records k (behind (r ∷ rs))) o ≡ Some kept → BeginsOpen kept
    by None e is = absurd (cc is)
    by (Some first) e is =
        let follows = records_follow (behind (r ∷ rs)) first kept (front_sound (front (r ∷ rs)) first e).0 is in
        follows.opens (first_opening r first (sym (first_opens r) ∙ ap opening_state (sym alone) ∙ e))

one_more : (what : JournalRecord) (kept new : Kept) → after_record kept what ≡ Some new → after_records kept (what ∷ []) ≡ Some new
one_more what kept new is = ap (option_and_then Some) is

-- what a record leaves has revs below its next number
pub revs_on : (what : JournalRecord) (kept new : Kept) → IsSound kept → after_record kept what ≡ Some new → RevsBelow kept → HasUndoneTexts kept → RevsBelow new
revs_on what kept new sound is revs back = ((records_follow (what ∷ []) kept new sound (one_more what kept new is)).texts revs back).0

-- and the texts of what it leaves to be withdrawn can come back
pub back_on : (what : JournalRecord) (kept new : Kept) → IsSound kept → after_record kept what ≡ Some new → RevsBelow kept → HasUndoneTexts kept → HasUndoneTexts new
back_on what kept new sound is revs back = ((records_follow (what ∷ []) kept new sound (one_more what kept new is)).texts revs back).1
