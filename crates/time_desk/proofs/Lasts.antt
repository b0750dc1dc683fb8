-- What a client knows by UID lasts over one call that seals a record, and no text comes back, of whatever desk: its store is valid,
-- and its stamps name its mailboxes.
use Rattle.std.proofs.Common.{◌≡◌, ℕ, Bool, true, false, ◌&&◌, ◌||◌, ◌==◌, cond, nat_lt, [], ◌∷◌, map, Option, Some, None, Result, Ok, Err, IfOk, OnOk, OnErr, eqb-true, inr, ap, refl, sym, subst}
use Rattle.std.specs.Prelude.{option_and_then}
use Rattle.std.proofs.lemmas.Bool.{and_parts}
use Rattle.undo_outside.specs.Disk.{DiskTold}
use Rattle.verb_core.specs.Deeds.{act_item}
use Rattle.verb_core.specs.declared.item.Item.{Item}
use Rattle.verb_core.specs.declared.mailbox.BoxId.{BoxId}
use Rattle.verb_core.specs.declared.mailbox.Mailbox.{Mailbox}
use Rattle.verb_core.specs.Store.{IsValid}
use Rattle.verb_bytes.specs.declared.journal.JournalRecord.{JournalRecord}
use Rattle.verb_bytes.specs.declared.journal.JournalRecord.TheVariants.{Verb, Operator, Cycle, Snapshot, Upgrade, Withdraw}
use Rattle.store_kept.specs.Kept.{Kept, Marks, passed, performed, snapshotted, store_of, upgraded}
use Rattle.mail_cycle.specs.Permanence.{UidsLast, UidsStay}
use Rattle.mail_cycle.proofs.Lasting.{lasts_itself, lasts_marked, lasts_performed, lasts_upgraded, stay_itself, stay_marked, stay_performed, stay_upgraded}
use Rattle.desk_journal.specs.Lasting.{Lasting}
use Rattle.desk_journal.specs.Records.{after_item, after_kept, after_record, can_follow, can_keep, is_rewind, is_formed, is_spelled, is_true}
use Rattle.desk_journal.specs.Sealing.{Seals}
use Rattle.desk_journal.specs.Submitting.{Snapshots}
use Rattle.desk_journal.proofs.Upgrading.{upgrade_is}

-- the store is valid, and the stamps name its mailboxes
abbrev pub IsNamed : Kept → Type 0
IsNamed kept = IsValid (store_of kept) × (map (λ (r : BoxId × ℕ). r.0) kept.stamps ≡ map (λ (r : BoxId × Mailbox). r.0) (store_of kept).boxes)

-- over no record
pub lasts_kept : (old new : Kept) → new ≡ old → UidsLast old new
lasts_kept old new same = subst (UidsLast old) (sym same) (lasts_itself old)

-- and no text comes back
pub stay_kept : (old new : Kept) → new ≡ old → UidsStay old new
stay_kept old new same = subst (UidsStay old) (sym same) (lasts_itself old, stay_itself old)

-- whatever is known of snapshots
stays_marked : (kept : Kept) (marks : Marks) → UidsStay kept (record kept { marks = marks })
stays_marked kept marks = (lasts_marked kept marks, stay_marked kept marks)

-- whether names may have superiors or not
stays_upgraded : (kept : Kept) → UidsStay kept (upgraded kept)
stays_upgraded kept = (lasts_upgraded kept, stay_upgraded kept)

item_lasts : (kept new : Kept) (what : JournalRecord) (item : Item) → IsNamed kept → after_item kept what item ≡ Some new → UidsStay kept new
item_lasts kept new what item named is = by (is_spelled what) (can_follow kept item) refl is
  where
    by : (spelled can : Bool) → can_follow kept item ≡ can → cond (spelled && can) (Some (performed kept item)) None ≡ Some new → UidsStay kept new
    by true true e is =
        let number : item.number ≡ kept.next = eqb-true item.number kept.next (and_parts (item.number == kept.next) (nat_lt kept.next 4194304) (and_parts ((item.number == kept.next) && nat_lt kept.next 4194304) (is_formed kept.house item) e).0).0 in
        let same : performed kept item ≡ new = cc is in
        subst (UidsStay kept) same (lasts_performed kept item named.0 named.1 number, stay_performed kept item number)
    by true false e is = absurd (cc is)
    by false can e is = absurd (cc is)

-- over a record that is no cycle's and no withdrawal's
pub record_lasts : (kept new : Kept) (what : JournalRecord) → is_rewind what ≡ false → IsNamed kept → after_record kept what ≡ Some new → UidsStay kept new
record_lasts kept new (Verb item) plain named is = item_lasts kept new (Verb item) item named is
record_lasts kept new (Operator number at act) plain named is = item_lasts kept new (Operator number at act) (act_item number at act) named is
record_lasts kept new (Cycle number at ask) plain named is = absurd (cc plain)
record_lasts kept new (Withdraw number at key of) plain named is = absurd (cc plain)
record_lasts kept new (Snapshot items conf rows) plain named is = by (is_spelled (Snapshot items conf rows)) (can_keep kept items conf rows) is
  where
    as_marked : UidsStay kept (after_kept kept (Snapshot items conf rows))
    as_marked = elim (is_true kept (Snapshot items conf rows)) as (λ b. UidsStay kept (cond b (snapshotted kept) (record kept { marks = passed kept.marks }))) [
      | true ↦ stays_marked kept (snapshotted kept).marks
      | false ↦ stays_marked kept (passed kept.marks)
    ]

    by : (spelled can : Bool) → cond (spelled && can) (Some (after_kept kept (Snapshot items conf rows))) None ≡ Some new → UidsStay kept new
    by true true is = let same : after_kept kept (Snapshot items conf rows) ≡ new = cc is in subst (UidsStay kept) same as_marked
    by true false is = absurd (cc is)
    by false can is = absurd (cc is)
record_lasts kept new (Upgrade at) plain named is = subst (UidsStay kept) (upgrade_is kept new at is) (stays_upgraded kept)
record_lasts kept new _ plain named is = absurd (cc is)

after_one : (o : Option Kept) (new : Kept) → option_and_then Some o ≡ Some new → o ≡ Some new
after_one None new is = is
after_one (Some k) new is = is

-- over a call that upgraded
pub upgrades_last : {T E : Type 0} (result : Result T E) (old new : Kept) → OnOk result (new ≡ upgraded old) → OnErr result (new ≡ old) → UidsStay old new
upgrades_last (Ok x) old new done same = subst (UidsStay old) (sym done) (stays_upgraded old)
upgrades_last (Err e) old new done same = stay_kept old new same

module _ {D : Type 0} (told : D → DiskTold) where
  sealed_lasts : (what : JournalRecord) (old new : Lasting D) → is_rewind what ≡ false → IsNamed old.kept → Seals told (what ∷ []) [] old new → UidsStay old.kept new.kept
  sealed_lasts what old new plain named seals =
      record_lasts old.kept new.kept what plain named (after_one (after_record old.kept what) new.kept (seals.kept (inr (none what plain))))
    where
      none : (w : JournalRecord) → is_rewind w ≡ false → (is_rewind w || false) ≡ false
      none w e = ap (λ (b : Bool). b || false) e

  -- over a call that took a snapshot
  pub snapshots_last : {T E : Type 0} (result : Result T E) (old new : Lasting D) (n : ℕ) → OnOk result (Snapshots told old new n) → OnErr result (new.kept ≡ old.kept) → UidsStay old.kept new.kept
  snapshots_last (Ok x) old new n done same = subst (UidsStay old.kept) (sym done.2) (stays_marked old.kept (snapshotted old.kept).marks)
  snapshots_last (Err e) old new n done same = stay_kept old.kept new.kept same

  -- over a call that sealed one that is known before, or left what is kept as it was
  pub calls_last : {T E : Type 0} (result : Result T E) (what : JournalRecord) (old new : Lasting D) → is_rewind what ≡ false → IsNamed old.kept → OnOk result (Seals told (what ∷ []) [] old new)
      → OnErr result (new.kept ≡ old.kept) → UidsStay old.kept new.kept
  calls_last (Ok x) what old new plain named seals same = sealed_lasts what old new plain named seals
  calls_last (Err e) what old new plain named seals same = stay_kept old.kept new.kept same

  -- over a call that sealed one, or left what is kept as it was
  pub call_lasts : {T E : Type 0} (result : Result T E) (what : T → JournalRecord) (old new : Lasting D) → ((x : T) → is_rewind (what x) ≡ false) → IsNamed old.kept → IfOk result (λ x. Seals told (what x ∷ []) [] old new)
      → OnErr result (new.kept ≡ old.kept) → UidsStay old.kept new.kept
  call_lasts (Ok x) what old new plain named seals same = sealed_lasts (what x) old new (plain x) named seals
  call_lasts (Err e) what old new plain named seals same = stay_kept old.kept new.kept same
