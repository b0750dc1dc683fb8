-- Numbers of acts, and keys that no cycle and no withdrawal had.
use Rattle.std.proofs.Common.{◌≡◌, ◌&&◌, ℕ, ◌<◌, Bool, true, false, ◌==◌, List, [], ◌∷◌, Option, Some, None, refl, sym, ◌∙◌, subst, arith}
use Rattle.std.specs.Prelude.{nat_lt, option_and_then, if◌then◌else◌}
use Rattle.std.proofs.lemmas.Bool.Decides.{nat_tests}
use Rattle.verb_core.specs.declared.item.Act.{Act}
use Rattle.verb_bytes.specs.declared.journal.CycleAsk.{CycleAsk}
use Rattle.verb_bytes.specs.declared.journal.JournalRecord.{JournalRecord}
use Rattle.verb_bytes.specs.declared.journal.JournalRecord.TheVariants.{Operator}
use Rattle.paradox.specs.declared.reports.Report.{Report}
use Rattle.store_kept.specs.Kept.{performed, report_of, undone_of, Kept}
use Rattle.repair_desk.specs.Repairs.{position}
use Rattle.cycle_rules.specs.Asking.{Due, Repeats, NoPoint, NoNumbers, Rewinds as IsDue, cycle_due, due_anew, due_at, due_by}
use Rattle.cycle_rules.specs.Cycles.{cycled_at, leaves_numbers}
use Rattle.cycle_rules.specs.Repairing.{leaves_numbers_for}
use Rattle.cycle_rules.specs.Withdrawals.{withdraw_due, withdraw_due_anew, withdraw_due_at, withdrawn_at}
use Rattle.verb_core.specs.Deeds.{act_item}
use Rattle.desk_journal.specs.Records.{after_record, after_records, is_formed, is_spelled}
use Rattle.console_session.specs.ConsoleTurn.{done, failed, numbered, numberless}
use Rattle.console_session.specs.Hindrance.{Hindrance, acted_under, sealed_under, told_under}

-- ---- numbers

none_is_not : (x : Kept) → ◌≡◌ {A = Option Kept} None (Some x) → ⊥
none_is_not x e = subst is_there (sym e) tt
  where
    is_there : Option Kept → Type 0
    is_there None = ⊥
    is_there (Some x) = Unit {0}

must_pass : (a b t d : Bool) (x k : Kept) → (if a && (b && t && d) then Some x else None) ≡ Some k → t ≡ true
must_pass a b true d x k e = refl
must_pass true true false d x k e = absurd (none_is_not k e)
must_pass true false false d x k e = absurd (none_is_not k e)
must_pass false b false d x k e = absurd (none_is_not k e)

then_some : (o : Option Kept) → option_and_then (λ (next : Kept). Some next) o ≡ o
then_some None = refl
then_some (Some kept) = refl

-- an act that was sealed had a number left
pub number_left : (kept k : Kept) (at : ℕ) (act : Act) → after_records kept (Operator kept.next at act ∷ []) ≡ Some k → nat_lt kept.next 4194304 ≡ true
number_left kept k at act e =
    must_pass (is_spelled (Operator kept.next at act)) (kept.next == kept.next) (nat_lt kept.next 4194304) (is_formed kept.house (act_item kept.next at act))
    (performed kept (act_item kept.next at act)) k (sym (then_some (after_record kept (Operator kept.next at act))) ∙ e)

pub act_with : (h : Hindrance) (at : ℕ) (kept : Kept) (act : Act) → nat_lt kept.next 4194304 ≡ true
    → acted_under h at kept act ≡ sealed_under h kept (done at kept act) (failed kept (Operator kept.next at act))
act_with h at kept act e = rw e refl

pub act_without : (h : Hindrance) (at : ℕ) (kept : Kept) (act : Act) → kept.next ≡ 4194304 → acted_under h at kept act ≡ told_under h kept (numberless kept)
act_without h at kept act e = let none : nat_lt kept.next 4194304 ≡ false = grind (arith, nat_tests, e) in rw none refl

pub record_is_not : (x : JournalRecord) (xs : List JournalRecord) → x ∷ xs ≡ [] → ⊥
record_is_not x xs e = subst is_there e tt
  where
    is_there : List JournalRecord → Type 0
    is_there [] = ⊥
    is_there (x ∷ xs) = Unit {0}

-- an act with a number is to be sealed
pub act_seals : (at : ℕ) (kept : Kept) (act : Act) → nat_lt kept.next 4194304 ≡ true → (numbered kept (done at kept act)).sealed ≡ [] → ⊥
act_seals at kept act left e = record_is_not (Operator kept.next at act) [] (rw left at e)

pub less_is : (n : ℕ) → n < 4194304 → nat_lt n 4194304 ≡ true
less_is n lt = grind (arith, nat_tests, lt)

-- ---- keys

-- no cycle and no withdrawal had the key
abbrev pub IsNew : Due → Type 0
IsNew (Repeats report) = ⊥
IsNew NoPoint = Unit {0}
IsNew NoNumbers = Unit {0}
IsNew (IsDue due) = Unit {0}

new_at : (kept : Kept) (at : ℕ) (ask : CycleAsk) (place : Option ℕ) → IsNew (due_at kept at ask place)
new_at kept at ask None = tt
new_at kept at ask (Some place) = elim (leaves_numbers kept ask) as (λ b. IsNew (if b then IsDue (cycled_at kept at ask place) else NoNumbers)) [ true ↦ tt | false ↦ tt ]

pub fresh_is_new : (kept : Kept) (at : ℕ) (ask : CycleAsk) → report_of kept.reports ask.key ≡ None → IsNew (cycle_due kept at ask)
fresh_is_new kept at ask e =
    subst (λ (o : Option Report). IsNew (due_by o (due_anew kept at ask))) (sym e) (new_at kept at ask (position kept.timeline ask.point))

pub fresh_withdrawal_is_new : (kept : Kept) (at : ℕ) (key : List ℕ) (of : ℕ) → report_of kept.reports key ≡ None → IsNew (withdraw_due kept at key of)
fresh_withdrawal_is_new kept at key of e =
    subst (λ (o : Option Report). IsNew (due_by o (withdraw_due_anew kept at of))) (sym e)
    (elim (undone_of kept of) as (λ o. IsNew (withdraw_due_at kept at o)) [
      | None ↦ tt
      | Some last ↦ elim (leaves_numbers_for kept 0) as (λ b. IsNew (if b then IsDue (withdrawn_at kept at last) else NoNumbers)) [ true ↦ tt | false ↦ tt ]
    ])
