-- What the records have that a journal opens with, and each further one keeps, all its records have.
use Rattle.std.proofs.Common.{◌≡◌, List, [], ◌∷◌, ◌++◌, Option, Some, None, refl, ap, sym, subst, ◌∙◌, append_assoc, append-nil}
use Rattle.std.specs.Prelude.{option_and_then}
use Rattle.verb_bytes.specs.declared.journal.JournalRecord.{JournalRecord}
use Rattle.store_kept.specs.Kept.{Kept}
use Rattle.desk_journal.specs.Records.{after_record, after_records, behind as behind_front, front, opening_state, state}
use Rattle.desk_journal.proofs.Fronts.{front_alone, two_parts}
use Rattle.desk_journal.proofs.Runs.{state_then}

-- one more record
pub one_more : (done : List JournalRecord) (r : JournalRecord) (kept next : Kept) → state done ≡ Some kept → after_record kept r ≡ Some next → state (done ++ r ∷ []) ≡ Some next
one_more done r kept next is e = state_then done (r ∷ []) kept next is (ap (option_and_then (λ (k : Kept). after_records k [])) e)

module _ (P : List JournalRecord → Kept → Type 0) where
  -- each further record keeps it
  abbrev pub IsLasting : Type 0
  IsLasting = (done : List JournalRecord) (kept : Kept) (r : JournalRecord) (next : Kept) → state done ≡ Some kept → P done kept → after_record kept r ≡ Some next → P (done ++ r ∷ []) next

  behind : IsLasting → (rs done : List JournalRecord) (kept last : Kept) → state done ≡ Some kept → P done kept → after_records kept rs ≡ Some last → P (done ++ rs) last
  behind step [] done kept last is holds e = let same : kept ≡ last = cc in subst (P (done ++ [])) same (subst (λ (xs : List JournalRecord). P xs kept) (sym (append-nil done)) holds)
  behind step (r ∷ rs) done kept last is holds e =
      by (after_record kept r) refl e
      (λ (next : Kept) f g. subst (λ (xs : List JournalRecord). P xs last) (append_assoc done (r ∷ []) rs)
      (behind step rs (done ++ r ∷ []) next last (one_more done r kept next is f) (step done kept r next is holds f) g))
    where
      by : (o : Option Kept) → after_record kept r ≡ o → option_and_then (λ (k : Kept). after_records k rs) o ≡ Some last
          → ((next : Kept) → after_record kept r ≡ Some next → after_records next rs ≡ Some last → P (done ++ r ∷ rs) last) → P (done ++ r ∷ rs) last
      by None f e go = absurd (cc e)
      by (Some next) f e go = go next f e

  pub along : ((records : List JournalRecord) (kept : Kept) → opening_state (front records) ≡ Some kept → P (front records) kept) → IsLasting → (records : List JournalRecord) (last : Kept) → state records ≡ Some last → P records last
  along first step records last e = by (opening_state (front records)) refl e
    where
      by : (o : Option Kept) → opening_state (front records) ≡ o → option_and_then (λ (k : Kept). after_records k (behind_front records)) o ≡ Some last → P records last
      by None f e = absurd (cc e)
      by (Some kept) f e =
          subst (λ (xs : List JournalRecord). P xs last) (two_parts records)
          (behind step (behind_front records) (front records) kept last (front_alone records kept f) (first records kept f) e)
