-- What is told in a turn, whatever the session.
use Rattle.std.proofs.Common.{◌≡◌, true, false, List, [], ◌++◌, ℕ, refl, subst, sym}
use Rattle.std.proofs.lemmas.List.{append-nil}
use Rattle.store_kept.specs.Kept.{Kept}
use Rattle.verb_bytes.specs.declared.journal.JournalRecord.{JournalRecord}
use Rattle.mail_loop.specs.TurnCounts.{TurnCounts, none_counted, wanting}
use Rattle.mail_loop.specs.declared.reply.Reply.{Reply}
use Rattle.mail_loop.specs.Turn.{Turn, ends, says}
use Rattle.mail_loop.specs.Hindrance.{Hindrance}
use Rattle.mail_loop.specs.Took.{IsNone, Takes}
use Rattle.mail_loop.proofs.Sealed.{none_sealed}

pub told_whole : {D : Type 0} → (said : List ℕ) (kept : Kept) (d : D) (old new : Reply) → new ≡ record old { said = old.said ++ said; closes = false } → Takes IsNone (says said kept d) old kept d new
told_whole said kept d old new e =
    subst (λ (r : Reply). Takes IsNone (says said kept d) old kept d r) (sym e) (record { conn = refl; said = refl; kept_is = refl; dialog_is = (refl, refl, refl); gone = sym (append-nil old.gone); seals = (refl, refl) })

pub told_last : {D : Type 0} → (said : List ℕ) (kept : Kept) (d : D) (old new : Reply) → new ≡ record old { said = old.said ++ said; closes = true } → Takes IsNone (ends said kept) old kept d new
told_last said kept d old new e =
    subst (λ (r : Reply). Takes IsNone (ends said kept) old kept d r) (sym e) (record { conn = refl; said = refl; kept_is = refl; dialog_is = refl; gone = sym (append-nil old.gone); seals = (refl, refl) })

pub told_nothing : {D : Type 0} → (kept : Kept) (d : D) (old new : Reply) → old.closes ≡ false → new ≡ old → Takes IsNone (says [] kept d) old kept d new
told_nothing kept d old new stays e =
    subst (λ (r : Reply). Takes IsNone (says [] kept d) old kept d r) (sym e)
    (record { conn = refl; said = sym (append-nil old.said); kept_is = refl; dialog_is = (refl, stays, refl); gone = sym (append-nil old.gone); seals = (refl, refl) })

-- a connection that closes with no answer
pub closed : {D : Type 0} → (kept kept' : Kept) (d : D) (old new : Reply) → kept' ≡ kept → new ≡ record old { closes = true } → Takes IsNone (ends [] kept) old kept' d new
closed kept kept' d old new same e =
    subst (λ (r : Reply). Takes IsNone (ends [] kept) old kept' d r) (sym e)
    (record { conn = refl; said = sym (append-nil old.said); kept_is = same; dialog_is = refl; gone = sym (append-nil old.gone); seals = (refl, refl) })

-- no sealing failed in this turn, and what was sealed is known
pub lifted : {D : Type 0} → (S : List JournalRecord → TurnCounts → Type 0) (t : Turn D) (old : Reply) (kept : Kept) (d : D) (new : Reply) → Takes IsNone t old kept d new → S [] none_counted → Takes S t old kept d new
lifted S t old kept d new takes none = record {
  conn = takes.conn;
  said = takes.said;
  kept_is = takes.kept_is;
  dialog_is = takes.dialog_is;
  gone = takes.gone;
  seals = none_sealed S t.unsealed t.counts takes.seals none;
}

pub lifted_turn : {D : Type 0} → (S : List JournalRecord → TurnCounts → Type 0) (f : Hindrance → Turn D) (old : Reply) (kept : Kept) (d : D) (new : Reply) → S [] none_counted
    → (h : Hindrance) × Takes IsNone (f h) old kept d new → (h : Hindrance) × Takes S (f h) old kept d new
lifted_turn S f old kept d new none (h, takes) = (h, lifted S (f h) old kept d new takes none)

-- a record was not sealed in the last turn of a connection
pub unsealed_too : {D : Type 0} → (S : List JournalRecord → TurnCounts → Type 0) (said : List ℕ) (k : Kept) (failed : List JournalRecord) (old : Reply) (kept : Kept) (d : D) (new : Reply)
    → Takes IsNone (ends {D = D} said k) old kept d new → S failed none_counted → Takes S (record (ends {D = D} said k) { unsealed = failed }) old kept d new
unsealed_too S said k failed old kept d new takes seals = record {
  conn = takes.conn;
  said = takes.said;
  kept_is = takes.kept_is;
  dialog_is = takes.dialog_is;
  gone = takes.gone;
  seals = seals;
}

-- so many writes found no memory in this turn
pub out_of_memory_too : {D : Type 0} → (S : List JournalRecord → TurnCounts → Type 0) (t : Turn D) (n : ℕ) (old : Reply) (kept : Kept) (d : D) (new : Reply) → Takes IsNone t old kept d new → S [] (wanting n)
    → Takes S (record t { counts = wanting n }) old kept d new
out_of_memory_too S t n old kept d new takes seals = record {
  conn = takes.conn;
  said = takes.said;
  kept_is = takes.kept_is;
  dialog_is = takes.dialog_is;
  gone = takes.gone;
  seals = subst (λ (failed : List JournalRecord). S failed (wanting n)) (sym takes.seals.0) seals;
}
