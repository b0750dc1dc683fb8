-- The places are those of the usable snapshots, and rise.
use Rattle.std.proofs.Common.{◌≡◌, ◌⊎◌, inl, inr, ℕ, List}
use Rattle.verb_bytes.specs.declared.journal.JournalRecord.{JournalRecord}
use Rattle.store_kept.specs.Kept.{newest_at}
use Rattle.snapshot_laws.specs.Usable.{IsUsable}
use Rattle.snapshot_laws.proofs.Members.{In, newest_before, newest_last, newest_one}
use Rattle.snapshot_laws.proofs.Standing.{stands}
use Rattle.snapshot_laws.proofs.laws.cycles_begin_from_the_last_usable_snapshot.Goals as goal

usable : (records : List JournalRecord) (places : List ℕ) (n : ℕ) → ((m : ℕ) → In m places → IsUsable records m) → (n ≡ 0) ⊎ In n places → (n ≡ 0) ⊎ IsUsable records n
usable records places n each (inl none) = inl none
usable records places n each (inr there) = inr (each n there)

pub returns-clause-usable : goal.returns-clause-usable
returns-clause-usable c = λ records kept place is. usable records kept.marks.places (newest_at place kept.marks.places) (stands records kept is).usable (newest_one place kept.marks.places)

pub returns-clause-before : goal.returns-clause-before
returns-clause-before c = λ records kept place is. newest_before place kept.marks.places

pub returns-clause-last : goal.returns-clause-last
returns-clause-last c = λ records kept place is n usable le. newest_last place kept.marks.places (stands records kept is).rises n ((stands records kept is).there n usable) le
