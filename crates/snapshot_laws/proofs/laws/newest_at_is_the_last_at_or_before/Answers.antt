-- The last of those that are not behind the place.
use Rattle.std.proofs.Common.{◌≡◌, ◌⊎◌, inl, inr, ℕ, List}
use Rattle.std.specs.List.{Contains}
use Rattle.store_kept.specs.Kept.{newest_at}
use Rattle.snapshot_laws.proofs.Members.{In, contains_of, in_of, newest_before, newest_last, newest_one, rises_of}
use Rattle.snapshot_laws.proofs.laws.newest_at_is_the_last_at_or_before.Goals as goal

one : (place : ℕ) (places : List ℕ) → (newest_at place places ≡ 0) ⊎ In (newest_at place places) places → (newest_at place places ≡ 0) ⊎ Contains places (newest_at place places)
one place places (inl none) = inl none
one place places (inr there) = inr (contains_of (newest_at place places) places there)

pub returns-clause-one : goal.returns-clause-one
returns-clause-one c = λ place places. one place places (newest_one place places)

pub returns-clause-before : goal.returns-clause-before
returns-clause-before c = newest_before

pub returns-clause-last : goal.returns-clause-last
returns-clause-last c = λ place places rises n there le. newest_last place places (rises_of places rises) n (in_of n places there) le
