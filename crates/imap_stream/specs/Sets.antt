-- Sets of messages (RFC 3501, 6.4.8 and 9: sequence-set), and the places of their messages in a view.
use Rattle.std.specs.Prelude.{◌≡◌, ℕ, Bool, ◌+◌, ◌-◌, ◌==◌, ◌&&◌, List, [], ◌∷◌, length, nat_le, nat_lt, min, max, slice_index, Option, None, Some, Result, Ok, Err, if◌then◌else◌, zero, suc}
use Rattle.std.specs.Option.{option_or}
use Rattle.std.specs.List.{list_any}
use Rattle.imap_stream.specs.declared.picks.SetRange.{SetRange}
use Rattle.imap_stream.specs.declared.picks.PickRefused.{PickRefused}
use Rattle.imap_stream.specs.declared.picks.PickRefused.TheVariants.{Number, NoMemory}

-- the number at an end of a range, where * is the greatest
abbrev pub end_at : ℕ → Option ℕ → ℕ
end_at greatest None = greatest
end_at greatest (Some n) = n

-- a range covers a number between its ends, whichever way it runs
abbrev pub covers : ℕ → SetRange → ℕ → Bool
covers greatest range n =
    let a = end_at greatest range.from in
    let b = end_at greatest range.to in
    nat_le (min a b) n && nat_le n (max a b)

-- a set covers what one of its ranges covers
abbrev pub covered : ℕ → List SetRange → ℕ → Bool
covered greatest set n = list_any (λ range. covers greatest range n) set

-- the number of the message at a place of the view: its UID, or its sequence number
abbrev pub number_at : Bool → List ℕ → ℕ → ℕ
number_at by_uid uids p = if by_uid then slice_index uids p else p + 1

-- the greatest number of a view
abbrev pub greatest_of : Bool → List ℕ → ℕ
greatest_of by_uid uids = if by_uid then slice_index uids (length uids - 1) else length uids

-- so many numbers from one on
abbrev pub run_from : ℕ → ℕ → List ℕ
run_from from zero = []
run_from from (suc n) = from ∷ run_from (from + 1) n

-- those of so many numbers from one on that pass a test
abbrev pub places_in : (ℕ → Bool) → ℕ → ℕ → List ℕ
places_in test from zero = []
places_in test from (suc n) = if test from then from ∷ places_in test (from + 1) n else places_in test (from + 1) n

-- the places of a view, from 0, at which the set covers the number
abbrev pub picked : List SetRange → List ℕ → Bool → List ℕ
picked set uids by_uid = places_in (λ p. covered (greatest_of by_uid uids) set (number_at by_uid uids p)) 0 (length uids)

-- an end that a view of so many messages does not have
abbrev pub beyond : ℕ → Option ℕ → Option ℕ
beyond count None = if count == 0 then Some 0 else None
beyond count (Some n) = if nat_lt count n then Some n else None

abbrev pub beyond_range : ℕ → SetRange → Option ℕ
beyond_range count range = option_or (beyond count range.from) (beyond count range.to)

-- the first end of a set that a view of so many messages does not have
abbrev pub first_beyond : ℕ → List SetRange → Option ℕ
first_beyond count [] = None
first_beyond count (range ∷ set) = option_or (beyond_range count range) (first_beyond count set)

-- sequence numbers that the view does not have are refused
abbrev pub refused : Bool → List SetRange → List ℕ → Option ℕ
refused by_uid set uids = if by_uid then None else first_beyond (length uids) set

-- what picking may answer
abbrev pub Picks : List SetRange → List ℕ → Bool → Result (List ℕ) PickRefused → Type 0
Picks set uids by_uid (Ok places) = (refused by_uid set uids ≡ None) × (places ≡ picked set uids by_uid)
Picks set uids by_uid (Err (Number n)) = refused by_uid set uids ≡ Some n
Picks set uids by_uid (Err NoMemory) = Unit {0}
