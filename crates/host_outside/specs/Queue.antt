-- Whose turn it is in a round.
use Rattle.std.specs.Prelude.{◌≡◌, ◌==◌, ◌&&◌, ◌-◌, if◌then◌else◌, ℕ, nat_lt, Bool, true, false, MatchBool, List, [], ◌∷◌, ◌++◌, take, slice_get, Option, Some, None}
use Rattle.std.specs.VecDeque.{deque_len}
use Rattle.host_outside.specs.declared.queue.Mark.{Mark}
use Rattle.host_outside.specs.declared.queue.Queue.{Queue}

-- who is visited in this round, in order: those that were quiet, those that come first, and as many of the rest as are due
abbrev pub due_of : Queue → List ℕ
due_of queue = queue.quiet.items ++ queue.first.items ++ take queue.due queue.rest.items

-- all that stand in it
abbrev pub all_of : Queue → List ℕ
all_of queue = queue.quiet.items ++ queue.first.items ++ queue.rest.items

-- a place was added behind the others, or nothing was done
abbrev pub Adds : Bool → ℕ → List ℕ → List ℕ → Type 0
Adds true place old new = new ≡ old ++ place ∷ []
Adds false place old new = new ≡ old

-- it was last active before the round that came before this one
abbrev pub is_older : ℕ → Option Mark → Bool
is_older round None = false
is_older round (Some mark) = nat_lt mark.active (round - 1)

-- a place was active neither in this round nor in the last one
abbrev pub is_quiet : ℕ → Queue → Bool
is_quiet place queue = is_older queue.round (slice_get queue.marks.items place)

-- A place of which the system told: one that was quiet may come behind others that were, and any other behind those that come
-- first. Nobody else comes before who stands there.
abbrev pub Wakes : ℕ → Queue → Queue → Type 0
Wakes place old new = MatchBool (is_quiet place old)
    ((new.first ≡ old.first) × ((is_called : Bool) × Adds is_called place old.quiet.items new.quiet.items))
    ((new.quiet ≡ old.quiet) × ((is_called : Bool) × Adds is_called place old.first.items new.first.items))

-- nobody stands in it
abbrev pub is_calm : Queue → Bool
is_calm queue = (deque_len queue.quiet == 0) && (deque_len queue.first == 0) && (deque_len queue.rest == 0)

-- How many milliseconds are waited after so many without an event: not at all where somebody stands in the queue, and no longer
-- than until an idle event is due.
abbrev pub longest_wait : Queue → ℕ → ℕ
longest_wait queue quiet = if is_calm queue then 1000 - quiet else 0
