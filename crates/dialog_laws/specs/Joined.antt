-- Events of one connection, one behind the other.
use Rattle.std.specs.Prelude.{ℕ, List, [], ◌∷◌, ◌++◌, Option, None, Some}
use Rattle.console_head.specs.Request.{Stage}
use Rattle.mail_loop.specs.State.{Seat, State}
use Rattle.mail_loop.specs.Afterwards.{both_follow}
use Rattle.mail_loop.specs.ConsoleTurn.{both}
use Rattle.mail_loop.specs.TurnCounts.{both_counted}
use Rattle.mail_loop.specs.Turns.{Heard, hears_seat}

-- what comes of an event, and then of another
abbrev pub both_heard : Heard → Heard → Heard
both_heard first next = record {
  said = first.said ++ next.said;
  state = next.state;
  seat = next.seat;
  aftermath = both_follow first.aftermath next.aftermath;
  unsealed = first.unsealed ++ next.unsealed;
  counts = both_counted first.counts next.counts;
  consoles = both first.consoles next.consoles;
}

-- another event finds the connection where an event left it; one that was closed hears no more
abbrev pub hears_then : Heard → Option Seat → (State → Seat → Heard) → Heard
hears_then first None more = first
hears_then first (Some seat) more = both_heard first (more first.state seat)

abbrev pub joined : Heard → (State → Seat → Heard) → Heard
joined first more = hears_then first first.seat more

-- what comes of several events of a connection at a moment, one behind the other, that nothing hinders: a first, and more
abbrev pub hears_all : Stage → ℕ → State → ℕ → Seat → List ℕ → List (List ℕ) → Heard
hears_all stage at s conn seat first [] = hears_seat [] stage at s conn seat first
hears_all stage at s conn seat first (next ∷ more) = joined (hears_seat [] stage at s conn seat first) (λ t left. hears_all stage at t conn left next more)
