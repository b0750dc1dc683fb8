-- Events that were read before others.
use Rattle.std.specs.Prelude.{ℕ, List, ◌++◌, Result, Ok, Err}
use Rattle.undo_outside.specs.declared.event.Event.{Event}

-- events, and then more, unless a line is bad
abbrev pub with_events : List Event → Result (List Event) ℕ → Result (List Event) ℕ
with_events front (Ok events) = Ok (front ++ events)
with_events front (Err n) = Err n
