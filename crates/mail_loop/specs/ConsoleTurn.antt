-- A turn of a console: the answer to its request, over the desk.
use Rattle.std.specs.Prelude.{ℕ, Bool, true, false, ◌||◌, List, [], ◌++◌, Option, None, Some, if◌then◌else◌}
use Rattle.std.specs.List.{AllByRecursion}
use Rattle.console_head.specs.Request.{Says, Stage}
use Rattle.console_session.specs.declared.reply.After.{After}
use Rattle.console_session.specs.declared.reply.After.TheVariants.{Waits, Closes, Stops, Fails, Rewinds, Upgrades}
use Rattle.console_session.specs.Hindrance as console
use Rattle.console_session.specs.ConsoleTurn.{ConsoleTurn, asked_of}
use Rattle.store_kept.specs.Kept.{Kept}
use Rattle.mail_loop.specs.declared.aftermath.Aftermath.TheVariants.{Quiet, Rewound, Upgraded}
use Rattle.mail_loop.specs.declared.console_turn.Sequel.{Sequel}
use Rattle.mail_loop.specs.Hindrance.{Hindrance, Clear, Refused, Textless, Unread, UnreadRefused, UnreadUnheard, Misread, Misled, Unstored, Unheard, Unanswered, Unsealed, Untold, Unwritten, UnwrittenUnheard, Halfway}

-- the bytes of a console, and what they were read as
pub record ConsoleReading : Type 0 where
  pub bytes : List ℕ
  pub stage : Stage

-- what consoles' bytes were read as, and whether one asked serving to stop
pub record Consoles : Type 0 where
  pub readings : List ConsoleReading
  pub stops : Bool

abbrev pub no_consoles : Consoles
no_consoles = record { readings = []; stops = false }

-- of two, one after the other
abbrev pub both : Consoles → Consoles → Consoles
both a b = record { readings = a.readings ++ b.readings; stops = a.stops || b.stops }

-- each was read as what it is
abbrev pub AreSaid : List ConsoleReading → Type 0
AreSaid readings = AllByRecursion (λ r. Says r.bytes r.stage) readings

-- how a console's turn may go otherwise
abbrev pub of_console : Hindrance → console.Hindrance
of_console Clear = console.Clear
of_console Refused = console.Refused
of_console Textless = console.Clear
of_console Unread = console.Unread
of_console UnreadRefused = console.UnreadRefused
of_console UnreadUnheard = console.UnreadUnheard
of_console (Misread texts h) = console.Clear
of_console (Misled said left) = console.Misread said left
of_console Unstored = console.Clear
of_console Unheard = console.Unheard
of_console Unanswered = console.Unanswered
of_console Unsealed = console.Unsealed
of_console Untold = console.Untold
of_console Unwritten = console.Unwritten
of_console UnwrittenUnheard = console.UnwrittenUnheard
of_console (Halfway h) = console.Clear

-- the bytes of a console that came, read so, at a moment
abbrev pub console_turn : Hindrance → ℕ → Kept → Stage → ConsoleTurn
console_turn h at kept stage = console.hindered (of_console h) at kept (asked_of kept.house stage)

-- what follows a console's answer: whether its connection is closed, whether serving is asked to stop, and what follows for the other connections
abbrev pub sequel_of : After → Sequel
sequel_of Waits = record { closes = false; stops = false; aftermath = Quiet }
sequel_of Closes = record { closes = true; stops = false; aftermath = Quiet }
sequel_of Stops = record { closes = true; stops = true; aftermath = Quiet }
sequel_of Fails = record { closes = true; stops = false; aftermath = Quiet }
sequel_of Rewinds = record { closes = true; stops = false; aftermath = Rewound }
sequel_of Upgrades = record { closes = true; stops = false; aftermath = Upgraded }

-- the bytes that are kept of a console, where it stays open
abbrev pub left_by : After → List ℕ → Option (List ℕ)
left_by after bytes = if (sequel_of after).closes then None else Some bytes
