-- Which port is whose.
use Rattle.std.specs.Prelude.{◌≡◌, ℕ, List, [], ◌∷◌, map, slice_get, Option, Some, None, option_map}
use Rattle.undo_outside.specs.declared.event.Role.{Role}
use Rattle.undo_outside.specs.declared.event.Role.TheVariants.{Smtp, Imap, Http, Pop}
use Rattle.host_outside.specs.declared.listeners.Listeners.{Listeners}
use Rattle.host_outside.specs.declared.listeners.Port.{Port}

-- what is spoken at a port, and the number that was asked for
abbrev pub Row : Type 0
Row = Role × ℕ

abbrev pub row_of : {L : Type 0} → Port L → Row
row_of port = (port.role, port.asked)

-- the row of a port that may be none
abbrev pub rows_of : Role → Option ℕ → List Row
rows_of role None = []
rows_of role (Some asked) = (role, asked) ∷ []

-- These were asked for, and no others: ports of SMTP, IMAP and HTTP, and of POP3 where that is given.
abbrev pub AskedFor : {L : Type 0} → ℕ × ℕ × ℕ → Option ℕ → Listeners L → Type 0
AskedFor (smtp, imap, http) pop listeners = map row_of listeners.ports.items ≡ (Smtp, smtp) ∷ (Imap, imap) ∷ (Http, http) ∷ rows_of Pop pop

-- the row of a listener, if it is that of one
abbrev pub row_at : {L : Type 0} → ℕ → Listeners L → Option Row
row_at place listeners = option_map row_of (slice_get listeners.ports.items place)

-- The seats at which a connection of a role may sit are the first so many: the last sixteen are the console's alone.
abbrev pub seats_of : Role → ℕ
seats_of Smtp = 984
seats_of Imap = 984
seats_of Http = 1000
seats_of Pop = 984
