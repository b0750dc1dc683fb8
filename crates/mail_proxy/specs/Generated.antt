-- The events that the command `grow` serves: mail to each user in turn, then a client that reads the first user's mail. Then comes an operator who
-- takes one message out of the past.
use Rattle.std.specs.Prelude.{ℕ, ◌+◌, ◌%◌, ◌==◌, List, [], ◌∷◌, ◌++◌, map, codes, decimal, if◌then◌else◌, suc, zero}
use Rattle.std.specs.List.{flat_map}
use Rattle.undo_outside.specs.declared.event.Event.{Event}
use Rattle.undo_outside.specs.declared.event.What.TheVariants.{Joined, Bytes}
use Rattle.undo_outside.specs.declared.event.Role.TheVariants.{Smtp, Imap, Http}
use Rattle.script_link.specs.Line.{event_of, said}

-- the moment that is so many seconds after 7 January 2005, 10:00:00
abbrev pub moment_of : ℕ → ℕ
moment_of seconds = 1105092000 + seconds

-- lines that a connection sends at a moment, each as an event of its own
abbrev pub sends : ℕ → ℕ → List (List ℕ) → List Event
sends conn at lines = map (λ line. event_of conn at (Bytes (said line))) lines

-- ---- the mail

-- the first connection speaks SMTP and greets
abbrev pub greeting : List Event
greeting = event_of 1 (moment_of 0) (Joined Smtp) ∷ sends 1 (moment_of 0) (codes "HELO grow.test" ∷ [])

-- who gets the mail of a round: the three users in turn
abbrev pub receiver_of : ℕ → List ℕ
receiver_of i =
    if i % 3 == 0 then codes "ann"
    else if i % 3 == 1 then codes "bob"
    else codes "carl"

-- the line that names who gets it
abbrev pub recipient_line : ℕ → List ℕ
recipient_line i = codes "RCPT TO:<" ++ receiver_of i ++ codes "@mail.test>"

abbrev pub round_lines : ℕ → List (List ℕ)
round_lines i =
    codes "MAIL FROM:<g@mail.test>"
    ∷ recipient_line i
    ∷ codes "DATA"
    ∷ (codes "Subject: m " ++ decimal i)
    ∷ []
    ∷ (codes "round " ++ decimal i)
    ∷ codes "."
    ∷ []

-- a round: a message is sent, a second after the round before
abbrev pub round_of : ℕ → List Event
round_of i = sends 1 (moment_of i) (round_lines i)

-- the numbers from 1 to this one
abbrev pub up_to : ℕ → List ℕ
up_to zero = []
up_to (suc n) = up_to n ++ suc n ∷ []

-- ---- what follows the last round, at its moment

-- the second connection speaks IMAP: the first user looks at each message
abbrev pub reading_of : ℕ → List Event
reading_of rounds =
    event_of 2 (moment_of rounds) (Joined Imap)
    ∷ sends 2 (moment_of rounds) (codes "a LOGIN ann a1" ∷ codes "b SELECT INBOX" ∷ codes "c FETCH 1:* (FLAGS BODY.PEEK[])" ∷ [])

-- a request for a cycle over everything, without the item 4, which is the mail of the third round
abbrev pub repair_request : List ℕ
repair_request =
    said (codes "POST /cycle HTTP/1.1") ++ said (codes "Host: x") ++ said (codes "Content-Length: 35") ++ said []
    ++ codes "{\"drop\":[4],\"key\":\"grow\",\"point\":0}"

-- the third connection is a console, which asks for that in one piece
abbrev pub repair_of : ℕ → List Event
repair_of rounds = event_of 3 (moment_of rounds) (Joined Http) ∷ event_of 3 (moment_of rounds) (Bytes repair_request) ∷ []

-- ---- all of it

-- the events of so many rounds; the end follows them
abbrev pub generated : ℕ → List Event
generated rounds = greeting ++ flat_map round_of (up_to rounds) ++ reading_of rounds ++ repair_of rounds
