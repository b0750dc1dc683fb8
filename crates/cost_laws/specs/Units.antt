-- How many units of a stream an event may end.
use Rattle.std.specs.Prelude.{◌≡◌, ℕ, ◌+◌, ◌*◌, ◌≤◌, List, [], length}
use Rattle.smtp_lines.specs.Lines.{lines_of}
use Rattle.mail_loop.specs.State.{Seat, Smtp, Imap, Http, Pop}

-- So many units may end in so many octets that come: each ends with CRLF, and of the first all but its LF may have come before.
abbrev pub EndIn : ℕ → List ℕ → Type 0
EndIn units bytes = 2 * units ≤ length bytes + 1

-- a connection of a mail program
abbrev pub IsOfMail : Seat → Type 0
IsOfMail (Smtp unserved d) = Unit {0}
IsOfMail (Imap stream d) = Unit {0}
IsOfMail (Http came) = ⊥
IsOfMail (Pop unserved d) = Unit {0}

-- of a mail program's stream each unit that is whole was served
abbrev pub IsServed : Seat → Type 0
IsServed (Smtp unserved d) = lines_of unserved ≡ []
IsServed (Imap stream d) = stream.said ≡ []
IsServed (Http came) = Unit {0}
IsServed (Pop unserved d) = lines_of unserved ≡ []
