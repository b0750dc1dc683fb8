-- Whose connection it is: nobody is logged in on it but one user, and none of its commands logs in another.
use Rattle.std.specs.Prelude.{◌≡◌, ◌⊎◌, ℕ, ◌==◌, ◌&&◌, Bool, true, false, List, [], ◌∷◌, ◌++◌, Option, Some, None, Ok, Err, unwrap_or, option_map}
use Rattle.std.specs.List.{list_all, list_any}
use Rattle.undo_base.specs.declared.keys.User.{User}
use Rattle.verb_core.specs.declared.conf.House.{House}
use Rattle.verb_core.specs.Boxes.{same_user}
use Rattle.imap_lines.specs.declared.command.ImapWhat.{ImapWhat}
use Rattle.imap_lines.specs.declared.command.ImapWhat.TheVariants.{Login}
use Rattle.imap_lines.specs.Command.{Reading, command_of}
use Rattle.imap_stream.specs.Commands as imap_stream
use Rattle.imap_stream.specs.declared.next.Next.{Next}
use Rattle.imap_stream.specs.declared.next.Next.TheVariants.{Command}
use Rattle.imap_view.specs.Names.{account_of}
use Rattle.imap_session.specs.declared.dialog.Dialog.{Dialog}
use Rattle.smtp_lines.specs.declared.line.SmtpLine.{SmtpLine}
use Rattle.smtp_lines.specs.Line.{smtp_lines_of}
use Rattle.pop_session.specs.declared.command.Command.TheVariants.{Pass, User as Name}
use Rattle.pop_session.specs.declared.dialog.Awaits.{Awaits as PopAwaits}
use Rattle.pop_session.specs.declared.dialog.Awaits.TheVariants.{Outcome}
use Rattle.pop_session.specs.declared.dialog.Dialog.{Dialog as PopDialog}
use Rattle.pop_session.specs.declared.dialog.Pending.TheVariants.{Enter}
use Rattle.pop_session.specs.declared.dialog.Stage.{Stage}
use Rattle.pop_session.specs.declared.dialog.Stage.TheVariants.{Authorization, Transaction}
use Rattle.pop_session.specs.Command.{Reading as PopReading, argument_of}
use Rattle.pop_session.specs.Command as pop_command
use Rattle.pop_session.specs.Dialog as pop
use Rattle.pop_session.specs.Dialog.{awaits_login}
use Rattle.mail_loop.specs.PopTurn.{in_use}
use Rattle.mail_loop.specs.State.{Seat, Seats, Smtp, Imap, Http, Pop, beside}

-- the number of a user who logs in is this one's
abbrev pub is_number_of : User → Option ℕ → Bool
is_number_of u number = unwrap_or (option_map (λ (n : ℕ). n == u.0) number) true

-- the user is logged in with an IMAP client, or nobody is and no mailbox is selected
abbrev pub IsReaderOf : User → Dialog → Type 0
IsReaderOf u d = (d.user ≡ Some u) ⊎ ((d.user ≡ None) × (d.selected ≡ None))

-- where a command logs in somebody, it is this user
abbrev pub logs_in_only : House → User → ImapWhat → Bool
logs_in_only house u (Login name password) = is_number_of u (account_of house name password)
logs_in_only house u _ = true

abbrev pub reads_only : House → User → Reading → Bool
reads_only house u (Ok command) = logs_in_only house u command.what
reads_only house u (Err unread) = true

-- the same of what comes on a stream
abbrev pub comes_only : House → User → Next → Bool
comes_only house u (Command raw) = reads_only house u (command_of raw)
comes_only house u _ = true

-- no command of a stream logs in another user
abbrev pub are_only_of : House → User → List Next → Bool
are_only_of house u nexts = list_all (comes_only house u) nexts

-- ---- a POP3 client

-- where the outcome of a PASS is awaited, it is this user's
abbrev pub enters_only : User → PopAwaits → Type 0
enters_only u (Outcome (Enter v drop)) = v ≡ u
enters_only u _ = Unit {0}

-- the user is logged in with a POP3 client, or nobody is but the user, while the outcome of a PASS is awaited
abbrev pub is_fetcher_in : User → Stage → PopAwaits → Type 0
is_fetcher_in u (Authorization name) awaits = enters_only u awaits
is_fetcher_in u (Transaction v drop) awaits = (v ≡ u) × (awaits_login awaits ≡ false)

abbrev pub IsFetcherOf : User → PopDialog → Type 0
IsFetcherOf u d = is_fetcher_in u d.stage d.awaits

-- where a line logs in somebody, under the name that was given before, it is this user
abbrev pub passes_only : House → User → Option (List ℕ) → List ℕ → PopReading → Bool
passes_only house u (Some name) argument (Ok Pass) = is_number_of u (pop.account_of house name argument)
passes_only house u _ argument _ = true

abbrev pub line_is_of : House → User → PopDialog → SmtpLine → Bool
line_is_of house u d line = passes_only house u (pop.given_name d.stage) (argument_of line) (pop_command.command_of line)

-- the name that a line gives, if it is a USER
abbrev pub name_in : List ℕ → PopReading → Option (List ℕ)
name_in argument (Ok Name) = Some argument
name_in argument _ = None

-- where one of these lines logs in somebody under a name, it is this user
abbrev pub all_pass_only : House → User → Option (List ℕ) → List SmtpLine → Bool
all_pass_only house u name lines = list_all (λ line. passes_only house u name (argument_of line) (pop_command.command_of line)) lines

-- the same under each name that one of the lines gives, of those behind it
abbrev pub name_only : House → User → List SmtpLine → Bool
name_only house u [] = true
name_only house u (line ∷ lines) = all_pass_only house u (name_in (argument_of line) (pop_command.command_of line)) lines && name_only house u lines

-- no line logs in another user, under the name that was given before all or under one that these lines give before it
abbrev pub lines_are_of : House → User → PopDialog → List SmtpLine → Bool
lines_are_of house u d lines = all_pass_only house u (pop.given_name d.stage) lines && name_only house u lines

-- ---- a connection

-- whose connection it is, by login: that of an IMAP or a POP3 client. An SMTP client logs nobody in, and a console is the operator's
abbrev pub IsSeatOf : User → Seat → Type 0
IsSeatOf u (Smtp unserved d) = ⊥
IsSeatOf u (Imap stream d) = IsReaderOf u d
IsSeatOf u (Http came) = ⊥
IsSeatOf u (Pop unserved d) = IsFetcherOf u d

-- none of the bytes that come on it logs in another user
abbrev pub bytes_are_of : House → User → Seat → List ℕ → Bool
bytes_are_of house u (Smtp unserved d) bytes = true
bytes_are_of house u (Imap stream d) bytes = are_only_of house u (imap_stream.heard stream bytes).said
bytes_are_of house u (Http came) bytes = true
bytes_are_of house u (Pop unserved d) bytes = lines_are_of house u d (smtp_lines_of (unserved ++ bytes))

-- in both states or in none another connection has the user's maildrop in use, which a POP3 client is told of
abbrev pub SameUse : User → ℕ → Seat → Seats → Seats → Type 0
SameUse u conn (Smtp unserved d) one other = Unit {0}
SameUse u conn (Imap stream d) one other = Unit {0}
SameUse u conn (Http came) one other = Unit {0}
SameUse u conn (Pop unserved d) one other = list_any (same_user u) (in_use (beside conn one)) ≡ list_any (same_user u) (in_use (beside conn other))
