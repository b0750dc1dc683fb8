-- What a connection hears of its stream, by what it speaks.
use Rattle.std.proofs.Common.{ℕ, List}
use Rattle.smtp_lines.specs.declared.line.SmtpLine.{SmtpLine}
use Rattle.smtp_session.specs.declared.dialog.Dialog.{Dialog}
use Rattle.imap_stream.specs.Commands.{Heard as Stream}
use Rattle.imap_session.specs.declared.dialog.Dialog.{Dialog as ImapDialog}
use Rattle.pop_session.specs.declared.dialog.Dialog.{Dialog as PopDialog}
use Rattle.mail_loop.specs.Hindrance.{Hindrance}
use Rattle.mail_loop.specs.State.{State}
use Rattle.mail_loop.specs.Session.{Session}
use Rattle.mail_loop.specs.SmtpTurn.{smtp_session}
use Rattle.mail_loop.specs.ImapTurn.{imap_session}
use Rattle.mail_loop.specs.Turns.{Heard, hears_turns, imap_source, pop_source, smtp_source}

-- an SMTP client's lines
abbrev pub hears_lines : List Hindrance → ℕ → State → ℕ → Dialog → List ℕ → Heard
hears_lines hs at s conn d stream = hears_turns smtp_source smtp_session hs at s conn d stream

-- a POP3 client's, by a session that sees the others
abbrev pub fetches : Session PopDialog SmtpLine → List Hindrance → ℕ → State → ℕ → PopDialog → List ℕ → Heard
fetches session hs at s conn d stream = hears_turns pop_source session hs at s conn d stream

-- what an IMAP client's stream has given
abbrev pub hears_commands : List Hindrance → ℕ → State → ℕ → ImapDialog → Stream → Heard
hears_commands hs at s conn d stream = hears_turns imap_source imap_session hs at s conn d stream
