-- What the code's answers to an IMAP client are in the machine.
use Rattle.std.specs.Prelude.{◌≡◌, ℕ, Bool, true, false, List, Result, Ok, Err}
use Rattle.undo_base.specs.declared.memory.NoMemory.{NoMemory as WantOfMemory}
use Rattle.imap_lines.specs.Command.{Reading}
use Rattle.imap_stream.specs.declared.next.Next.{Next}
use Rattle.imap_stream.specs.declared.next.Next.TheVariants.{Command, Ask as Mark, Bad, NotYet}
use Rattle.imap_session.specs.declared.dialog.Dialog.{Dialog}
use Rattle.store_kept.specs.Kept.{Kept}
use Rattle.mail_loop.specs.declared.reply.Reply.{Reply}
use Rattle.mail_loop.specs.Turn.{Turn}
use Rattle.mail_loop.specs.Session.{followed}
use Rattle.mail_loop.specs.Hindrance.{Hindrance, Service, row}
use Rattle.mail_loop.specs.ImapTurn.{imap_speech, obeys, out_of_memory_command}
use Rattle.mail_loop.specs.Took.{Adds}

-- nothing whole is there
abbrev pub is_not_yet : Next → Bool
is_not_yet (Command raw) = false
is_not_yet (Mark length) = false
is_not_yet (Bad line) = false
is_not_yet NotYet = true

-- an answer was made and is in the reply, or the connection closes
abbrev pub IsAnswered : Result (List ℕ) WantOfMemory → Dialog → Reply → Dialog → Reply → Type 0
IsAnswered (Ok said) d old d' new = (d' ≡ d) × Adds said false old new
IsAnswered (Err e) d old d' new = new ≡ record old { closes = true }

-- a command, or what is none
abbrev pub obeyed : Service → Kept → Dialog → Reading → Turn Dialog
obeyed desk kept d reading = let t = obeys kept d reading in followed imap_speech desk kept t.out t.dialog

-- a command, or what is none, hindered or not
abbrev pub obeyed_under : Hindrance → ℕ → Kept → Dialog → Reading → Turn Dialog
obeyed_under h at kept d reading = (row h at kept (out_of_memory_command kept d reading) (λ desk. obeyed desk kept d reading)).follows
