-- Commands of an SMTP client (RFC 5321, 4.1.1).
use Rattle.std.specs.Prelude.{◌≡◌, ℕ, Bool, ◌==◌, ◌&&◌, ◌||◌, List, [], ◌∷◌, length, nat_lt, codes, Option, None, Some, Result, Ok, Err, if◌then◌else◌}
use Rattle.std.specs.List.{list_all, before_first, after_first}
use Rattle.std.specs.Result.{IsOk}
use Rattle.smtp_lines.specs.declared.line.SmtpLine.{SmtpLine}
use Rattle.smtp_lines.specs.declared.word.Word.{Word}
use Rattle.smtp_lines.specs.declared.word.Word.TheVariants as word
use Rattle.smtp_lines.specs.declared.command.SmtpCommand.{SmtpCommand}
use Rattle.smtp_lines.specs.declared.command.SmtpCommand.TheVariants.{Helo, Ehlo, Mail, Rcpt, Data, Rset, Noop, Vrfy, Quit}
use Rattle.smtp_lines.specs.declared.command.SmtpRefused.{SmtpRefused}
use Rattle.smtp_lines.specs.declared.command.SmtpRefused.TheVariants.{Long, Unknown, NotDone, Argument, Parameter, NoMemory}
use Rattle.smtp_lines.specs.Parts.{is_space, is_short, is_visible, trimmed}
use Rattle.smtp_lines.specs.Word.{word_of}
use Rattle.smtp_lines.specs.Path.{path_at, path_of, outside, has_domain, local_of, domain_of, is_recipient}

-- What a line is read as: a command, or why it is none.
abbrev pub Reading : Type 0
Reading = Result SmtpCommand SmtpRefused

-- a command that has no argument
abbrev pub alone : SmtpCommand → List ℕ → Reading
alone command [] = Ok command
alone command (b ∷ argument) = Err Argument

-- 1 to 200 bytes that show
abbrev pub is_client : List ℕ → Bool
is_client bytes = is_short bytes && list_all is_visible bytes

-- HELO and EHLO (RFC 5321, 4.1.1.1)
abbrev pub greeting : (List ℕ → SmtpCommand) → List ℕ → Reading
greeting command argument = if is_client argument then Ok (command argument) else Err Argument

-- what follows a path: nothing, or a space and a parameter, which is refused
abbrev pub refused_tail : List ℕ → Option SmtpRefused
refused_tail [] = None
refused_tail (b ∷ tail) = if b == 32 then Some Parameter else Some Argument

abbrev pub unless : Option SmtpRefused → SmtpCommand → Reading
unless None command = Ok command
unless (Some refused) command = Err refused

-- a command of a path, if there is one, and of what follows it
abbrev pub with_path : (List ℕ → SmtpCommand) → Option (List ℕ) → List ℕ → Reading
with_path command None tail = Err Argument
with_path command (Some path) tail = unless (refused_tail tail) (command path)

-- MAIL (RFC 5321, 4.1.1.2)
abbrev pub mail_of : List ℕ → Reading
mail_of argument = let rest = path_at (codes "FROM:") argument in with_path Mail (path_of rest) (outside rest)

-- the path of a recipient that bytes begin with
abbrev pub if_recipient : Option (List ℕ) → Option (List ℕ)
if_recipient None = None
if_recipient (Some path) = if is_recipient path then Some path else None

abbrev pub recipient_path : List ℕ → Option (List ℕ)
recipient_path rest = if_recipient (path_of rest)

abbrev pub recipient : List ℕ → SmtpCommand
recipient path = if has_domain path then Rcpt (local_of path) (Some (domain_of path)) else Rcpt path None

-- RCPT (RFC 5321, 4.1.1.3)
abbrev pub rcpt_of : List ℕ → Reading
rcpt_of argument = let rest = path_at (codes "TO:") argument in with_path recipient (recipient_path rest) (outside rest)

-- NOOP (RFC 5321, 4.1.1.9)
abbrev pub noop_of : List ℕ → Reading
noop_of argument = Ok (Noop argument)

-- VRFY (RFC 5321, 4.1.1.6)
abbrev pub vrfy_of : List ℕ → Reading
vrfy_of [] = Err Argument
vrfy_of (b ∷ argument) = Ok (Vrfy (b ∷ argument))

-- a word with its argument
unfoldable pub spoken : Word → List ℕ → Reading
spoken word.Helo argument = greeting Helo argument
spoken word.Ehlo argument = greeting Ehlo argument
spoken word.Mail argument = mail_of argument
spoken word.Rcpt argument = rcpt_of argument
spoken word.Data argument = alone Data argument
spoken word.Rset argument = alone Rset argument
spoken word.Noop argument = noop_of argument
spoken word.Vrfy argument = vrfy_of argument
spoken word.Quit argument = alone Quit argument
spoken word.Expn argument = Err NotDone
spoken word.Help argument = Err NotDone

abbrev pub if_word : Option Word → List ℕ → Reading
if_word None argument = Err Unknown
if_word (Some w) argument = spoken w argument

-- a line of more than 1,022 bytes
abbrev pub is_too_long : SmtpLine → Bool
is_too_long line = line.long || nat_lt 1022 (length line.bytes)

-- the word before the first space and the argument behind it, which is empty where there is none
abbrev pub words_of : List ℕ → Reading
words_of bytes = if_word (word_of (before_first is_space bytes)) (after_first is_space bytes)

-- the command that a line is, or why it is none; spaces at its end don't count
abbrev pub command_of : SmtpLine → Reading
command_of line = if is_too_long line then Err Long else words_of (trimmed line.bytes)

-- The line is read as it is to be. No memory is found only for a command.
abbrev pub ReadsCommand : Reading → Reading → Type 0
ReadsCommand reading (Ok command) = reading ≡ Ok command
ReadsCommand reading (Err Long) = reading ≡ Err Long
ReadsCommand reading (Err Unknown) = reading ≡ Err Unknown
ReadsCommand reading (Err NotDone) = reading ≡ Err NotDone
ReadsCommand reading (Err Argument) = reading ≡ Err Argument
ReadsCommand reading (Err Parameter) = reading ≡ Err Parameter
ReadsCommand reading (Err NoMemory) = IsOk reading
