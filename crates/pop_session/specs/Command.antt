-- Command lines (RFC 1939, 3): a keyword in any case and its arguments, each behind one space; spaces at the end of a line do not count.
use Rattle.std.specs.Prelude.{ℕ, Bool, ◌||◌, List, [], ◌∷◌, length, nat_lt, codes, Option, None, Some, option_map, Result, Ok, Err, if◌then◌else◌}
use Rattle.std.specs.List.{list_any, before_first, after_first}
use Rattle.undo_base.specs.Digits.{number_between}
use Rattle.smtp_lines.specs.declared.line.SmtpLine.{SmtpLine}
use Rattle.smtp_lines.specs.Parts.{is_space, is_spelled, trimmed}
use Rattle.pop_session.specs.declared.command.Command.{Command}
use Rattle.pop_session.specs.declared.command.Command.TheVariants.{User, Pass, Stat, List as Listing, Retr, Dele, Noop, Rset, Top, Uidl, Quit}
use Rattle.pop_session.specs.declared.command.Keyword.{Keyword}
use Rattle.pop_session.specs.declared.command.Keyword.TheVariants as word
use Rattle.pop_session.specs.declared.command.LineRefused.{LineRefused}
use Rattle.pop_session.specs.declared.command.LineRefused.TheVariants.{Long, Unknown, Argument}

-- what a line is read as: a command, or why it is none; the argument of USER or PASS stands beside it
abbrev pub Reading : Type 0
Reading = Result Command LineRefused

-- the keyword that bytes spell
abbrev pub keyword_of : List ℕ → Option Keyword
keyword_of bytes =
    if is_spelled (codes "USER") bytes then Some word.User
    else (if is_spelled (codes "PASS") bytes then Some word.Pass
    else (if is_spelled (codes "STAT") bytes then Some word.Stat
    else (if is_spelled (codes "LIST") bytes then Some word.List
    else (if is_spelled (codes "RETR") bytes then Some word.Retr
    else (if is_spelled (codes "DELE") bytes then Some word.Dele
    else (if is_spelled (codes "NOOP") bytes then Some word.Noop
    else (if is_spelled (codes "RSET") bytes then Some word.Rset
    else (if is_spelled (codes "TOP") bytes then Some word.Top
    else (if is_spelled (codes "UIDL") bytes then Some word.Uidl
    else (if is_spelled (codes "QUIT") bytes then Some word.Quit
    else None))))))))))

-- the number of a message: 1 to 65536
abbrev pub message_number : List ℕ → Option ℕ
message_number text = number_between 1 65536 text

-- how many lines TOP tells: 0 to 65535
abbrev pub line_count : List ℕ → Option ℕ
line_count text = number_between 0 65535 text

-- the command, where its argument is one
abbrev pub or_bad : Option Command → Reading
or_bad None = Err Argument
or_bad (Some command) = Ok command

-- a command without arguments
abbrev pub alone : Command → List ℕ → Reading
alone command [] = Ok command
alone command (b ∷ argument) = Err Argument

-- a name: at least one byte, and no space
abbrev pub user_of : List ℕ → Reading
user_of [] = Err Argument
user_of (b ∷ argument) = if list_any is_space (b ∷ argument) then Err Argument else Ok User

-- a password: the rest of the line, which may have spaces
abbrev pub pass_of : List ℕ → Reading
pass_of [] = Err Argument
pass_of (b ∷ argument) = Ok Pass

-- the number of a message, or none
abbrev pub maybe_of : (Option ℕ → Command) → List ℕ → Reading
maybe_of command [] = Ok (command None)
maybe_of command (b ∷ argument) = or_bad (option_map (λ n. command (Some n)) (message_number (b ∷ argument)))

-- the number of a message
abbrev pub message_of : (ℕ → Command) → List ℕ → Reading
message_of command argument = or_bad (option_map command (message_number argument))

abbrev pub top_lines : Option ℕ → Option ℕ → Reading
top_lines (Some n) (Some k) = Ok (Top n k)
top_lines (Some n) None = Err Argument
top_lines None k = Err Argument

-- the number of a message, and a number of lines
abbrev pub top_of : List ℕ → Reading
top_of argument = top_lines (message_number (before_first is_space argument)) (line_count (after_first is_space argument))

-- a keyword with what stands behind it (RFC 1939, 5, 6 and 7)
unfoldable pub spoken : Keyword → List ℕ → Reading
spoken word.User argument = user_of argument
spoken word.Pass argument = pass_of argument
spoken word.Stat argument = alone Stat argument
spoken word.List argument = maybe_of Listing argument
spoken word.Retr argument = message_of Retr argument
spoken word.Dele argument = message_of Dele argument
spoken word.Noop argument = alone Noop argument
spoken word.Rset argument = alone Rset argument
spoken word.Top argument = top_of argument
spoken word.Uidl argument = maybe_of Uidl argument
spoken word.Quit argument = alone Quit argument

abbrev pub if_keyword : Option Keyword → List ℕ → Reading
if_keyword None argument = Err Unknown
if_keyword (Some keyword) argument = spoken keyword argument

-- a line of more than 1,022 bytes, the spaces at its end counted
abbrev pub is_too_long : SmtpLine → Bool
is_too_long line = line.long || nat_lt 1022 (length line.bytes)

-- the keyword stands before the first space
abbrev pub words_of : List ℕ → Reading
words_of bytes = if_keyword (keyword_of (before_first is_space bytes)) (after_first is_space bytes)

-- the command that a line is, or the first reason why it is none
abbrev pub command_of : SmtpLine → Reading
command_of line = if is_too_long line then Err Long else words_of (trimmed line.bytes)

-- what stands behind a line's first space
abbrev pub argument_of : SmtpLine → List ℕ
argument_of line = after_first is_space (trimmed line.bytes)
