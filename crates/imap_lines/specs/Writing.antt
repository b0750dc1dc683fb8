-- Tokens as they are written in lines, with the literals behind them, and as they are sent (RFC 3501, 4.3 and 9: quoted, literal).
use Rattle.std.specs.Prelude.{ℕ, ◌+◌, ◌==◌, ◌||◌, ◌≤◌, List, [], ◌∷◌, ◌++◌, length, map, if◌then◌else◌}
use Rattle.std.specs.Fmt.{decimal}
use Rattle.std.specs.List.{AllByRecursion}
use Rattle.imap_stream.specs.Streams.{marked_line, ended_line}
use Rattle.imap_stream.specs.declared.next.Next.{Next}
use Rattle.imap_stream.specs.declared.next.Next.TheVariants.{Ask, Command}
use Rattle.imap_stream.specs.declared.next.RawCommand.{RawCommand}
use Rattle.imap_tokens.specs.declared.tokens.Token.{Token}
use Rattle.imap_tokens.specs.declared.tokens.Token.TheVariants.{Space, Open, Close, Word, Quoted, Literal}

-- What is written of a command: a line, those that follow it, and the literals, each behind the line at its place.
pub record Written : Type 0 where
  pub line : List ℕ
  pub lines : List (List ℕ)
  pub literals : List (List ℕ)

abbrev pub raw_of : Written → RawCommand
raw_of w = record { lines = w.line ∷ w.lines; literals = w.literals }

-- the bytes of a quoted string: " and \ have a \ before them
abbrev pub escaped_text : List ℕ → List ℕ
escaped_text [] = []
escaped_text (b ∷ text) = if b == 34 || b == 92 then 92 ∷ b ∷ escaped_text text else b ∷ escaped_text text

-- these bytes before what follows
abbrev pub with_bytes : List ℕ → Written → Written
with_bytes bytes w = record { line = bytes ++ w.line; lines = w.lines; literals = w.literals }

-- a token before what follows
abbrev pub with_token : Token → Written → Written
with_token Space w = with_bytes (32 ∷ []) w
with_token Open w = with_bytes (40 ∷ []) w
with_token Close w = with_bytes (41 ∷ []) w
with_token (Word text) w = with_bytes text w
with_token (Quoted text) w = with_bytes (34 ∷ escaped_text text ++ 34 ∷ []) w
with_token (Literal text) w = record { line = []; lines = w.line ∷ w.lines; literals = text ∷ w.literals }

abbrev pub written : List Token → Written
written [] = record { line = []; lines = []; literals = [] }
written (token ∷ tokens) = with_token token (written tokens)

-- what is sent of lines and of the literals behind them: each line with the mark of its literal
abbrev pub sent_lines : List (List ℕ) → List (List ℕ) → List ℕ
sent_lines [] literals = []
sent_lines (line ∷ lines) [] = ended_line line ++ sent_lines lines []
sent_lines (line ∷ lines) (literal ∷ literals) = ended_line (marked_line line (decimal (length literal))) ++ (literal ++ sent_lines lines literals)

-- a command on the stream
abbrev pub sent : RawCommand → List ℕ
sent raw = sent_lines raw.lines raw.literals

-- how many octets the lines have, with their marks
abbrev pub octets_of : List (List ℕ) → List (List ℕ) → ℕ
octets_of [] literals = 0
octets_of (line ∷ lines) [] = length line + octets_of lines []
octets_of (line ∷ lines) (literal ∷ literals) = length (marked_line line (decimal (length literal))) + octets_of lines literals

-- A command whose lines and literals are within the limits.
pub record IsSendable (raw : RawCommand) : Type 0 where
  pub few : length raw.literals ≤ 8
  pub small : AllByRecursion (λ literal. length literal ≤ 1048576) raw.literals
  pub short : octets_of raw.lines raw.literals ≤ 65536

-- what the stream gives of it: the literals to be invited, and the command
abbrev pub given_of : RawCommand → List Next
given_of raw = map (λ literal. Ask (length literal)) raw.literals ++ Command raw ∷ []
