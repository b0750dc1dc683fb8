-- A stream as its commands (RFC 3501, 2.2.1, 4.3 and 9): lines, each followed by CRLF, and the literals that they announce, each behind the CRLF of its line.
use Rattle.std.specs.Prelude.{◌≡◌, ℕ, true, ◌+◌, ◌<◌, ◌≤◌, List, [], ◌∷◌, ◌++◌, length, map, sum_by, Option, None, Some}
use Rattle.std.specs.List.{AllByRecursion, flat_map}
use Rattle.undo_base.specs.LineEnd.{crlf}
use Rattle.undo_base.specs.Digits.{number_of}
use Rattle.imap_stream.specs.LiteralMarks.{tag_of, all_digits}
use Rattle.imap_stream.specs.Commands.{end_of}
use Rattle.imap_stream.specs.declared.next.Next.{Next}
use Rattle.imap_stream.specs.declared.next.Next.TheVariants.{Command, Ask, Bad}
use Rattle.imap_stream.specs.declared.next.LineFault.{LineFault}
use Rattle.imap_stream.specs.declared.next.LineFault.TheVariants.{Long, Literal as TooLarge, Many}

-- A line that announces a literal, before its mark; the digits of the mark; and the literal.
pub record Part : Type 0 where
  pub text : List ℕ
  pub digits : List ℕ
  pub literal : List ℕ

-- Lines with their literals, the line that ends them, and what is wrong: nothing with a command.
pub record Entry : Type 0 where
  pub parts : List Part
  pub last : List ℕ
  pub fault : Option LineFault

-- What has not come whole: a line without its CRLF, or the octets of a literal behind its line.
pub data Open : Type 0 where
  Line : List ℕ → Open
  Octets : List ℕ → List ℕ → List ℕ → Open

-- What a stream ends with that is no entry.
pub record Rest : Type 0 where
  pub parts : List Part
  pub last : Open

-- a line with the mark of a literal: {, digits and }
abbrev pub marked_line : List ℕ → List ℕ → List ℕ
marked_line text digits = text ++ (123 ∷ digits ++ 125 ∷ [])

-- a line and its CRLF on the stream
abbrev pub ended_line : List ℕ → List ℕ
ended_line line = line ++ crlf

-- a line and its literal on the stream
abbrev pub part_bytes : Part → List ℕ
part_bytes p = ended_line (marked_line p.text p.digits) ++ p.literal

abbrev pub entry_bytes : Entry → List ℕ
entry_bytes e = flat_map part_bytes e.parts ++ ended_line e.last

abbrev pub open_bytes : Open → List ℕ
open_bytes (Line line) = line
open_bytes (Octets text digits octets) = ended_line (marked_line text digits) ++ octets

abbrev pub rest_bytes : Rest → List ℕ
rest_bytes r = flat_map part_bytes r.parts ++ open_bytes r.last

-- how many octets lines have, with their marks, without CRLF and literals
abbrev pub octets_of : List Part → ℕ
octets_of parts = sum_by (λ p. length (marked_line p.text p.digits)) parts

-- no CRLF stands in a line
abbrev pub IsLine : List ℕ → Type 0
IsLine line = end_of line ≡ None

-- a line has a mark of 1 to 10 digits, which announces so many octets
pub record Announces (text digits : List ℕ) (n : ℕ) : Type 0 where
  pub one_line : IsLine (marked_line text digits)
  pub are_digits : all_digits digits ≡ true
  pub size : number_of digits ≡ n

-- a line with a mark that announces so many octets
pub record HasMark (line : List ℕ) (n : ℕ) : Type 0 where
  pub text : List ℕ
  pub digits : List ℕ
  pub is : line ≡ marked_line text digits
  pub announces : Announces text digits n

-- the literal has as many octets as its line announces, at most 1,048,576
pub record IsPart (p : Part) : Type 0 where
  pub announces : Announces p.text p.digits (length p.literal)
  pub small : length p.literal ≤ 1048576

-- at most 8 literals, whose lines have 65,536 octets together at most
pub record AreParts (parts : List Part) : Type 0 where
  pub each : AllByRecursion IsPart parts
  pub few : length parts ≤ 8
  pub short : octets_of parts ≤ 65536

-- A line ends a command, or it is a bad line: too many octets; else a literal too large; else a ninth literal.
abbrev pub EndsCommand : List Part → List ℕ → Option LineFault → Type 0
EndsCommand parts line None = (octets_of parts + length line ≤ 65536) × ((n : ℕ) → HasMark line n → ⊥)
EndsCommand parts line (Some Long) = 65536 < octets_of parts + length line
EndsCommand parts line (Some (TooLarge n)) = (octets_of parts + length line ≤ 65536) × HasMark line n × (1048576 < n)
EndsCommand parts line (Some Many) = (octets_of parts + length line ≤ 65536) × (length parts ≡ 8) × ((n : ℕ) × HasMark line n × (n ≤ 1048576))

pub record IsEntry (e : Entry) : Type 0 where
  pub parts : AreParts e.parts
  pub one_line : IsLine e.last
  pub ends : EndsCommand e.parts e.last e.fault

-- a line that has no CRLF yet, or one whose literal is begun
abbrev pub IsOpen : List Part → Open → Type 0
IsOpen parts (Line line) = IsLine line
IsOpen parts (Octets text digits octets) =
    (n : ℕ) × Announces text digits n × (length octets < n) × (n ≤ 1048576) × (length parts < 8) × (octets_of parts + length (marked_line text digits) ≤ 65536)

pub record IsRest (r : Rest) : Type 0 where
  pub parts : AreParts r.parts
  pub last : IsOpen r.parts r.last

-- A stream is these commands and bad lines, and then this rest, in which none is whole.
pub record Splits (stream : List ℕ) (entries : List Entry) (rest : Rest) : Type 0 where
  pub whole : stream ≡ flat_map entry_bytes entries ++ rest_bytes rest
  pub each : AllByRecursion IsEntry entries
  pub last : IsRest rest

-- a literal is to be invited
abbrev pub told_part : Part → Next
told_part p = Ask (length p.literal)

-- the first line, without its mark if a literal follows it
abbrev pub first_of : List Part → List ℕ → List ℕ
first_of [] line = line
first_of (p ∷ parts) line = p.text

-- a command with its literals, or a bad line with the tag of its command
abbrev pub told_end : List Part → List ℕ → Option LineFault → Next
told_end parts last None = Command (record { lines = map (λ p. p.text) parts ++ last ∷ []; literals = map (λ p. p.literal) parts })
told_end parts last (Some why) = Bad (record { tag = tag_of (first_of parts last); why = why })

abbrev pub told_entry : Entry → List Next
told_entry e = map told_part e.parts ++ told_end e.parts e.last e.fault ∷ []

abbrev pub told_open : Open → List Next
told_open (Line line) = []
told_open (Octets text digits octets) = Ask (number_of digits) ∷ []

-- what commands, bad lines and a rest give
abbrev pub told_of : List Entry → Rest → List Next
told_of entries rest = flat_map told_entry entries ++ (map told_part rest.parts ++ told_open rest.last)

-- Commands, bad lines and a rest that the stream is give this.
pub record IsReading (stream : List ℕ) (nexts : List Next) : Type 0 where
  pub entries : List Entry
  pub rest : Rest
  pub splits : Splits stream entries rest
  pub told : nexts ≡ told_of entries rest
