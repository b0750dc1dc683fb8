-- How the code keeps what it has heard of a stream.
use Rattle.std.specs.Prelude.{◌≡◌, ℕ, ◌+◌, ◌-◌, ◌*◌, ◌≤◌, List, [], ◌++◌, length, take, drop, None, Some}
use Rattle.imap_stream.specs.Commands.{Heard, heard, before, awaited, end_of, last_byte, nothing, with_literal, tag_of_command}
use Rattle.imap_stream.specs.Holding.{octets_in, tag_kept, tag_octets, invited, held_in}
use Rattle.imap_stream.specs.declared.begun.Awaits.{Awaits}
use Rattle.imap_stream.specs.declared.begun.Awaits.TheVariants.{Line, Literal, End}
use Rattle.imap_stream.specs.declared.begun.Begun.{Begun}
use Rattle.imap_stream.specs.declared.reader.Reader.{Reader}

-- what a command has so far
pub record IsBegun (begun : Begun) : Type 0 where
  pub most : begun.octets ≤ 65536
  pub first : begun.lines ≡ [] → begun.octets ≡ 0

-- At so many places of the line behind a literal of n octets no CRLF begins, whatever comes.
abbrev pub IsClear : List ℕ → ℕ → ℕ → Type 0
IsClear held n scanned = (more : List ℕ) → end_of (take (scanned + 1) (drop n (held ++ more))) ≡ None

-- what is kept of a command is within the limits, with the literal that comes next
pub record IsWithin (awaits : Awaits) (begun : Begun) : Type 0 where
  pub lines : octets_in begun.lines ≤ begun.octets
  pub few : length begun.literals + invited awaits ≤ 8
  pub small : octets_in begun.literals ≤ length begun.literals * 1048576
  pub next : awaited awaits ≤ 1048576
  pub tag : tag_octets (tag_kept awaits) ≤ 64

pub record IsSoundReader (reader : Reader) (bytes : List ℕ) : Type 0 where
  pub given : reader.given ≤ length bytes
  pub begun : IsBegun reader.begun
  pub limits : IsWithin reader.awaits reader.begun
  pub within : reader.scanned ≤ length (drop (awaited reader.awaits) (drop reader.given bytes))
  pub clear : IsClear (drop reader.given bytes) (awaited reader.awaits) reader.scanned

-- what the bytes make that are not read yet
abbrev pub seen : Reader → List ℕ → Heard
seen reader bytes = heard (before reader.begun reader.awaits) (drop reader.given bytes)

-- of the next line all was searched but its last byte
abbrev pub IsSearched : Reader → List ℕ → Type 0
IsSearched reader bytes = reader.scanned ≡ length (drop (awaited reader.awaits) (drop reader.given bytes)) - 1

-- what is read and still held is no more than half of all
pub record KeepsNoMore (reader : Reader) (bytes : List ℕ) : Type 0 where
  pub sound : IsSoundReader reader bytes
  pub half : reader.given + reader.given ≤ length bytes

-- no line is given up
abbrev pub IsOpen : Awaits → Type 0
IsOpen Line = Unit {0}
IsOpen (Literal n) = Unit {0}
IsOpen (End tag) = ⊥

-- how many bytes were taken out of the stream, and are kept beside it: the lines and literals of a command, and the tag of one whose line is too long
abbrev pub parts_of : Reader → ℕ
parts_of reader = octets_in reader.begun.lines + octets_in reader.begun.literals + tag_octets (tag_kept reader.awaits)

-- how many bytes the code keeps: of a command, and of the stream behind it
abbrev pub kept : Reader → List ℕ → ℕ
kept reader bytes = parts_of reader + length (drop reader.given bytes)

-- What contracts see of a buffer: what was heard of the stream, and how many bytes were taken out of it and are kept. And how many bytes of the
-- stream itself are in memory, those that were read included.
pub record Buffered : Type 0 where
  pub heard : Heard
  pub parts : ℕ
  pub bytes : ℕ

-- no more is kept than what comes next needs
pub record IsSettled (reader : Reader) (bytes : List ℕ) : Type 0 where
  pub same : kept reader bytes ≡ held_in (seen reader bytes)
  pub most : kept reader bytes ≤ 8500000

-- the line that begins at a place has so many bytes before its CRLF
pub record EndsAt (start : ℕ) (bytes : List ℕ) (place : ℕ) : Type 0 where
  pub within : start + place + 2 ≤ length bytes
  pub first : end_of (drop start bytes) ≡ Some place

-- the line that begins at a place has not come whole
pub record Waits (reader : Reader) (bytes : List ℕ) (start : ℕ) : Type 0 where
  pub sound : IsSoundReader reader bytes
  pub begins : start ≡ reader.given + awaited reader.awaits
  pub within : start ≤ length bytes
  pub open_line : end_of (drop start bytes) ≡ None

-- the line that begins at a place is given up
pub record GivesUp (old : Reader) (bytes : List ℕ) (start : ℕ) (new : Reader) : Type 0 where
  pub begun : new.begun ≡ nothing
  pub awaits : new.awaits ≡ End (tag_of_command old.begun (drop start bytes))
  pub within : new.given ≤ length bytes
  pub rest : drop new.given bytes ≡ last_byte (drop start bytes)
  pub scanned : new.scanned ≡ 0

-- the literal before the line that begins at a place is taken
pub record Settles (old : Reader) (bytes : List ℕ) (start : ℕ) (new : Reader) : Type 0 where
  pub begun : new.begun ≡ with_literal old.begun (take (start - old.given) (drop old.given bytes))
  pub awaits : new.awaits ≡ Line
  pub given : new.given ≡ start
  pub scanned : new.scanned ≡ old.scanned

-- another reader with the fields of this one: all that a reader has
abbrev pub same_fields : Reader → Reader → Reader
same_fields reader other =
    record other {
      begun = record other.begun { lines = reader.begun.lines; literals = reader.begun.literals; octets = reader.begun.octets };
      awaits = reader.awaits;
      given = reader.given;
      scanned = reader.scanned;
    }
