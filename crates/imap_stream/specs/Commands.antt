-- Commands of a stream (RFC 3501, 2.2.1, 4.3 and 9): lines that end at CRLF, each but the last followed by the literal that it announces.
use Rattle.std.specs.Prelude.{◌≡◌, ◌≢◌, ◌⊎◌, ℕ, Bool, ◌+◌, ◌==◌, ◌&&◌, List, [], ◌∷◌, ◌++◌, length, take, nat_le, nat_lt, Option, None, Some, option_map, if◌then◌else◌}
use Rattle.imap_stream.specs.LiteralMarks.{tag_of, mark_of}
use Rattle.imap_stream.specs.declared.marks.Mark.{Mark}
use Rattle.imap_stream.specs.declared.begun.Begun.{Begun}
use Rattle.imap_stream.specs.declared.begun.Awaits.{Awaits}
use Rattle.imap_stream.specs.declared.begun.Awaits.TheVariants.{Line, Literal, End}
use Rattle.imap_stream.specs.declared.next.Next.{Next}
use Rattle.imap_stream.specs.declared.next.Next.TheVariants.{Command, Ask, Bad, NotYet}
use Rattle.imap_stream.specs.declared.next.LineFault.{LineFault}
use Rattle.imap_stream.specs.declared.next.LineFault.TheVariants.{Long, Literal as TooLarge, Many}

-- the two bytes are CR and LF
abbrev pub is_end : ℕ → ℕ → Bool
is_end b c = (b == 13) && (c == 10)

-- where the first CRLF stands
abbrev pub end_of : List ℕ → Option ℕ
end_of [] = None
end_of (b ∷ []) = None
end_of (b ∷ c ∷ s) = if is_end b c then Some 0 else option_map (λ n. n + 1) (end_of (c ∷ s))

-- the last byte, if there is one
abbrev pub last_byte : List ℕ → List ℕ
last_byte [] = []
last_byte (b ∷ []) = b ∷ []
last_byte (b ∷ c ∷ s) = last_byte (c ∷ s)

-- What a stream has given, the command that is begun, what that goes on with, and what of this has come.
pub record Heard : Type 0 where
  pub said : List Next
  pub begun : Begun
  pub awaits : Awaits
  pub rest : List ℕ

-- of a command there is nothing yet
abbrev pub nothing : Begun
nothing = record { lines = []; literals = []; octets = 0 }

-- the first line of a command, of which a line is the next
abbrev pub first_line : List (List ℕ) → List ℕ → List ℕ
first_line [] line = line
first_line (first ∷ lines) line = first

-- the tag of a command, of which a line is the next
abbrev pub tag_of_command : Begun → List ℕ → Option (List ℕ)
tag_of_command begun line = tag_of (first_line begun.lines line)

-- a line that ends its command
abbrev pub bad : Begun → List ℕ → LineFault → Next
bad begun line why = Bad (record { tag = tag_of_command begun line; why = why })

-- how many octets of a literal come before the next line
abbrev pub awaited : Awaits → ℕ
awaited Line = 0
awaited (Literal n) = n
awaited (End tag) = 0

-- what a command goes on with after this was said
abbrev pub awaits_after : Next → Awaits
awaits_after (Command command) = Line
awaits_after (Ask n) = Literal n
awaits_after (Bad line) = Line
awaits_after NotYet = Line

-- a line has ended, and this is said of it
abbrev pub says_next : Next → Begun → Heard
says_next next begun = record { said = next ∷ []; begun = begun; awaits = awaits_after next; rest = [] }

-- the command has ended
abbrev pub closed : Next → Heard
closed next = says_next next nothing

-- with a literal after its last line
abbrev pub with_literal : Begun → List ℕ → Begun
with_literal begun literal = record { lines = begun.lines; literals = begun.literals ++ literal ∷ []; octets = begun.octets }

-- a literal is invited
abbrev pub asked : Begun → List ℕ → Mark → Heard
asked begun line mark = says_next (Ask mark.size) (record { lines = begun.lines ++ take mark.place line ∷ []; literals = begun.literals; octets = begun.octets + length line })

-- a line with a literal mark has ended
abbrev pub marked : Begun → List ℕ → Mark → Heard
marked begun line mark =
    if nat_lt 1048576 mark.size then closed (bad begun line (TooLarge mark.size))
    else if nat_le 8 (length begun.literals) then closed (bad begun line Many)
    else asked begun line mark

-- a line has ended with which the command is whole
abbrev pub finished : Begun → List ℕ → Heard
finished begun line = closed (Command (record { lines = begun.lines ++ line ∷ []; literals = begun.literals }))

abbrev pub marked_or_finished : Begun → List ℕ → Option Mark → Heard
marked_or_finished begun line None = finished begun line
marked_or_finished begun line (Some mark) = marked begun line mark

-- a line has ended
abbrev pub ended : Begun → List ℕ → Heard
ended begun line = if nat_lt 65536 (begun.octets + length line) then closed (bad begun line Long) else marked_or_finished begun line (mark_of line)

-- a line that has not ended; of one that is too long no more is kept than the tag
abbrev pub waits : Begun → List ℕ → Heard
waits begun line =
    if nat_lt 65537 (begun.octets + length line)
    then record { said = []; begun = nothing; awaits = End (tag_of_command begun line); rest = last_byte line }
    else record { said = []; begun = begun; awaits = Line; rest = line }

-- bytes of a line
abbrev pub in_line : Begun → List ℕ → Option ℕ → Heard
in_line begun bytes None = waits begun bytes
in_line begun bytes (Some n) = ended begun (take n bytes)

-- bytes of a line that is too long
abbrev pub in_end : Option (List ℕ) → Begun → List ℕ → Option ℕ → Heard
in_end tag begun bytes None = record { said = []; begun = begun; awaits = End tag; rest = last_byte bytes }
in_end tag begun bytes (Some n) = closed (Bad (record { tag = tag; why = Long }))

-- one byte more
abbrev pub with_byte : Awaits → Begun → List ℕ → ℕ → Heard
with_byte Line begun rest b = in_line begun (rest ++ b ∷ []) (end_of (rest ++ b ∷ []))
with_byte (Literal n) begun rest b =
    if nat_lt (length rest) n then record { said = []; begun = begun; awaits = Literal n; rest = rest ++ b ∷ [] }
    else in_line (with_literal begun rest) (b ∷ []) None
with_byte (End tag) begun rest b = in_end tag begun (rest ++ b ∷ []) (end_of (rest ++ b ∷ []))

-- these were said before
abbrev pub saying : List Next → Heard → Heard
saying said h = record { said = said ++ h.said; begun = h.begun; awaits = h.awaits; rest = h.rest }

-- bytes are heard
abbrev pub heard : Heard → List ℕ → Heard
heard h [] = h
heard h (b ∷ bytes) = heard (saying h.said (with_byte h.awaits h.begun h.rest b)) bytes

-- nothing has come of what a command goes on with
abbrev pub before : Begun → Awaits → Heard
before begun awaits = record { said = []; begun = begun; awaits = awaits; rest = [] }

-- what a stream is
abbrev pub heard_of : List ℕ → Heard
heard_of stream = heard (before nothing Line) stream

-- What comes next is taken from what a stream has given.
abbrev pub TakesNext : Heard → Next → Heard → Type 0
TakesNext old (Command command) new = old ≡ saying (Command command ∷ []) new
TakesNext old (Ask n) new = old ≡ saying (Ask n ∷ []) new
TakesNext old (Bad line) new = old ≡ saying (Bad line ∷ []) new
TakesNext old NotYet new = (old.said ≡ []) × (new ≡ old)

-- The end of a line that is too long is awaited, of a command that has a tag.
abbrev pub KeepsTag : Awaits → Type 0
KeepsTag Line = ⊥
KeepsTag (Literal n) = ⊥
KeepsTag (End None) = ⊥
KeepsTag (End (Some tag)) = Unit {0}

-- To take what comes next may want memory: something is said that was not taken, or a tag is to be kept.
abbrev pub WantsMemory : Heard → Type 0
WantsMemory h = (h.said ≢ []) ⊎ KeepsTag h.awaits

-- what a stream gives: its commands, its literal marks and its bad lines, in order
abbrev pub said_of : List ℕ → List Next
said_of stream = (heard_of stream).said

-- all that was said is taken
abbrev pub emptied : Heard → Heard
emptied h = record { said = []; begun = h.begun; awaits = h.awaits; rest = h.rest }

-- One thing is taken from what was said, and put behind the others.
pub record TakesOne (old : Heard) (taken_before : List Next) (new : Heard) (taken : List Next) : Type 0 where
  pub fewer : length old.said ≡ length new.said + 1
  pub all : taken_before ++ old.said ≡ taken ++ new.said
  pub same : emptied new ≡ emptied old
