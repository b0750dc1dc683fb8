-- How many commands, literal marks and bad lines bytes end.
use Rattle.std.proofs.Common.{◌≡◌, ℕ, ◌+◌, ◌*◌, ◌≤◌, arith, Bool, true, false, cond, nat_lt, nat_le, List, [], ◌∷◌, ◌++◌, length, length-append, take, Option, None, Some, ap}
use Rattle.imap_stream.specs.LiteralMarks.{mark_of}
use Rattle.imap_stream.specs.declared.marks.Mark.{Mark}
use Rattle.imap_stream.specs.declared.begun.Begun.{Begun}
use Rattle.imap_stream.specs.declared.begun.Awaits.{Awaits}
use Rattle.imap_stream.specs.declared.begun.Awaits.TheVariants.{Line, Literal, End}
use Rattle.imap_stream.specs.declared.next.LineFault.TheVariants.{Long, Literal as TooLarge, Many}
use Rattle.imap_stream.specs.Commands.{Heard, asked, bad, closed, end_of, ended, heard, in_end, in_line, last_byte, marked, marked_or_finished, nothing, saying, tag_of_command, waits, with_byte, with_literal}
use Rattle.cost_laws.specs.Units.{EndIn}

-- whether something of the next unit has come
abbrev filled : List ℕ → ℕ
filled [] = 0
filled (b ∷ bytes) = 1

filled_one : (bytes : List ℕ) → filled bytes ≤ 1
filled_one [] = omega arith
filled_one (b ∷ bytes) = omega arith

-- two for each that is said, and one for what has come behind it
abbrev weight : Heard → ℕ
weight h = 2 * length h.said + filled h.rest

either : (n : ℕ) (b : Bool) (h k : Heard) → weight h ≤ n → weight k ≤ n → weight (cond b h k) ≤ n
either n true h k p q = p
either n false h k p q = q

-- ---- a line that has ended

two_two : 2 ≤ 2
two_two = omega arith

none_said : (rest : List ℕ) → 2 * 0 + filled rest ≤ 1
none_said rest = let one = filled_one rest in omega (arith, one)

marked_two : (begun : Begun) (line : List ℕ) (mark : Mark) → weight (marked begun line mark) ≤ 2
marked_two begun line mark =
    either 2 (nat_lt 1048576 mark.size) (closed (bad begun line (TooLarge mark.size))) (cond (nat_le 8 (length begun.literals)) (closed (bad begun line Many)) (asked begun line mark))
    two_two
    (either 2 (nat_le 8 (length begun.literals)) (closed (bad begun line Many)) (asked begun line mark) two_two two_two)

last_two : (begun : Begun) (line : List ℕ) (mark : Option Mark) → weight (marked_or_finished begun line mark) ≤ 2
last_two begun line None = two_two
last_two begun line (Some mark) = marked_two begun line mark

ended_two : (begun : Begun) (line : List ℕ) → weight (ended begun line) ≤ 2
ended_two begun line =
    either 2 (nat_lt 65536 (begun.octets + length line)) (closed (bad begun line Long)) (marked_or_finished begun line (mark_of line)) two_two (last_two begun line (mark_of line))

waits_one : (begun : Begun) (line : List ℕ) → weight (waits begun line) ≤ 1
waits_one begun line =
    either 1 (nat_lt 65537 (begun.octets + length line)) (record { said = []; begun = nothing; awaits = End (tag_of_command begun line); rest = last_byte line })
    (record { said = []; begun = begun; awaits = Line; rest = line })
    (none_said (last_byte line)) (none_said line)

wider : (n m : ℕ) → n ≤ 1 → n ≤ 1 + m
wider n m le = omega (arith, le)

line_two : (begun : Begun) (bytes : List ℕ) (end : Option ℕ) → weight (in_line begun bytes end) ≤ 2
line_two begun bytes None = wider (weight (waits begun bytes)) 1 (waits_one begun bytes)
line_two begun bytes (Some n) = ended_two begun (take n bytes)

end_two : (tag : Option (List ℕ)) (begun : Begun) (bytes : List ℕ) (end : Option ℕ) → weight (in_end tag begun bytes end) ≤ 2
end_two tag begun bytes None = wider (2 * 0 + filled (last_byte bytes)) 1 (none_said (last_byte bytes))
end_two tag begun bytes (Some n) = two_two

-- ---- one byte more

byte_weight : (awaits : Awaits) (begun : Begun) (rest : List ℕ) (b : ℕ) → weight (with_byte awaits begun rest b) ≤ 1 + filled rest
byte_weight Line begun [] b = waits_one begun (b ∷ [])
byte_weight Line begun (r ∷ rest) b = line_two begun ((r ∷ rest) ++ b ∷ []) (end_of ((r ∷ rest) ++ b ∷ []))
byte_weight (Literal n) begun rest b =
    wider (weight (with_byte (Literal n) begun rest b)) (filled rest)
    (either 1 (nat_lt (length rest) n) (record { said = []; begun = begun; awaits = Literal n; rest = rest ++ b ∷ [] }) (in_line (with_literal begun rest) (b ∷ []) None)
    (none_said (rest ++ b ∷ [])) (waits_one (with_literal begun rest) (b ∷ [])))
byte_weight (End tag) begun [] b = none_said (b ∷ [])
byte_weight (End tag) begun (r ∷ rest) b = end_two tag begun ((r ∷ rest) ++ b ∷ []) (end_of ((r ∷ rest) ++ b ∷ []))

-- ---- many

heard_step : (most both said more filled_then filled_now l m : ℕ) → most ≤ 2 * both + filled_then + l → both ≡ said + more → 2 * more + filled_then ≤ 1 + filled_now → m ≡ l + 1
    → most ≤ 2 * said + filled_now + m
heard_step most both said more filled_then filled_now l m a b c d = omega (arith, a, b, c, d)

heard_weight : (h : Heard) (bytes : List ℕ) → 2 * length (heard h bytes).said ≤ 2 * length h.said + filled h.rest + length bytes
heard_weight h [] = let one = filled_one h.rest in omega (arith, one)
heard_weight h (b ∷ bytes) =
    let k : Heard = with_byte h.awaits h.begun h.rest b in
    heard_step (2 * length (heard (saying h.said k) bytes).said) (length (h.said ++ k.said)) (length h.said) (length k.said) (filled k.rest) (filled h.rest) (length bytes) (length (b ∷ bytes))
    (heard_weight (saying h.said k) bytes) (length-append h.said k.said) (byte_weight h.awaits h.begun h.rest b) (omega arith)

ends_in : (most said filled_then n : ℕ) → 2 * most ≤ 2 * said + filled_then + n → said ≡ 0 → filled_then ≤ 1 → 2 * most ≤ n + 1
ends_in most said filled_then n a b c = omega (arith, a, b, c)

pub commands_end : (h : Heard) (bytes : List ℕ) → h.said ≡ [] → EndIn (length (heard h bytes).said) bytes
commands_end h bytes none = ends_in (length (heard h bytes).said) (length h.said) (filled h.rest) (length bytes) (heard_weight h bytes) (ap length none) (filled_one h.rest)
