-- What the commands and bad lines of a stream give, and its rest.
use Rattle.std.proofs.Common.{◌≡◌, ℕ, ◌+◌, ◌<◌, ◌≤◌, Bool, true, false, cond, ◌==◌, ◌&&◌, List, [], ◌∷◌, ◌++◌, length, map, take, nat_lt, nat_le, Option, None, Some, refl, ap, sym, ◌∙◌, arith, subst}
use Rattle.std.specs.List.{AllByRecursion, flat_map}
use Rattle.std.proofs.lemmas.Bool.{le-leb, leb-true}
use Rattle.std.proofs.lemmas.Bool.Decides.{Decides-ltb}
use Rattle.std.proofs.lemmas.List.{append_assoc, append-nil, length-append, length-map, map-append, take_at}
use Rattle.std.proofs.lemmas.List.Sums.{sum_by_push, sum_by-cons}
use Rattle.imap_stream.specs.LiteralMarks.{tag_of, mark_of, mark_at}
use Rattle.imap_stream.specs.Commands.{end_of, first_line, nothing, says_next, closed, bad, ended, with_literal, saying, heard, before, said_of}
use Rattle.imap_stream.specs.Reading.{IsBegun}
use Rattle.imap_stream.specs.Streams.{Part, Entry, Open, Line as OpenLine, Octets, Rest, marked_line, ended_line, part_bytes, entry_bytes, open_bytes, rest_bytes, octets_of, IsLine, Announces, HasMark, IsPart, AreParts, EndsCommand, IsEntry, IsOpen, IsRest, Splits, told_part, first_of, told_end, told_entry, told_open, told_of, IsReading}
use Rattle.imap_stream.specs.declared.begun.Begun.{Begun}
use Rattle.imap_stream.specs.declared.begun.Awaits.TheVariants.{Line, Literal}
use Rattle.imap_stream.specs.declared.marks.Mark.{Mark}
use Rattle.imap_stream.specs.declared.next.Next.{Next}
use Rattle.imap_stream.specs.declared.next.Next.TheVariants.{Ask, Bad}
use Rattle.imap_stream.specs.declared.next.LineFault.{LineFault}
use Rattle.imap_stream.specs.declared.next.LineFault.TheVariants.{Long, Literal as TooLarge, Many}
use Rattle.imap_stream.proofs.Lines.{end_of-first}
use Rattle.imap_stream.proofs.Hearing.{ltb-false, ltb-true, ltb-not, heard-append, heard_told, literal_run, literal_taken, line_closes}
use Rattle.imap_stream.proofs.Readings.{open_run, open_long}
use Rattle.imap_stream.proofs.LineMarks.{mark_of-marked, marked-of}

-- no CRLF stands in a line and the CR behind it
pub end_of-cr : (line : List ℕ) → end_of line ≡ None → end_of (line ++ 13 ∷ []) ≡ None
end_of-cr [] e = refl
end_of-cr (b ∷ []) e = by_test (b == 13)
  where
    by_test : (t : Bool) → cond {A = Option ℕ} (t && false) (Some 0) None ≡ None
    by_test true = refl
    by_test false = refl
end_of-cr (b ∷ c ∷ line) e =
    let parts = end_of-first b c line e in
    rw (parts.0, end_of-cr (c ∷ line) parts.1) refl

-- lines with their literals, as they are kept
abbrev pub begun_of : List Part → Begun
begun_of parts = record { lines = map (λ p. p.text) parts; literals = map (λ p. p.literal) parts; octets = octets_of parts }

-- the same with a line whose literal is to come
abbrev pub line_begun : List Part → List ℕ → List ℕ → Begun
line_begun parts text digits = record {
  lines = map (λ p. p.text) parts ++ text ∷ [];
  literals = map (λ p. p.literal) parts;
  octets = octets_of parts + length (marked_line text digits);
}

begun_of-is : (parts : List Part) → octets_of parts ≤ 65536 → IsBegun (begun_of parts)
begun_of-is [] short = record { most = short; first = λ _. refl }
begun_of-is (p ∷ parts) short = record { most = short; first = λ none. absurd (let wrong : p.text ∷ map (λ q. q.text) parts ≡ [] = none in cc) }

begun_of-push : (parts : List Part) (p : Part) → with_literal (line_begun parts p.text p.digits) p.literal ≡ begun_of (parts ++ p ∷ [])
begun_of-push parts p =
    ap (λ l. record { lines = l; literals = map (λ q. q.literal) parts ++ p.literal ∷ []; octets = octets_of parts + length (marked_line p.text p.digits) }) (sym (map-append (λ (q : Part). q.text) parts (p ∷ [])))
    ∙ ap (λ l. record { lines = map (λ q. q.text) (parts ++ p ∷ []); literals = l; octets = octets_of parts + length (marked_line p.text p.digits) }) (sym (map-append (λ (q : Part). q.literal) parts (p ∷ [])))
    ∙ ap (λ n. record { lines = map (λ q. q.text) (parts ++ p ∷ []); literals = map (λ q. q.literal) (parts ++ p ∷ []); octets = n }) (sym (sum_by_push (λ (q : Part). length (marked_line q.text q.digits)) parts p))

few_literals : (parts : List Part) → length parts < 8 → nat_le 8 (length (map (λ (p : Part). p.literal) parts)) ≡ false
few_literals parts few = by_test (nat_le 8 (length (map (λ (p : Part). p.literal) parts))) refl
  where
    by_test : (t : Bool) → nat_le 8 (length (map (λ (p : Part). p.literal) parts)) ≡ t → t ≡ false
    by_test true is = absurd (let le = leb-true 8 (length (map (λ (p : Part). p.literal) parts)) is in let size = length-map parts (λ (p : Part). p.literal) in omega arith)
    by_test false is = refl

-- a line ends whose literal is invited
ended_asks : (parts : List Part) (text digits : List ℕ) (n : ℕ) → Announces text digits n → n ≤ 1048576 → length parts < 8 → octets_of parts + length (marked_line text digits) ≤ 65536
    → ended (begun_of parts) (marked_line text digits) ≡ says_next (Ask n) (line_begun parts text digits)
ended_asks parts text digits n a small few short =
    let line = marked_line text digits in
    let size = a.size in
    let front : take (length text) line ≡ text = take_at text (123 ∷ digits ++ 125 ∷ []) (length text) refl in
    rw (ltb-false 65536 (octets_of parts + length line) short, mark_of-marked text digits a.are_digits, a.size, ltb-false 1048576 n small, few_literals parts few, front) refl

line_told : (parts : List Part) (text digits : List ℕ) (n : ℕ) (s : List ℕ) → Announces text digits n → n ≤ 1048576 → length parts < 8 → octets_of parts + length (marked_line text digits) ≤ 65536
    → heard (before (begun_of parts) Line) (ended_line (marked_line text digits) ++ s) ≡ saying (Ask n ∷ []) (heard (before (line_begun parts text digits) (Literal n)) s)
line_told parts text digits n s a small few short =
    let line = marked_line text digits in
    heard-append (before (begun_of parts) Line) (ended_line line) s
    ∙ ap (λ h. heard h s) (line_closes (begun_of parts) line (begun_of-is parts (omega arith)) (end_of-cr line a.one_line) ∙ ended_asks parts text digits n a small few short)
    ∙ heard_told (Ask n) (line_begun parts text digits) s

-- a literal that has come whole
literal_said : (begun : Begun) (literal s : List ℕ) → (heard (before begun (Literal (length literal))) (literal ++ s)).said ≡ (heard (before (with_literal begun literal) Line) s).said
literal_said begun literal [] = ap (λ h. h.said) (literal_run begun (length literal) [] (literal ++ []) (let all = ap length (append-nil literal) in omega arith))
literal_said begun literal (b ∷ s) = ap (λ h. h.said) (literal_taken begun literal b s)

-- lines with their literals
parts_told : (done more : List Part) (s : List ℕ) → AllByRecursion IsPart more → length done + length more ≤ 8 → octets_of done + octets_of more ≤ 65536
    → (heard (before (begun_of done) Line) (flat_map part_bytes more ++ s)).said ≡ map told_part more ++ (heard (before (begun_of (done ++ more)) Line) s).said
parts_told done [] s each few short = ap (λ d. (heard (before (begun_of d) Line) s).said) (sym (append-nil done))
parts_told done (p ∷ more) s each few short =
    let line = marked_line p.text p.digits in
    let n = length p.literal in
    let rest = flat_map part_bytes more ++ s in
    let stream : flat_map part_bytes (p ∷ more) ++ s ≡ ended_line line ++ (p.literal ++ rest) =
    append_assoc (ended_line line ++ p.literal) (flat_map part_bytes more) s ∙ append_assoc (ended_line line) p.literal rest in
    let few_now : length done < 8 = omega arith in
    let sum : octets_of (p ∷ more) ≡ length line + octets_of more = sum_by-cons (λ (q : Part). length (marked_line q.text q.digits)) p more in
    let short_now : octets_of done + length line ≤ 65536 = omega arith in
    let size : length (done ++ p ∷ []) ≡ length done + 1 = simp length-append refl in
    let octets : octets_of (done ++ p ∷ []) ≡ octets_of done + length line = sum_by_push (λ (q : Part). length (marked_line q.text q.digits)) done p in
    let whole : (done ++ p ∷ []) ++ more ≡ done ++ p ∷ more = append_assoc done (p ∷ []) more in
    ap (λ l. (heard (before (begun_of done) Line) l).said) stream
    ∙ ap (λ h. h.said) (line_told done p.text p.digits n (p.literal ++ rest) each.0.announces each.0.small few_now short_now)
    ∙ ap (λ l. Ask n ∷ l) (
    literal_said (line_begun done p.text p.digits) p.literal rest
    ∙ ap (λ b. (heard (before b Line) rest).said) (begun_of-push done p)
    ∙ parts_told (done ++ p ∷ []) more s each.1 (omega arith) (omega arith)
    ∙ ap (λ d. map told_part more ++ (heard (before (begun_of d) Line) s).said) whole)

first_same : (parts : List Part) (line : List ℕ) → first_line (map (λ (p : Part). p.text) parts) line ≡ first_of parts line
first_same [] line = refl
first_same (p ∷ parts) line = refl

bad_same : (parts : List Part) (line : List ℕ) (why : LineFault) → closed (bad (begun_of parts) line why) ≡ says_next (told_end parts line (Some why)) nothing
bad_same parts line why = ap (λ l. closed (Bad (record { tag = tag_of l; why = why }))) (first_same parts line)

-- the mark of a line, if it has one
pub has_mark : (line : List ℕ) (m : Mark) → IsLine line → mark_of line ≡ Some m → HasMark line m.size
has_mark line m one_line e =
    let f = marked-of line m e in
    record {
      text = take m.place line;
      digits = f.digits;
      is = f.is;
      announces = record { one_line = subst IsLine f.is one_line; are_digits = f.are_digits; size = f.size };
    }

pub no_mark : (line : List ℕ) → IsLine line → ((n : ℕ) → HasMark line n → ⊥) → mark_of line ≡ None
no_mark line one_line never = by_mark (mark_of line) refl
  where
    by_mark : (o : Option Mark) → mark_of line ≡ o → o ≡ None
    by_mark None e = refl
    by_mark (Some m) e = absurd (never m.size (has_mark line m one_line e))

pub mark_is : (line : List ℕ) (n : ℕ) (h : HasMark line n) → mark_of line ≡ Some (mark_at (length h.text) n)
mark_is line n h = ap mark_of h.is ∙ mark_of-marked h.text h.digits h.announces.are_digits ∙ ap (λ k. Some (mark_at (length h.text) k)) h.announces.size

-- a line ends a command, or is a bad line
ended_closes : (parts : List Part) (line : List ℕ) (fault : Option LineFault) → IsLine line → EndsCommand parts line fault
    → ended (begun_of parts) line ≡ says_next (told_end parts line fault) nothing
ended_closes parts line None one_line e = rw (ltb-false 65536 (octets_of parts + length line) e.0, no_mark line one_line e.1) refl
ended_closes parts line (Some Long) one_line e = rw (ltb-true 65536 (octets_of parts + length line) e) (bad_same parts line Long)
ended_closes parts line (Some (TooLarge n)) one_line e =
    rw (ltb-false 65536 (octets_of parts + length line) e.0, mark_is line n e.1, ltb-true 1048576 n e.2) (bad_same parts line (TooLarge n))
ended_closes parts line (Some Many) one_line (short, eight, (n, mark, small)) =
    let size = length-map parts (λ (p : Part). p.literal) in
    let many : nat_le 8 (length (map (λ (p : Part). p.literal) parts)) ≡ true = le-leb 8 (length (map (λ (p : Part). p.literal) parts)) (omega arith) in
    rw (ltb-false 65536 (octets_of parts + length line) short, mark_is line n mark, ltb-false 1048576 n small, many) (bad_same parts line Many)

-- the last line of an entry
last_told : (parts : List Part) (line : List ℕ) (fault : Option LineFault) (s : List ℕ) → octets_of parts ≤ 65536 → IsLine line → EndsCommand parts line fault
    → (heard (before (begun_of parts) Line) (ended_line line ++ s)).said ≡ told_end parts line fault ∷ (heard (before nothing Line) s).said
last_told parts line fault s short one_line e =
    ap (λ h. h.said) (heard-append (before (begun_of parts) Line) (ended_line line) s
    ∙ ap (λ h. heard h s) (line_closes (begun_of parts) line (begun_of-is parts short) (end_of-cr line one_line) ∙ ended_closes parts line fault one_line e))
    ∙ by_fault fault
  where
    by_fault : (why : Option LineFault) → (heard (says_next (told_end parts line why) nothing) s).said ≡ told_end parts line why ∷ (heard (before nothing Line) s).said
    by_fault None = ap (λ h. h.said) (heard_told (told_end parts line None) nothing s)
    by_fault (Some why) = ap (λ h. h.said) (heard_told (told_end parts line (Some why)) nothing s)

entry_told : (e : Entry) (s : List ℕ) → IsEntry e → (heard (before nothing Line) (entry_bytes e ++ s)).said ≡ told_entry e ++ (heard (before nothing Line) s).said
entry_told e s is =
    let parts = e.parts in
    ap (λ l. (heard (before nothing Line) l).said) (append_assoc (flat_map part_bytes parts) (ended_line e.last) s)
    ∙ parts_told [] parts (ended_line e.last ++ s) is.parts.each (let few = is.parts.few in omega arith) (let short = is.parts.short in omega arith)
    ∙ ap (λ l. map told_part parts ++ l) (last_told parts e.last e.fault s is.parts.short is.one_line is.ends)
    ∙ sym (append_assoc (map told_part parts) (told_end parts e.last e.fault ∷ []) (heard (before nothing Line) s).said)

entries_told : (entries : List Entry) (s : List ℕ) → AllByRecursion IsEntry entries
    → (heard (before nothing Line) (flat_map entry_bytes entries ++ s)).said ≡ flat_map told_entry entries ++ (heard (before nothing Line) s).said
entries_told [] s each = refl
entries_told (e ∷ entries) s each =
    ap (λ l. (heard (before nothing Line) l).said) (append_assoc (entry_bytes e) (flat_map entry_bytes entries) s)
    ∙ entry_told e (flat_map entry_bytes entries ++ s) each.0
    ∙ ap (λ l. told_entry e ++ l) (entries_told entries s each.1)
    ∙ sym (append_assoc (told_entry e) (flat_map told_entry entries) (heard (before nothing Line) s).said)

open_told : (parts : List Part) (last : Open) → AreParts parts → IsOpen parts last → (heard (before (begun_of parts) Line) (open_bytes last)).said ≡ told_open last
open_told parts (OpenLine line) are one_line = by_size (nat_lt 65537 (octets_of parts + length line)) refl
  where
    is : IsBegun (begun_of parts)
    is = begun_of-is parts are.short

    by_size : (t : Bool) → nat_lt 65537 (octets_of parts + length line) ≡ t → (heard (before (begun_of parts) Line) line).said ≡ []
    by_size true long = ap (λ h. h.said) (open_long Line (begun_of parts) line tt is (omega arith) one_line ((Decides-ltb 65537 (octets_of parts + length line)).0 long))
    by_size false short = open_run Line (begun_of parts) line tt is (omega arith) one_line (ltb-not 65537 (octets_of parts + length line) short)
open_told parts (Octets text digits octets) are (n, a, part, small, few, short) =
    ap (λ h. h.said) (line_told parts text digits n octets a small few short ∙ ap (saying (Ask n ∷ [])) (literal_run (line_begun parts text digits) n [] octets (omega arith)))
    ∙ ap (λ k. Ask k ∷ []) (sym a.size)

rest_told : (r : Rest) → IsRest r → (heard (before nothing Line) (rest_bytes r)).said ≡ map told_part r.parts ++ told_open r.last
rest_told r is =
    parts_told [] r.parts (open_bytes r.last) is.parts.each (let few = is.parts.few in omega arith) (let short = is.parts.short in omega arith)
    ∙ ap (λ l. map told_part r.parts ++ l) (open_told r.parts r.last is.parts is.last)

-- what commands, bad lines and a rest give is what the stream that they are gives
pub split_told : (stream : List ℕ) (entries : List Entry) (rest : Rest) → Splits stream entries rest → told_of entries rest ≡ said_of stream
split_told stream entries rest s =
    ap (λ l. flat_map told_entry entries ++ l) (sym (rest_told rest s.last)) ∙ sym (entries_told entries (rest_bytes rest) s.each) ∙ sym (ap said_of s.whole)

pub read_only : (stream : List ℕ) (nexts : List Next) → IsReading stream nexts → nexts ≡ said_of stream
read_only stream nexts r = r.told ∙ split_told stream r.entries r.rest r.splits
