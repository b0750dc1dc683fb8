-- A stream is commands and bad lines, and then a rest, in one way.
use Rattle.std.proofs.Common.{◌≡◌, ℕ, ◌+◌, ◌-◌, ◌<◌, ◌≤◌, Bool, true, false, cond, List, [], ◌∷◌, ◌++◌, length, take, drop, nat_lt, nat_le, Option, None, Some, refl, ap, sym, ◌∙◌, arith, zero, suc}
use Rattle.std.specs.Prelude.{sum_by}
use Rattle.std.specs.List.{AllByRecursion, flat_map}
use Rattle.std.proofs.lemmas.Bool.{leb-true, le-leb}
use Rattle.std.proofs.lemmas.List.{append_assoc, append-nil, length-append, take_at, drop_at}
use Rattle.std.proofs.lemmas.List.Sums.{sum_by_push, sum_by-cons}
use Rattle.imap_stream.specs.LiteralMarks.{mark_of, mark_at}
use Rattle.imap_stream.specs.Commands.{end_of}
use Rattle.imap_stream.specs.Streams.{Part, Entry, Open, Line as OpenLine, Octets, Rest, marked_line, ended_line, part_bytes, entry_bytes, open_bytes, rest_bytes, octets_of, IsLine, Announces, IsPart, AreParts, EndsCommand, IsEntry, IsOpen, IsRest, Splits}
use Rattle.imap_stream.specs.declared.marks.Mark.{Mark}
use Rattle.imap_stream.specs.declared.next.LineFault.{LineFault}
use Rattle.imap_stream.specs.declared.next.LineFault.TheVariants.{Long, Literal as TooLarge, Many}
use Rattle.imap_stream.proofs.Lines.{end_of-ended}
use Rattle.imap_stream.proofs.Hearing.{ltb-false, ltb-true}
use Rattle.imap_stream.proofs.LineMarks.{mark_of-marked}
use Rattle.imap_stream.proofs.Telling.{end_of-cr, no_mark, mark_is}

-- what a line does: it ends an entry, or a literal stands behind it that has come in part or whole
data Way : Type 0 where
  Over : Option LineFault → Way
  Short : Mark → Way
  Goes : Mark → Way

abbrev way_of_mark : List Part → List ℕ → Option Mark → Way
way_of_mark done s None = Over None
way_of_mark done s (Some m) =
    cond (nat_lt 1048576 m.size) (Over (Some (TooLarge m.size))) (cond (nat_le 8 (length done)) (Over (Some Many)) (cond (nat_lt (length s) m.size) (Short m) (Goes m)))

abbrev way_of : List Part → List ℕ → List ℕ → Way
way_of done line s = cond (nat_lt 65536 (octets_of done + length line)) (Over (Some Long)) (way_of_mark done s (mark_of line))

-- commands and bad lines, and a rest
record Found : Type 0 where
  entries : List Entry
  rest : Rest

-- the digits of a mark
abbrev digits_in : List ℕ → Mark → List ℕ
digits_in line m = take (length line - m.place - 2) (drop (m.place + 1) line)

abbrev open_found : List Part → Open → Found
open_found done last = record { entries = []; rest = record { parts = done; last = last } }

abbrev onto_found : Entry → Found → Found
onto_found e f = record { entries = e ∷ f.entries; rest = f.rest }

abbrev found_by : (List Part → List ℕ → Found) → List Part → List ℕ → List ℕ → Way → Found
found_by more done line s (Over fault) = onto_found (record { parts = done; last = line; fault = fault }) (more [] s)
found_by more done line s (Short m) = open_found done (Octets (take m.place line) (digits_in line m) s)
found_by more done line s (Goes m) = more (done ++ record { text = take m.place line; digits = digits_in line m; literal = take m.size s } ∷ []) (drop m.size s)

abbrev found_at : (List Part → List ℕ → Found) → List Part → List ℕ → Option ℕ → Found
found_at more done s None = open_found done (OpenLine s)
found_at more done s (Some n) = found_by more done (take n s) (drop (n + 2) s) (way_of done (take n s) (drop (n + 2) s))

-- what is found behind lines with their literals, in so many lines
found : ℕ → List Part → List ℕ → Found
found zero done s = open_found done (OpenLine s)
found (suc k) done s = found_at (found k) done s (end_of s)

-- a line and its CRLF
found_line : (k : ℕ) (done : List Part) (line s : List ℕ) → IsLine line → found (suc k) done (ended_line line ++ s) ≡ found_by (found k) done line s (way_of done line s)
unfolding found
found_line k done line s one_line =
    let stream : ended_line line ++ s ≡ line ++ 13 ∷ 10 ∷ s = append_assoc line (13 ∷ 10 ∷ []) s in
    let front : take (length line) (line ++ 13 ∷ 10 ∷ s) ≡ line = take_at line (13 ∷ 10 ∷ s) (length line) refl in
    let size : length (line ++ 13 ∷ 10 ∷ []) ≡ length line + 2 = simp length-append refl in
    let left : drop (length line + 2) (line ++ 13 ∷ 10 ∷ s) ≡ s = ap (drop (length line + 2)) (sym stream) ∙ drop_at (ended_line line) s (length line + 2) size in
    ap (found (suc k) done) stream ∙ ap (found_at (found k) done (line ++ 13 ∷ 10 ∷ s)) (end_of-ended line s (end_of-cr line one_line))
    ∙ ap (λ l. found_by (found k) done l (drop (length line + 2) (line ++ 13 ∷ 10 ∷ s)) (way_of done l (drop (length line + 2) (line ++ 13 ∷ 10 ∷ s)))) front
    ∙ ap (λ l. found_by (found k) done line l (way_of done line l)) left

leb-false : (a b : ℕ) → b < a → nat_le a b ≡ false
leb-false a b lt = by_test (nat_le a b) refl
  where
    by_test : (t : Bool) → nat_le a b ≡ t → t ≡ false
    by_test true is = absurd (let le = leb-true a b is in omega arith)
    by_test false is = refl

way_over : (done : List Part) (line s : List ℕ) (fault : Option LineFault) → IsLine line → EndsCommand done line fault → way_of done line s ≡ Over fault
way_over done line s None one_line e = rw (ltb-false 65536 (octets_of done + length line) e.0, no_mark line one_line e.1) refl
way_over done line s (Some Long) one_line e = rw (ltb-true 65536 (octets_of done + length line) e) refl
way_over done line s (Some (TooLarge n)) one_line e = rw (ltb-false 65536 (octets_of done + length line) e.0, mark_is line n e.1, ltb-true 1048576 n e.2) refl
way_over done line s (Some Many) one_line (short, eight, (n, mark, small)) =
    let many : nat_le 8 (length done) ≡ true = le-leb 8 (length done) (omega arith) in
    rw (ltb-false 65536 (octets_of done + length line) short, mark_is line n mark, ltb-false 1048576 n small, many) refl

way_mark : (done : List Part) (text digits s : List ℕ) (n : ℕ) → Announces text digits n → n ≤ 1048576 → length done < 8 → octets_of done + length (marked_line text digits) ≤ 65536
    → way_of done (marked_line text digits) s ≡ cond (nat_lt (length s) n) (Short (mark_at (length text) n)) (Goes (mark_at (length text) n))
way_mark done text digits s n a small few short =
    let line = marked_line text digits in
    let mark : mark_of line ≡ Some (mark_at (length text) n) = mark_of-marked text digits a.are_digits ∙ ap (λ k. Some (mark_at (length text) k)) a.size in
    rw (ltb-false 65536 (octets_of done + length line) short, mark, ltb-false 1048576 n small, leb-false 8 (length done) few) refl

-- the text and the digits of a line with a mark
text_is : (text digits : List ℕ) → take (length text) (marked_line text digits) ≡ text
text_is text digits = take_at text (123 ∷ digits ++ 125 ∷ []) (length text) refl

digits_is : (text digits : List ℕ) (n : ℕ) → digits_in (marked_line text digits) (mark_at (length text) n) ≡ digits
digits_is text digits n =
    let tail = digits ++ 125 ∷ [] in
    let size : length (text ++ 123 ∷ []) ≡ length text + 1 = simp length-append refl in
    let after : drop (length text + 1) (text ++ 123 ∷ tail) ≡ tail = ap (drop (length text + 1)) (sym (append_assoc text (123 ∷ []) tail)) ∙ drop_at (text ++ 123 ∷ []) tail (length text + 1) size in
    let one : length (123 ∷ tail) ≡ length digits + 2 = (let t : length tail ≡ length digits + 1 = length-append digits (125 ∷ []) in omega arith) in
    let all : length (text ++ 123 ∷ tail) ≡ length text + length (123 ∷ tail) = length-append text (123 ∷ tail) in
    let count : length (text ++ 123 ∷ tail) - length text - 2 ≡ length digits = omega arith in
    ap (λ k. take k (drop (length text + 1) (text ++ 123 ∷ tail))) count ∙ ap (take (length digits)) after ∙ take_at digits (125 ∷ []) (length digits) refl

-- lines with their literals, one line each
found_parts : (k : ℕ) (done more : List Part) (s : List ℕ) → AllByRecursion IsPart more → length done + length more ≤ 8 → octets_of done + octets_of more ≤ 65536
    → found (length more + k) done (flat_map part_bytes more ++ s) ≡ found k (done ++ more) s
found_parts k done [] s each few short =
    let none : 0 + k ≡ k = omega arith in
    ap (λ n. found n done s) none ∙ ap (λ d. found k d s) (sym (append-nil done))
found_parts k done (p ∷ more) s each few short =
    let line = marked_line p.text p.digits in
    let n = length p.literal in
    let rest = flat_map part_bytes more ++ s in
    let steps : length (p ∷ more) + k ≡ suc (length more + k) = omega arith in
    let stream : flat_map part_bytes (p ∷ more) ++ s ≡ ended_line line ++ (p.literal ++ rest) =
    append_assoc (ended_line line ++ p.literal) (flat_map part_bytes more) s ∙ append_assoc (ended_line line) p.literal rest in
    let sum : octets_of (p ∷ more) ≡ length line + octets_of more = sum_by-cons (λ (q : Part). length (marked_line q.text q.digits)) p more in
    let few_now : length done < 8 = omega arith in
    let short_now : octets_of done + length line ≤ 65536 = omega arith in
    let size : length (done ++ p ∷ []) ≡ length done + 1 = simp length-append refl in
    let octets : octets_of (done ++ p ∷ []) ≡ octets_of done + length line = sum_by_push (λ (q : Part). length (marked_line q.text q.digits)) done p in
    let come : length (p.literal ++ rest) ≡ n + length rest = length-append p.literal rest in
    let goes : way_of done line (p.literal ++ rest) ≡ Goes (mark_at (length p.text) n) =
    way_mark done p.text p.digits (p.literal ++ rest) n each.0.announces each.0.small few_now short_now
    ∙ ap (λ t. cond t (Short (mark_at (length p.text) n)) (Goes (mark_at (length p.text) n))) (ltb-false (length (p.literal ++ rest)) n (omega arith)) in
    let front : take n (p.literal ++ rest) ≡ p.literal = take_at p.literal rest n refl in
    let left : drop n (p.literal ++ rest) ≡ rest = drop_at p.literal rest n refl in
    let whole : (done ++ p ∷ []) ++ more ≡ done ++ p ∷ more = append_assoc done (p ∷ []) more in
    ap (λ m. found m done (flat_map part_bytes (p ∷ more) ++ s)) steps
    ∙ ap (found (suc (length more + k)) done) stream
    ∙ found_line (length more + k) done line (p.literal ++ rest) each.0.announces.one_line
    ∙ ap (found_by (found (length more + k)) done line (p.literal ++ rest)) goes
    ∙ ap (λ t. found (length more + k) (done ++ record { text = t; digits = digits_in line (mark_at (length p.text) n); literal = take n (p.literal ++ rest) } ∷ []) (drop n (p.literal ++ rest))) (text_is p.text p.digits)
    ∙ ap (λ d. found (length more + k) (done ++ record { text = p.text; digits = d; literal = take n (p.literal ++ rest) } ∷ []) (drop n (p.literal ++ rest))) (digits_is p.text p.digits n)
    ∙ ap (λ l. found (length more + k) (done ++ record { text = p.text; digits = p.digits; literal = l } ∷ []) (drop n (p.literal ++ rest))) front
    ∙ ap (found (length more + k) (done ++ p ∷ [])) left
    ∙ found_parts k (done ++ p ∷ []) more s each.1 (omega arith) (omega arith)
    ∙ ap (λ d. found k d s) whole

-- how many lines an entry has
abbrev lines_of : Entry → ℕ
lines_of e = length e.parts + 1

abbrev lines_in : List Entry → Rest → ℕ
lines_in entries rest = sum_by lines_of entries + (length rest.parts + 1)

found_entry : (k : ℕ) (e : Entry) (s : List ℕ) → IsEntry e → found (lines_of e + k) [] (entry_bytes e ++ s) ≡ onto_found e (found k [] s)
found_entry k e s is =
    let parts = e.parts in
    let steps : lines_of e + k ≡ length parts + suc k = omega arith in
    ap (λ n. found n [] (entry_bytes e ++ s)) steps
    ∙ ap (found (length parts + suc k) []) (append_assoc (flat_map part_bytes parts) (ended_line e.last) s)
    ∙ found_parts (suc k) [] parts (ended_line e.last ++ s) is.parts.each (let few = is.parts.few in omega arith) (let short = is.parts.short in omega arith)
    ∙ found_line k parts e.last s is.one_line
    ∙ ap (found_by (found k) parts e.last s) (way_over parts e.last s e.fault is.one_line is.ends)

open_is : (k : ℕ) (parts : List Part) (last : Open) → AreParts parts → IsOpen parts last → found (suc k) parts (open_bytes last) ≡ open_found parts last
unfolding found
open_is k parts (OpenLine line) are one_line = ap (found_at (found k) parts line) one_line
open_is k parts (Octets text digits octets) are (n, a, part, small, few, short) =
    let line = marked_line text digits in
    let way : way_of parts line octets ≡ Short (mark_at (length text) n) =
    way_mark parts text digits octets n a small few short
    ∙ ap (λ t. cond t (Short (mark_at (length text) n)) (Goes (mark_at (length text) n))) (ltb-true (length octets) n part) in
    found_line k parts line octets a.one_line ∙ ap (found_by (found k) parts line octets) way
    ∙ ap (λ t. open_found parts (Octets t (digits_in line (mark_at (length text) n)) octets)) (text_is text digits)
    ∙ ap (λ d. open_found parts (Octets text d octets)) (digits_is text digits n)

found_rest : (k : ℕ) (rest : Rest) → IsRest rest → found (length rest.parts + 1 + k) [] (rest_bytes rest) ≡ record { entries = []; rest = rest }
found_rest k rest is =
    let steps : length rest.parts + 1 + k ≡ length rest.parts + suc k = omega arith in
    ap (λ n. found n [] (rest_bytes rest)) steps
    ∙ found_parts (suc k) [] rest.parts (open_bytes rest.last) is.parts.each (let few = is.parts.few in omega arith) (let short = is.parts.short in omega arith)
    ∙ open_is k rest.parts rest.last is.parts is.last

found_all : (k : ℕ) (entries : List Entry) (rest : Rest) → AllByRecursion IsEntry entries → IsRest rest
    → found (lines_in entries rest + k) [] (flat_map entry_bytes entries ++ rest_bytes rest) ≡ record { entries = entries; rest = rest }
found_all k [] rest each last =
    let none : lines_in [] rest + k ≡ length rest.parts + 1 + k = omega arith in
    ap (λ n. found n [] (rest_bytes rest)) none ∙ found_rest k rest last
found_all k (e ∷ entries) rest each last =
    let sum : sum_by lines_of (e ∷ entries) ≡ lines_of e + sum_by lines_of entries = sum_by-cons lines_of e entries in
    let steps : lines_in (e ∷ entries) rest + k ≡ lines_of e + (lines_in entries rest + k) = omega arith in
    ap (λ n. found n [] (flat_map entry_bytes (e ∷ entries) ++ rest_bytes rest)) steps
    ∙ ap (found (lines_of e + (lines_in entries rest + k)) []) (append_assoc (entry_bytes e) (flat_map entry_bytes entries) (rest_bytes rest))
    ∙ found_entry (lines_in entries rest + k) e (flat_map entry_bytes entries ++ rest_bytes rest) each.0
    ∙ ap (onto_found e) (found_all k entries rest each.1 last)

pub one_way : (stream : List ℕ) (entries others : List Entry) (rest left : Rest) → Splits stream entries rest → Splits stream others left → (entries ≡ others) × (rest ≡ left)
one_way stream entries others rest left a b =
    let most : lines_in others left + lines_in entries rest ≡ lines_in entries rest + lines_in others left = omega arith in
    let first : found (lines_in entries rest + lines_in others left) [] stream ≡ record { entries = entries; rest = rest } =
    ap (found (lines_in entries rest + lines_in others left) []) a.whole ∙ found_all (lines_in others left) entries rest a.each a.last in
    let second : found (lines_in entries rest + lines_in others left) [] stream ≡ record { entries = others; rest = left } =
    ap (λ n. found n [] stream) (sym most) ∙ ap (found (lines_in others left + lines_in entries rest) []) b.whole ∙ found_all (lines_in entries rest) others left b.each b.last in
    let same = sym first ∙ second in
    (ap (λ f. f.entries) same, ap (λ f. f.rest) same)
