-- Each stream is commands and bad lines, and then a rest.
use Rattle.std.proofs.Common.{◌≡◌, ℕ, ◌+◌, ◌<◌, ◌≤◌, Bool, true, false, List, [], ◌∷◌, ◌++◌, length, take, drop, nat_lt, Option, None, Some, refl, ap, sym, ◌∙◌, arith, zero, suc, subst}
use Rattle.std.specs.List.{AllByRecursion, flat_map}
use Rattle.std.proofs.lemmas.Bool.Decides.{Decides-ltb}
use Rattle.std.proofs.lemmas.Grind.{flat_map-append}
use Rattle.std.proofs.lemmas.List.{append_assoc, append-nil, length-append, length-take, length-drop, take-append-drop}
use Rattle.std.proofs.lemmas.List.Sums.{sum_by_push}
use Rattle.imap_stream.specs.LiteralMarks.{mark_of, mark_at}
use Rattle.imap_stream.specs.Commands.{end_of, said_of}
use Rattle.imap_stream.specs.Streams.{Part, Entry, Line as OpenLine, Octets, Rest, marked_line, ended_line, part_bytes, entry_bytes, rest_bytes, octets_of, IsLine, Announces, HasMark, IsPart, AreParts, EndsCommand, Splits, IsReading}
use Rattle.imap_stream.specs.declared.marks.Mark.{Mark}
use Rattle.imap_stream.specs.declared.next.LineFault.{LineFault}
use Rattle.imap_stream.specs.declared.next.LineFault.TheVariants.{Long, Literal as TooLarge, Many}
use Rattle.imap_stream.proofs.Lines.{ends, end_of-front}
use Rattle.imap_stream.proofs.Hearing.{ltb-not}
use Rattle.imap_stream.proofs.Telling.{has_mark, mark_is, split_told}

-- commands, bad lines and a rest that a stream is
pub record Split (stream : List ℕ) : Type 0 where
  pub entries : List Entry
  pub rest : Rest
  pub splits : Splits stream entries rest

-- what stands behind lines with their literals, so long
abbrev Splitting : ℕ → Type 0
Splitting size = (done : List Part) (s : List ℕ) → length s < size → AreParts done → Split (flat_map part_bytes done ++ s)

parts_none : AreParts []
parts_none = record { each = tt; few = omega arith; short = omega arith }

each_push : (parts : List Part) (p : Part) → AllByRecursion IsPart parts → IsPart p → AllByRecursion IsPart (parts ++ p ∷ [])
each_push [] p each is = (is, tt)
each_push (q ∷ parts) p each is = (each.0, each_push parts p each.1 is)

parts_more : (parts : List Part) (p : Part) → AreParts parts → IsPart p → length parts < 8 → octets_of parts + length (marked_line p.text p.digits) ≤ 65536 → AreParts (parts ++ p ∷ [])
parts_more parts p are is few short =
    let size : length (parts ++ p ∷ []) ≡ length parts + 1 = simp length-append refl in
    let octets : octets_of (parts ++ p ∷ []) ≡ octets_of parts + length (marked_line p.text p.digits) = sum_by_push (λ (q : Part). length (marked_line q.text q.digits)) parts p in
    record { each = each_push parts p are.each is; few = omega arith; short = omega arith }

-- a line that has not come whole
split_open : (done : List Part) (s : List ℕ) → AreParts done → IsLine s → Split (flat_map part_bytes done ++ s)
split_open done s are one_line = record {
  entries = [];
  rest = record { parts = done; last = OpenLine s };
  splits = record { whole = refl; each = tt; last = record { parts = are; last = one_line } };
}

-- a line that ends an entry
split_end : (done : List Part) (line s : List ℕ) (fault : Option LineFault) → AreParts done → IsLine line → EndsCommand done line fault → Split s
    → Split (flat_map part_bytes done ++ (line ++ 13 ∷ 10 ∷ s))
split_end done line s fault are one_line over r =
    let e : Entry = record { parts = done; last = line; fault = fault } in
    record {
      entries = e ∷ r.entries;
      rest = r.rest;
      splits = record {
        whole =
            ap (λ l. flat_map part_bytes done ++ l) (sym (append_assoc line (13 ∷ 10 ∷ []) s))
            ∙ sym (append_assoc (flat_map part_bytes done) (ended_line line) s)
            ∙ ap (λ l. entry_bytes e ++ l) r.splits.whole
            ∙ sym (append_assoc (entry_bytes e) (flat_map entry_bytes r.entries) (rest_bytes r.rest));
        each = (record { parts = are; one_line = one_line; ends = over }, r.splits.each);
        last = r.splits.last;
      };
    }

-- a line whose literal has not come whole
split_short : (done : List Part) (line s : List ℕ) (n : ℕ) (h : HasMark line n) → AreParts done → n ≤ 1048576 → length done < 8 → octets_of done + length line ≤ 65536
    → length s < n → Split (flat_map part_bytes done ++ (line ++ 13 ∷ 10 ∷ s))
split_short done line s n h are small few short part = record {
  entries = [];
  rest = record { parts = done; last = Octets h.text h.digits s };
  splits = record {
    whole = ap (λ l. flat_map part_bytes done ++ l) (sym (append_assoc line (13 ∷ 10 ∷ []) s) ∙ ap (λ l. ended_line l ++ s) h.is);
    each = tt;
    last = record { parts = are; last = (n, h.announces, part, small, few, subst (λ l. octets_of done + length l ≤ 65536) h.is short) };
  };
}

-- a line with its literal
split_part : (size : ℕ) (done : List Part) (line s : List ℕ) (n : ℕ) (h : HasMark line n) → AreParts done → n ≤ 1048576 → length done < 8 → octets_of done + length line ≤ 65536
    → n ≤ length s → length s < size → Splitting size → Split (flat_map part_bytes done ++ (line ++ 13 ∷ 10 ∷ s))
split_part size done line s n h are small few short whole long more = subst Split bytes (more (done ++ p ∷ []) (drop n s) left are_more)
  where
    p : Part
    p = record { text = h.text; digits = h.digits; literal = take n s }

    count : length (take n s) ≡ n
    count = simp length-take (omega arith)

    left : length (drop n s) < size
    left = simp length-drop (omega arith)

    are_more : AreParts (done ++ p ∷ [])
    are_more =
        let is : IsPart p = record { announces = subst (Announces h.text h.digits) (sym count) h.announces; small = omega (arith, count) } in
        parts_more done p are is few (subst (λ l. octets_of done + length l ≤ 65536) h.is short)

    line_is : ended_line (marked_line h.text h.digits) ++ s ≡ line ++ 13 ∷ 10 ∷ s
    line_is = ap (λ l. ended_line l ++ s) (sym h.is) ∙ append_assoc line (13 ∷ 10 ∷ []) s

    bytes : flat_map part_bytes (done ++ p ∷ []) ++ drop n s ≡ flat_map part_bytes done ++ (line ++ 13 ∷ 10 ∷ s)
    bytes =
        ap (λ l. l ++ drop n s) (flat_map-append part_bytes done (p ∷ []))
        ∙ append_assoc (flat_map part_bytes done) (flat_map part_bytes (p ∷ [])) (drop n s)
        ∙ ap (λ l. flat_map part_bytes done ++ l) (
        ap (λ l. l ++ drop n s) (append-nil (part_bytes p))
        ∙ append_assoc (ended_line (marked_line h.text h.digits)) (take n s) (drop n s)
        ∙ ap (λ l. ended_line (marked_line h.text h.digits) ++ l) (take-append-drop n s)
        ∙ line_is)

-- a line with a mark
split_marked : (size : ℕ) (done : List Part) (line s : List ℕ) (n : ℕ) → HasMark line n → AreParts done → IsLine line → octets_of done + length line ≤ 65536 → length s < size → Splitting size
    → Split s → Split (flat_map part_bytes done ++ (line ++ 13 ∷ 10 ∷ s))
split_marked size done line s n h are one_line short long more after = by_large (nat_lt 1048576 n) refl
  where
    by_come : (t : Bool) → nat_lt (length s) n ≡ t → n ≤ 1048576 → length done < 8 → Split (flat_map part_bytes done ++ (line ++ 13 ∷ 10 ∷ s))
    by_come true e small few = split_short done line s n h are small few short ((Decides-ltb (length s) n).0 e)
    by_come false e small few = split_part size done line s n h are small few short (ltb-not (length s) n e) long more

    by_many : (t : Bool) → nat_lt (length done) 8 ≡ t → n ≤ 1048576 → Split (flat_map part_bytes done ++ (line ++ 13 ∷ 10 ∷ s))
    by_many true e small = by_come (nat_lt (length s) n) refl small ((Decides-ltb (length done) 8).0 e)
    by_many false e small =
        let eight : length done ≡ 8 = (let le = ltb-not (length done) 8 e in let few = are.few in omega arith) in
        split_end done line s (Some Many) are one_line (short, eight, (n, h, small)) after

    by_large : (t : Bool) → nat_lt 1048576 n ≡ t → Split (flat_map part_bytes done ++ (line ++ 13 ∷ 10 ∷ s))
    by_large true e = split_end done line s (Some (TooLarge n)) are one_line (short, h, (Decides-ltb 1048576 n).0 e) after
    by_large false e = by_many (nat_lt (length done) 8) refl (ltb-not 1048576 n e)

split_line : (size : ℕ) (done : List Part) (line s : List ℕ) → AreParts done → IsLine line → length s < size → Splitting size → Split (flat_map part_bytes done ++ (line ++ 13 ∷ 10 ∷ s))
split_line size done line s are one_line long more = by_size (nat_lt 65536 (octets_of done + length line)) refl
  where
    after : Split s
    after = more [] s long parts_none

    by_mark : (m : Option Mark) → mark_of line ≡ m → octets_of done + length line ≤ 65536 → Split (flat_map part_bytes done ++ (line ++ 13 ∷ 10 ∷ s))
    by_mark None e short = split_end done line s None are one_line (short, λ n h. absurd (let wrong : None ≡ Some (mark_at (length h.text) n) = sym e ∙ mark_is line n h in cc)) after
    by_mark (Some m) e short = split_marked size done line s m.size (has_mark line m one_line e) are one_line short long more after

    by_size : (t : Bool) → nat_lt 65536 (octets_of done + length line) ≡ t → Split (flat_map part_bytes done ++ (line ++ 13 ∷ 10 ∷ s))
    by_size true e = split_end done line s (Some Long) are one_line ((Decides-ltb 65536 (octets_of done + length line)).0 e) after
    by_size false e = by_mark (mark_of line) refl (ltb-not 65536 (octets_of done + length line) e)

split_behind : (size : ℕ) (done : List Part) (s : List ℕ) (o : Option ℕ) → end_of s ≡ o → length s < suc size → AreParts done → Splitting size → Split (flat_map part_bytes done ++ s)
split_behind size done s None e long are more = split_open done s are e
split_behind size done s (Some n) e long are more =
    let here = ends s n e in
    let line = take n s in
    let rest = drop (n + 2) s in
    let whole = here.parts.whole in
    let count : length s ≡ length line + length (13 ∷ 10 ∷ rest) = ap length whole ∙ length-append line (13 ∷ 10 ∷ rest) in
    let left : length rest < size = omega arith in
    subst (λ l. Split (flat_map part_bytes done ++ l)) (sym whole) (split_line size done line rest are (end_of-front line (13 ∷ []) here.parts.open_line) left more)

splitting : (size : ℕ) → Splitting size
splitting zero = λ done s long are. absurd (omega arith)
splitting (suc size) = λ done s long are. split_behind size done s (end_of s) refl long are (splitting size)

pub split_of : (stream : List ℕ) → Split stream
split_of stream = splitting (length stream + 1) [] stream (omega arith) parts_none

-- what a stream gives is a reading of it
pub read_so : (stream : List ℕ) → IsReading stream (said_of stream)
read_so stream =
    let s = split_of stream in
    record { entries = s.entries; rest = s.rest; splits = s.splits; told = sym (split_told stream s.entries s.rest s.splits) }
