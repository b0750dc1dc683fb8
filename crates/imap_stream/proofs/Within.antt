-- What is kept of a command stays within the limits.
use Rattle.std.proofs.Common.{◌≡◌, ℕ, ◌+◌, ◌<◌, ◌≤◌, Bool, true, false, cond, List, [], ◌∷◌, ◌++◌, length, take, nat_lt, nat_le, Option, None, Some, Result, Ok, Err, IfOk, refl, sym, ◌∙◌, arith, subst}
use Rattle.std.proofs.lemmas.List.{length-append, length-take}
use Rattle.std.proofs.lemmas.List.Sums.{sum_by_push}
use Rattle.std.proofs.lemmas.Bool.{leb-false}
use Rattle.std.proofs.lemmas.Bool.Decides.{Decides-ltb}
use Rattle.imap_stream.specs.Commands.{Heard, nothing, closed, says_next, bad, asked, ended, marked_or_finished, with_literal, awaits_after}
use Rattle.imap_stream.specs.Holding.{octets_in, tag_octets}
use Rattle.imap_stream.specs.LiteralMarks.{is_tag, tag_of, before_space, mark_of}
use Rattle.imap_stream.specs.Reading.{IsBegun, IsWithin, parts_of}
use Rattle.imap_stream.specs.declared.begun.Begun.{Begun}
use Rattle.imap_stream.specs.declared.begun.Awaits.TheVariants.{Line, Literal, End}
use Rattle.imap_stream.specs.declared.reader.Reader.{Reader}
use Rattle.imap_stream.specs.declared.next.Next.{Next}
use Rattle.imap_stream.specs.declared.next.Next.TheVariants.{Command, NotYet}
use Rattle.imap_stream.specs.declared.next.LineFault.TheVariants.{Long, Literal as TooLarge, Many}
use Rattle.imap_stream.specs.declared.marks.Mark.{Mark}
use Rattle.imap_stream.proofs.Tags.{too_long}
use Rattle.imap_stream.proofs.Hearing.{ltb-not}

pub within_none : IsWithin Line nothing
within_none = record { lines = omega arith; few = omega arith; small = omega arith; next = omega arith; tag = omega arith }

-- no tag has more than 64 bytes
by_word : (t : Bool) (word : List ℕ) → is_tag word ≡ t → tag_octets (cond t (Some word) None) ≤ 64
by_word true word is = by_size (nat_lt 64 (length word)) refl
  where
    by_size : (s : Bool) → nat_lt 64 (length word) ≡ s → length word ≤ 64
    by_size true long = absurd (let none : is_tag word ≡ false = too_long word ((Decides-ltb 64 (length word)).0 long) in let wrong : true ≡ false = sym is ∙ none in cc)
    by_size false short = ltb-not 64 (length word) short
by_word false word is = omega arith

by_space : (word : Option (List ℕ)) (line : List ℕ) → before_space line ≡ word → tag_octets (tag_of line) ≤ 64
by_space None line e = rw e (let z : 0 ≤ 64 = omega arith in z)
by_space (Some word) line e = rw e (by_word (is_tag word) word refl)

pub tag_short : (line : List ℕ) → tag_octets (tag_of line) ≤ 64
tag_short line = by_space (before_space line) line refl

-- a line is given up
pub within_end : (tag : Option (List ℕ)) → tag_octets tag ≤ 64 → IsWithin (End tag) nothing
within_end tag short = record { lines = omega arith; few = omega arith; small = omega arith; next = omega arith; tag = short }

-- a literal has come
pub within_literal : (begun : Begun) (n : ℕ) (literal : List ℕ) → IsWithin (Literal n) begun → length literal ≤ n → IsWithin Line (with_literal begun literal)
within_literal begun n literal w size =
    let few = w.few in
    let small = w.small in
    let next = w.next in
    let sum : octets_in (begun.literals ++ literal ∷ []) ≡ octets_in begun.literals + length literal = sum_by_push (λ (t : List ℕ). length t) begun.literals literal in
    let count : length (begun.literals ++ literal ∷ []) ≡ length begun.literals + 1 = simp length-append refl in
    record {
      lines = w.lines;
      few = rw count (omega arith);
      small = rw (sum, count) (omega arith);
      next = omega arith;
      tag = omega arith;
    }

some_lines : (lines : List (List ℕ)) (line : List ℕ) (n : ℕ) → lines ++ line ∷ [] ≡ [] → n ≡ 0
some_lines [] line n e = absurd (let wrong : line ∷ [] ≡ [] = e in cc)
some_lines (first ∷ lines) line n e = absurd (let wrong : first ∷ (lines ++ line ∷ []) ≡ [] = e in cc)

-- a line has ended
abbrev Then : Heard → Type 0
Then h = IsWithin h.awaits h.begun × IsBegun h.begun

either : (t : Bool) (h k : Heard) → Then h → (t ≡ false → Then k) → Then (cond t h k)
either true h k a b = a
either false h k a b = b refl

closed_then : (next : Next) → awaits_after next ≡ Line → Then (closed next)
closed_then next e = (subst (λ a. IsWithin a nothing) (sym e) within_none, record { most = omega arith; first = λ _. refl })

asked_then : (begun : Begun) (line : List ℕ) (mark : Mark) → IsWithin Line begun → begun.octets + length line ≤ 65536 → mark.size ≤ 1048576 → length begun.literals < 8 → Then (asked begun line mark)
asked_then begun line mark w short size few =
    let lines = w.lines in
    let sum : octets_in (begun.lines ++ take mark.place line ∷ []) ≡ octets_in begun.lines + length (take mark.place line) =
    sum_by_push (λ (t : List ℕ). length t) begun.lines (take mark.place line) in
    let part : length (take mark.place line) ≤ length line = simp length-take (omega arith) in (
      record {
        lines = rw sum (omega arith);
        few = omega arith;
        small = w.small;
        next = size;
        tag = omega arith;
      },
      record { most = short; first = some_lines begun.lines (take mark.place line) (begun.octets + length line) },
    )

marked_then : (begun : Begun) (line : List ℕ) (mark : Option Mark) → IsWithin Line begun → begun.octets + length line ≤ 65536 → Then (marked_or_finished begun line mark)
marked_then begun line None w short = closed_then (Command (record { lines = begun.lines ++ line ∷ []; literals = begun.literals })) refl
marked_then begun line (Some mark) w short =
    either (nat_lt 1048576 mark.size) (closed (bad begun line (TooLarge mark.size))) (cond (nat_le 8 (length begun.literals)) (closed (bad begun line Many)) (asked begun line mark))
    (closed_then (bad begun line (TooLarge mark.size)) refl) (λ small.
    either (nat_le 8 (length begun.literals)) (closed (bad begun line Many)) (asked begun line mark) (closed_then (bad begun line Many) refl) (λ few.
    asked_then begun line mark w short (ltb-not 1048576 mark.size small) (leb-false 8 (length begun.literals) few)))

pub ended_within : (begun : Begun) (line : List ℕ) (next : Next) (new : Begun) → IsWithin Line begun → ended begun line ≡ says_next next new → IsWithin (awaits_after next) new × IsBegun new
ended_within begun line next new w e =
    subst Then e (either (nat_lt 65536 (begun.octets + length line)) (closed (bad begun line Long)) (marked_or_finished begun line (mark_of line)) (closed_then (bad begun line Long) refl)
    (λ short. marked_then begun line (mark_of line) w (ltb-not 65536 (begun.octets + length line) short)))

-- what is kept of a command is within its limits
pub parts_within : (reader : Reader) → reader.begun.octets ≤ 65536 → IsWithin reader.awaits reader.begun → parts_of reader ≤ 8454208
parts_within reader most within =
    let lines = within.lines in
    let few = within.few in
    let small = within.small in
    let tag = within.tag in
    omega arith

-- what is said where nothing whole is there is said of nothing else
pub none_waits : {E : Type 0} (X : Type 0) (r : Result Next E) → IfOk r (λ next. next ≡ NotYet → ⊥) → IfOk r (λ next. next ≡ NotYet → X)
none_waits X (Ok next) other = λ e. absurd (other e)
none_waits X (Err e) other = tt
