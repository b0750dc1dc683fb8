-- What a reader has seen, before and after it waits, takes a literal or ends a line.
use Rattle.std.proofs.Common.{◌≡◌, ℕ, ◌+◌, ◌-◌, ◌<◌, ◌≤◌, Bool, true, false, cond, List, [], ◌∷◌, ◌++◌, length, take, drop, nat_lt, nat_le, Option, None, Some, refl, ap, sym, ◌∙◌, arith, zero, suc, subst}
use Rattle.std.proofs.lemmas.List.{append_assoc, length-append, length-take, length-drop, take_at, drop-drop}
use Rattle.imap_stream.specs.Commands.{Heard, end_of, last_byte, heard, saying, before, nothing, closed, says_next, bad, asked, ended, marked_or_finished, with_literal, tag_of_command, first_line, awaited, awaits_after, TakesNext}
use Rattle.imap_stream.specs.Reading.{IsBegun, IsClear, IsSoundReader, IsWithin, IsOpen, EndsAt, Waits, GivesUp, Settles, seen}
use Rattle.imap_stream.specs.declared.begun.Begun.{Begun}
use Rattle.imap_stream.specs.declared.begun.Awaits.{Awaits}
use Rattle.imap_stream.specs.declared.begun.Awaits.TheVariants.{Line, Literal, End}
use Rattle.imap_stream.specs.declared.reader.Reader.{Reader}
use Rattle.imap_stream.specs.declared.next.Next.{Next}
use Rattle.imap_stream.specs.declared.next.Next.TheVariants.{Command, Ask, Bad, NotYet}
use Rattle.imap_stream.specs.declared.next.BadLine.{BadLine}
use Rattle.imap_stream.specs.declared.next.LineFault.TheVariants.{Long, Literal as TooLarge, Many}
use Rattle.imap_stream.specs.declared.marks.Mark.{Mark}
use Rattle.imap_stream.specs.LiteralMarks.{mark_of}
use Rattle.imap_stream.proofs.Within.{ended_within, tag_short, within_end, within_literal}
use Rattle.imap_stream.proofs.Lines.{EndsHere, ends, end_of-one, end_of-last, last_byte-twice}
use Rattle.imap_stream.proofs.Hearing.{partly, given_up, heard-append, heard_told, literal_run, literal_taken, line_run, long_run, skip_all, skip_end, line_closes}

-- nothing is clear yet
pub clear_none : (held : List ℕ) (n : ℕ) → IsClear held n 0
clear_none held n more = end_of-one (drop n (held ++ more))

pub take_and_drop : (n : ℕ) (s : List ℕ) → take n s ++ drop n s ≡ s
take_and_drop zero s = refl
take_and_drop (suc n) [] = refl
take_and_drop (suc n) (b ∷ s) = ap (λ l. b ∷ l) (take_and_drop n s)

drop_front : (n : ℕ) (u more : List ℕ) → n ≤ length u → drop n (u ++ more) ≡ drop n u ++ more
drop_front zero u more le = refl
drop_front (suc n) [] more le = absurd (omega arith)
drop_front (suc n) (b ∷ u) more le = drop_front n u more (omega arith)

clear_line : (line more : List ℕ) → end_of line ≡ None → end_of (take (length line - 1 + 1) (line ++ more)) ≡ None
clear_line [] more none = end_of-one more
clear_line (b ∷ line) more none =
    let size : length (b ∷ line) - 1 + 1 ≡ length (b ∷ line) = omega arith in
    rw size (ap end_of (take_at (b ∷ line) more (length (b ∷ line)) refl) ∙ none)

-- a line that was searched whole
pub clear_open : (held : List ℕ) (n : ℕ) → n ≤ length held → end_of (drop n held) ≡ None → IsClear held n (length (drop n held) - 1)
clear_open held n within none more = rw (drop_front n held more within) (clear_line (drop n held) more none)

-- a literal of these octets, and a line behind it
pub open_run : (awaits : Awaits) (begun : Begun) (held : List ℕ) → IsOpen awaits → IsBegun begun → awaited awaits ≤ length held
    → end_of (drop (awaited awaits) held) ≡ None → begun.octets + length (drop (awaited awaits) held) ≤ 65537 → (heard (before begun awaits) held).said ≡ []
open_run Line begun held open_line is within none short = ap (λ h. h.said) (line_run begun [] held none (omega arith))
open_run (Literal n) begun held open_line is within none short = by_line (drop n held) refl
  where
    size : length (take n held) ≡ n
    size = simp length-take (omega arith)

    by_line : (line : List ℕ) → drop n held ≡ line → (heard (before begun (Literal n)) held).said ≡ []
    by_line [] e =
        let few : length held ≤ n = (let all : length (drop n held) ≡ 0 = ap length e in omega (arith, simp length-drop at all)) in
        ap (λ h. h.said) (literal_run begun n [] held (omega arith))
    by_line (b ∷ line) e =
        let whole : held ≡ take n held ++ b ∷ line = sym (take_and_drop n held) ∙ ap (λ l. take n held ++ l) e in
        let taken : heard (before begun (Literal n)) (take n held ++ b ∷ line) ≡ heard (before (with_literal begun (take n held)) Line) (b ∷ line) =
        subst (λ k. heard (before begun (Literal k)) (take n held ++ b ∷ line) ≡ heard (before (with_literal begun (take n held)) Line) (b ∷ line)) size (literal_taken begun (take n held) b line) in
        let none2 : end_of (b ∷ line) ≡ None = ap end_of (sym e) ∙ none in
        let short2 : begun.octets + length (b ∷ line) ≤ 65537 = subst (λ l. begun.octets + length l ≤ 65537) e short in
        ap (λ l. (heard (before begun (Literal n)) l).said) whole ∙ ap (λ h. h.said) (taken ∙ line_run (with_literal begun (take n held)) [] (b ∷ line) none2 (omega arith))
open_run (End tag) begun held open_line is within none short = absurd open_line

-- the same, where the line is too long
pub open_long : (awaits : Awaits) (begun : Begun) (held : List ℕ) → IsOpen awaits → IsBegun begun → awaited awaits ≤ length held
    → end_of (drop (awaited awaits) held) ≡ None → 65537 < begun.octets + length (drop (awaited awaits) held)
    → heard (before begun awaits) held ≡ given_up begun (drop (awaited awaits) held)
open_long Line begun held open_line is within none long = long_run begun [] held is none (let m = is.most in omega arith) (omega arith)
open_long (Literal n) begun held open_line is within none long = by_line (drop n held) refl
  where
    size : length (take n held) ≡ n
    size = simp length-take (omega arith)

    by_line : (line : List ℕ) → drop n held ≡ line → heard (before begun (Literal n)) held ≡ given_up begun (drop n held)
    by_line [] e = absurd (let short : length (drop n held) ≡ 0 = ap length e in let m = is.most in omega arith)
    by_line (b ∷ line) e =
        let whole : held ≡ take n held ++ b ∷ line = sym (take_and_drop n held) ∙ ap (λ l. take n held ++ l) e in
        let taken : heard (before begun (Literal n)) (take n held ++ b ∷ line) ≡ heard (before (with_literal begun (take n held)) Line) (b ∷ line) =
        subst (λ k. heard (before begun (Literal k)) (take n held ++ b ∷ line) ≡ heard (before (with_literal begun (take n held)) Line) (b ∷ line)) size (literal_taken begun (take n held) b line) in
        let none2 : end_of (b ∷ line) ≡ None = ap end_of (sym e) ∙ none in
        let long2 : 65537 < begun.octets + 0 + length (b ∷ line) = (let l2 = subst (λ l. 65537 < begun.octets + length l) e long in omega arith) in
        let is2 : IsBegun (with_literal begun (take n held)) = record { most = is.most; first = is.first } in
        ap (heard (before begun (Literal n))) whole ∙ taken ∙ long_run (with_literal begun (take n held)) [] (b ∷ line) is2 none2 (let m = is.most in omega arith) long2
        ∙ ap (given_up begun) (sym e)
open_long (End tag) begun held open_line is within none long = absurd open_line

-- what is kept of a line that is too long says the same
pub skip_same : (begun : Begun) (tag : Option (List ℕ)) (line : List ℕ) → end_of line ≡ None
    → heard (before begun (End tag)) (last_byte line) ≡ heard (before begun (End tag)) line
skip_same begun tag line none = skip_all begun tag (last_byte line) (end_of-last line) ∙ ap (partly begun (End tag)) (last_byte-twice line) ∙ sym (skip_all begun tag line none)

pub given_up_same : (begun : Begun) (line : List ℕ) → heard (before nothing (End (tag_of_command begun line))) (last_byte line) ≡ given_up begun line
given_up_same begun line = skip_all nothing (tag_of_command begun line) (last_byte line) (end_of-last line) ∙ ap (partly nothing (End (tag_of_command begun line))) (last_byte-twice line)

nothing_is : IsBegun nothing
nothing_is = record { most = omega arith; first = λ _. refl }

-- a line is given up
pub gives_up_sound : (old new : Reader) (bytes : List ℕ) (start : ℕ) → GivesUp old bytes start new → IsSoundReader new bytes
gives_up_sound old new bytes start g = record {
  given = g.within;
  begun = subst IsBegun (sym g.begun) nothing_is;
  limits = rw (g.begun, g.awaits) (within_end (tag_of_command old.begun (drop start bytes)) (tag_short (first_line old.begun.lines (drop start bytes))));
  within = subst (λ n. n ≤ length (drop (awaited new.awaits) (drop new.given bytes))) (sym g.scanned) (omega arith);
  clear = subst (IsClear (drop new.given bytes) (awaited new.awaits)) (sym g.scanned) (clear_none (drop new.given bytes) (awaited new.awaits));
}

-- the line that begins at a place
line_at : (r : Reader) (bytes : List ℕ) (start : ℕ) → start ≡ r.given + awaited r.awaits → drop start bytes ≡ drop (awaited r.awaits) (drop r.given bytes)
line_at r bytes start e = ap (λ n. drop n bytes) e ∙ sym (drop-drop (awaited r.awaits) r.given bytes)

-- a line that has not come whole, with its literal
pub record Open (r : Reader) (bytes : List ℕ) (start : ℕ) : Type 0 where
  pub line : drop start bytes ≡ drop (awaited r.awaits) (drop r.given bytes)
  pub within : awaited r.awaits ≤ length (drop r.given bytes)
  pub none : end_of (drop (awaited r.awaits) (drop r.given bytes)) ≡ None
  pub size : length (drop (awaited r.awaits) (drop r.given bytes)) ≡ length bytes - start

pub open_at : (r : Reader) (bytes : List ℕ) (start : ℕ) → Waits r bytes start → Open r bytes start
open_at r bytes start w =
    let line = line_at r bytes start w.begins in
    let e = w.begins in
    let inside = w.within in
    record {
      line = line;
      within = simp length-drop (omega arith);
      none = subst (λ l. end_of l ≡ None) line w.open_line;
      size = simp length-drop (omega arith);
    }

pub gives_up_same : (old new : Reader) (bytes : List ℕ) (start : ℕ) → Waits old bytes start → IsOpen old.awaits → 65537 < old.begun.octets + (length bytes - start)
    → GivesUp old bytes start new → seen new bytes ≡ seen old bytes
gives_up_same old new bytes start w is_open long g =
    let o = open_at old bytes start w in
    let size = o.size in
    let long2 : 65537 < old.begun.octets + length (drop (awaited old.awaits) (drop old.given bytes)) = omega arith in
    ap (λ (b : Begun). heard (before b new.awaits) (drop new.given bytes)) g.begun ∙ ap (λ a. heard (before nothing a) (drop new.given bytes)) g.awaits
    ∙ ap (heard (before nothing (End (tag_of_command old.begun (drop start bytes))))) g.rest ∙ given_up_same old.begun (drop start bytes)
    ∙ ap (given_up old.begun) o.line ∙ sym (open_long old.awaits old.begun (drop old.given bytes) is_open w.sound.begun o.within o.none long2)

pub none_long : (old : Reader) (bytes : List ℕ) (start : ℕ) → Waits old bytes start → IsOpen old.awaits → 65537 < old.begun.octets + (length bytes - start) → (seen old bytes).said ≡ []
none_long old bytes start w is_open long =
    let o = open_at old bytes start w in
    let size = o.size in
    let long2 : 65537 < old.begun.octets + length (drop (awaited old.awaits) (drop old.given bytes)) = omega arith in
    ap (λ h. h.said) (open_long old.awaits old.begun (drop old.given bytes) is_open w.sound.begun o.within o.none long2)

pub none_short : (old : Reader) (bytes : List ℕ) (start : ℕ) → Waits old bytes start → IsOpen old.awaits → old.begun.octets + (length bytes - start) ≤ 65537 → (seen old bytes).said ≡ []
none_short old bytes start w is_open short =
    let o = open_at old bytes start w in
    let size = o.size in
    let short2 : old.begun.octets + length (drop (awaited old.awaits) (drop old.given bytes)) ≤ 65537 = omega arith in
    open_run old.awaits old.begun (drop old.given bytes) is_open w.sound.begun o.within o.none short2

-- a line that was searched to its end
pub scanned_sound : (old : Reader) (bytes : List ℕ) (start n : ℕ) → Waits old bytes start → n ≡ length bytes - start - 1
    → IsSoundReader (record { begun = old.begun; awaits = old.awaits; given = old.given; scanned = n }) bytes
scanned_sound old bytes start n w e =
    let o = open_at old bytes start w in
    let size = o.size in
    let line = drop (awaited old.awaits) (drop old.given bytes) in
    let same : n ≡ length line - 1 = omega arith in
    record {
      given = w.sound.given;
      begun = w.sound.begun;
      limits = w.sound.limits;
      within = omega arith;
      clear = subst (IsClear (drop old.given bytes) (awaited old.awaits)) (sym same) (clear_open (drop old.given bytes) (awaited old.awaits) o.within o.none);
    }

-- a line that is too long
pub skipped_sound : (old : Reader) (bytes : List ℕ) (given : ℕ) (tag : Option (List ℕ)) → IsSoundReader old bytes → old.awaits ≡ End tag → given ≤ length bytes
    → IsSoundReader (record { begun = old.begun; awaits = End tag; given = given; scanned = 0 }) bytes
skipped_sound old bytes given tag sound is within = record {
  given = within;
  begun = sound.begun;
  limits = subst (λ a. IsWithin a old.begun) is sound.limits;
  within = omega arith;
  clear = clear_none (drop given bytes) 0;
}

-- a literal that has not come whole says nothing
pub none_of_literal : (awaits : Awaits) (begun : Begun) (held : List ℕ) → length held < awaited awaits → (heard (before begun awaits) held).said ≡ []
none_of_literal Line begun held short = absurd (omega arith)
none_of_literal (Literal n) begun held short = ap (λ h. h.said) (literal_run begun n [] held (omega arith))
none_of_literal (End tag) begun held short = absurd (omega arith)

-- nothing said is not said
abbrev pub SaysMore : Heard → Type 0
SaysMore h = h.said ≡ NotYet ∷ [] → ⊥

says_either : (t : Bool) (h k : Heard) → SaysMore h → SaysMore k → SaysMore (cond t h k)
says_either true h k a b = a
says_either false h k a b = b

says_bad : (line : BadLine) (begun : Begun) → SaysMore (says_next (Bad line) begun)
says_bad line begun e = cc

says_of_mark : (begun : Begun) (line : List ℕ) (mark : Option Mark) → SaysMore (marked_or_finished begun line mark)
says_of_mark begun line None = λ e. cc
says_of_mark begun line (Some mark) =
    says_either (nat_lt 1048576 mark.size) (closed (bad begun line (TooLarge mark.size))) (cond (nat_le 8 (length begun.literals)) (closed (bad begun line Many)) (asked begun line mark))
    (λ e. cc) (says_either (nat_le 8 (length begun.literals)) (closed (bad begun line Many)) (asked begun line mark) (λ e. cc) (λ e. cc))

pub says_more : (begun : Begun) (line : List ℕ) → SaysMore (ended begun line)
says_more begun line = says_either (nat_lt 65536 (begun.octets + length line)) (closed (bad begun line Long)) (marked_or_finished begun line (mark_of line)) (λ e. cc) (says_of_mark begun line (mark_of line))

takes_said : (next : Next) (old new : Heard) → (next ≡ NotYet → ⊥) → old ≡ saying (next ∷ []) new → TakesNext old next new
takes_said (Command command) old new some e = e
takes_said (Ask n) old new some e = e
takes_said (Bad line) old new some e = e
takes_said NotYet old new some e = absurd (some refl)

-- the bytes of a line, its CRLF, and what follows
pub heard_line : (begun : Begun) (awaits : Awaits) (u : List ℕ) (place : ℕ) (h : Heard) → EndsHere u place
    → heard (before begun awaits) (take place u ++ 13 ∷ 10 ∷ []) ≡ h → heard (before begun awaits) u ≡ heard h (drop (place + 2) u)
heard_line begun awaits u place h ends e =
    let rest = drop (place + 2) u in
    ap (heard (before begun awaits)) (ends.parts.whole ∙ sym (append_assoc (take place u) (13 ∷ 10 ∷ []) rest))
    ∙ heard-append (before begun awaits) (take place u ++ 13 ∷ 10 ∷ []) rest ∙ ap (λ k. heard k rest) e

-- a line of a command ends
pub end_takes : (begun now : Begun) (awaits : Awaits) (bytes : List ℕ) (given place : ℕ) (next : Next) → IsBegun begun → EndsAt given bytes place
    → ended begun (take place (drop given bytes)) ≡ says_next next now → awaits ≡ awaits_after next
    → TakesNext (heard (before begun Line) (drop given bytes)) next (heard (before now awaits) (drop (given + place + 2) bytes))
end_takes begun now awaits bytes given place next is end e after =
    let u = drop given bytes in
    let here = ends u place end.first in
    let line = take place u in
    let some : next ≡ NotYet → ⊥ = λ none. says_more begun line (ap (λ h. h.said) e ∙ ap (λ n. n ∷ []) none) in
    let far : drop (place + 2) u ≡ drop (given + place + 2) bytes = drop-drop (place + 2) given bytes ∙ ap (λ n. drop n bytes) (let sum : given + (place + 2) ≡ given + place + 2 = omega arith in sum) in
    takes_said next (heard (before begun Line) u) (heard (before now awaits) (drop (given + place + 2) bytes)) some
    (heard_line begun Line u place (says_next next now) here (line_closes begun line is here.parts.open_line ∙ e) ∙ heard_told next now (drop (place + 2) u)
    ∙ ap (λ a. saying (next ∷ []) (heard (before now a) (drop (place + 2) u))) (sym after) ∙ ap (λ l. saying (next ∷ []) (heard (before now awaits) l)) far)

pub end_sound : (begun now : Begun) (awaits : Awaits) (bytes line : List ℕ) (given place : ℕ) (next : Next) → IsWithin Line begun → EndsAt given bytes place
    → ended begun line ≡ says_next next now → awaits ≡ awaits_after next → IsSoundReader (record { begun = now; awaits = awaits; given = given + place + 2; scanned = 0 }) bytes
end_sound begun now awaits bytes line given place next within end e after =
    let new = ended_within begun line next now within e in
    record {
      given = end.within;
      begun = new.1;
      limits = subst (λ a. IsWithin a now) (sym after) new.0;
      within = omega arith;
      clear = clear_none (drop (given + place + 2) bytes) (awaited awaits);
    }

-- a line that is too long ends
pub end_long_takes : (begun : Begun) (tag : Option (List ℕ)) (bytes : List ℕ) (given place : ℕ) → EndsAt given bytes place
    → heard (before begun (End tag)) (drop given bytes) ≡ saying (Bad (record { tag = tag; why = Long }) ∷ []) (heard (before nothing Line) (drop (given + place + 2) bytes))
end_long_takes begun tag bytes given place end =
    let u = drop given bytes in
    let here = ends u place end.first in
    let line : BadLine = record { tag = tag; why = Long } in
    let far : drop (place + 2) u ≡ drop (given + place + 2) bytes = drop-drop (place + 2) given bytes ∙ ap (λ n. drop n bytes) (let sum : given + (place + 2) ≡ given + place + 2 = omega arith in sum) in
    heard_line begun (End tag) u place (closed (Bad line)) here (skip_end begun tag (take place u) here.parts.open_line) ∙ heard_told (Bad line) nothing (drop (place + 2) u)
    ∙ ap (λ l. saying (Bad line ∷ []) (heard (before nothing Line) l)) far

-- a literal is taken
pub settles_same : (old new : Reader) (bytes : List ℕ) (start place n : ℕ) → old.awaits ≡ Literal n → start ≡ old.given + n → EndsAt start bytes place
    → Settles old bytes start new → seen new bytes ≡ seen old bytes
settles_same old new bytes start place n literal e end s = by_line (drop start bytes) refl
  where
    u : List ℕ
    u = drop old.given bytes

    line : drop start bytes ≡ drop n u
    line = ap (λ k. drop k bytes) e ∙ sym (drop-drop n old.given bytes)

    count : start - old.given ≡ n
    count = omega arith

    size : length (take n u) ≡ n
    size = let inside = end.within in simp (length-take, length-drop) (omega arith)

    new_is : seen new bytes ≡ heard (before (with_literal old.begun (take n u)) Line) (drop start bytes)
    new_is =
        ap (λ (b : Begun). heard (before b new.awaits) (drop new.given bytes)) (s.begun ∙ ap (λ k. with_literal old.begun (take k u)) count)
        ∙ ap (λ a. heard (before (with_literal old.begun (take n u)) a) (drop new.given bytes)) s.awaits
        ∙ ap (λ k. heard (before (with_literal old.begun (take n u)) Line) (drop k bytes)) s.given

    by_line : (l : List ℕ) → drop start bytes ≡ l → seen new bytes ≡ seen old bytes
    by_line [] none = absurd (let some : end_of (drop start bytes) ≡ Some place = end.first in let wrong : None ≡ Some place = ap end_of (sym none) ∙ some in cc)
    by_line (b ∷ l) some =
        let whole : take n u ++ b ∷ l ≡ u = ap (λ k. take n u ++ k) (sym some ∙ line) ∙ take_and_drop n u in
        let taken : heard (before old.begun (Literal n)) (take n u ++ b ∷ l) ≡ heard (before (with_literal old.begun (take n u)) Line) (b ∷ l) =
        subst (λ k. heard (before old.begun (Literal k)) (take n u ++ b ∷ l) ≡ heard (before (with_literal old.begun (take n u)) Line) (b ∷ l)) size (literal_taken old.begun (take n u) b l) in
        new_is ∙ ap (heard (before (with_literal old.begun (take n u)) Line)) some ∙ sym taken ∙ ap (heard (before old.begun (Literal n))) whole ∙ ap (λ a. heard (before old.begun a) u) (sym literal)

pub settles_sound : (old new : Reader) (bytes : List ℕ) (start place n : ℕ) → IsSoundReader old bytes → old.awaits ≡ Literal n → start ≡ old.given + n → EndsAt start bytes place
    → Settles old bytes start new → IsSoundReader new bytes
settles_sound old new bytes start place n sound literal e end s = record {
  given = (let inside = end.within in let g = s.given in omega arith);
  begun = subst IsBegun (sym s.begun) (record { most = sound.begun.most; first = sound.begun.first });
  limits = rw (s.begun, s.awaits) (within_literal old.begun n (take (start - old.given) (drop old.given bytes)) (subst (λ a. IsWithin a old.begun) literal sound.limits) literal_fits);
  within = rw (s.scanned, s.awaits, s.given) (let w : old.scanned ≤ length (drop (awaited old.awaits) (drop old.given bytes)) = sound.within in
      let w2 : old.scanned ≤ length (drop n (drop old.given bytes)) = subst (λ a. old.scanned ≤ length (drop (awaited a) (drop old.given bytes))) literal w in
      subst (λ l. old.scanned ≤ length l) line w2);
  clear = λ more. rw (s.scanned, s.awaits, s.given) (front more ∙ subst (λ a. end_of (take (old.scanned + 1) (drop (awaited a) (drop old.given bytes ++ more))) ≡ None) literal (sound.clear more));
}
  where
    literal_fits : length (take (start - old.given) (drop old.given bytes)) ≤ n
    literal_fits = simp length-take (omega arith)

    line : drop n (drop old.given bytes) ≡ drop start bytes
    line = drop-drop n old.given bytes ∙ ap (λ k. drop k bytes) (sym e)

    front : (more : List ℕ) → end_of (take (old.scanned + 1) (drop start bytes ++ more)) ≡ end_of (take (old.scanned + 1) (drop n (drop old.given bytes ++ more)))
    front more =
        let fits : n ≤ length (drop old.given bytes) = (let inside = end.within in simp length-drop (omega arith)) in
        ap (λ l. end_of (take (old.scanned + 1) l)) (ap (λ k. k ++ more) (sym line) ∙ sym (drop_front n (drop old.given bytes) more fits))

-- more bytes come
pub fed_same : (r : Reader) (bytes more : List ℕ) → r.given ≤ length bytes → seen r (bytes ++ more) ≡ heard (seen r bytes) more
fed_same r bytes more within = ap (heard (before r.begun r.awaits)) (drop_front r.given bytes more within) ∙ heard-append (before r.begun r.awaits) (drop r.given bytes) more

pub fed_sound : (r : Reader) (bytes more : List ℕ) → IsSoundReader r bytes → IsSoundReader r (bytes ++ more)
fed_sound r bytes more sound = record {
  given = (let g = sound.given in simp length-append (omega arith));
  begun = sound.begun;
  limits = sound.limits;
  within = (let w = sound.within in let g = sound.given in let n = awaited r.awaits in
      let fits : length (drop n (drop r.given bytes)) ≤ length (drop n (drop r.given (bytes ++ more))) = simp (length-drop, length-append) (omega arith) in omega arith);
  clear = λ after. ap (λ l. end_of (take (r.scanned + 1) (drop (awaited r.awaits) l)))
      (ap (λ l. l ++ after) (drop_front r.given bytes more sound.given) ∙ append_assoc (drop r.given bytes) more after) ∙ sound.clear (more ++ after);
}
