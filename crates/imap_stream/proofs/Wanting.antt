-- Where memory may be wanted for what comes next, and what was searched where nothing has come.
use Rattle.std.proofs.Common.{◌≡◌, ◌≢◌, ℕ, ◌+◌, ◌-◌, ◌<◌, Bool, true, false, cond, List, [], ◌∷◌, length, take, drop, nat_lt, nat_le, Option, None, Some, Result, Ok, Err, OnErr, refl, ap, sym, ◌∙◌, arith, subst, inr}
use Rattle.imap_stream.specs.Commands.{Heard, last_byte, heard, saying, before, closed, says_next, bad, asked, ended, marked_or_finished, with_literal, tag_of_command, awaited, awaits_after, KeepsTag, WantsMemory}
use Rattle.imap_stream.specs.Reading.{IsBegun, IsSoundReader, IsOpen, EndsAt, Waits, GivesUp, Settles, seen}
use Rattle.imap_stream.specs.declared.begun.Begun.{Begun}
use Rattle.imap_stream.specs.declared.begun.Awaits.{Awaits}
use Rattle.imap_stream.specs.declared.begun.Awaits.TheVariants.{Line, Literal, End}
use Rattle.imap_stream.specs.declared.reader.Reader.{Reader}
use Rattle.imap_stream.specs.declared.next.Next.{Next}
use Rattle.imap_stream.specs.declared.next.Next.TheVariants.{Bad}
use Rattle.imap_stream.specs.declared.next.LineFault.TheVariants.{Long, Literal as TooLarge, Many}
use Rattle.imap_stream.specs.declared.marks.Mark.{Mark}
use Rattle.imap_stream.specs.LiteralMarks.{mark_of}
use Rattle.imap_stream.proofs.Lines.{ends}
use Rattle.imap_stream.proofs.Hearing.{given_up, heard_told, line_closes}
use Rattle.imap_stream.proofs.Readings.{open_at, open_long, heard_line, end_long_takes, settles_same}

-- the last byte alone is not searched
length_last : (line : List ℕ) → length (last_byte line) - 1 ≡ 0
length_last [] = refl
length_last (b ∷ []) = refl
length_last (b ∷ c ∷ line) = length_last (c ∷ line)

pub last_searched : (held line : List ℕ) → held ≡ last_byte line → 0 ≡ length held - 1
last_searched held line e = sym (ap (λ l. length l - 1) e ∙ length_last line)

pub given_up_searched : (old new : Reader) (bytes : List ℕ) (start : ℕ) → GivesUp old bytes start new → new.scanned ≡ length (drop (awaited new.awaits) (drop new.given bytes)) - 1
given_up_searched old new bytes start g =
    rw (g.scanned, g.awaits) (last_searched (drop new.given bytes) (drop start bytes) g.rest)

-- what holds anyhow holds of a failure
pub on_err : {A E X : Type 0} (r : Result A E) → X → OnErr r X
on_err (Ok a) x = tt
on_err (Err e) x = x

-- one thing is said
abbrev SaysOne : Heard → Type 0
SaysOne h = (next : Next) × (begun : Begun) × (h ≡ says_next next begun)

either : (t : Bool) (h k : Heard) → SaysOne h → SaysOne k → SaysOne (cond t h k)
either true h k a b = a
either false h k a b = b

one_of_mark : (begun : Begun) (line : List ℕ) (mark : Option Mark) → SaysOne (marked_or_finished begun line mark)
one_of_mark begun line None = (_, _, refl)
one_of_mark begun line (Some mark) =
    either (nat_lt 1048576 mark.size) (closed (bad begun line (TooLarge mark.size))) (cond (nat_le 8 (length begun.literals)) (closed (bad begun line Many)) (asked begun line mark))
    (_, _, refl) (either (nat_le 8 (length begun.literals)) (closed (bad begun line Many)) (asked begun line mark) (_, _, refl) (_, _, refl))

says_one : (begun : Begun) (line : List ℕ) → SaysOne (ended begun line)
says_one begun line = either (nat_lt 65536 (begun.octets + length line)) (closed (bad begun line Long)) (marked_or_finished begun line (mark_of line)) (_, _, refl) (one_of_mark begun line (mark_of line))

some_said : (h k : Heard) (next : Next) → h ≡ saying (next ∷ []) k → h.said ≢ []
some_said h k next e none = absurd (let wrong : next ∷ k.said ≡ [] = sym (ap (λ g. g.said) e) ∙ none in cc)

-- a line has ended
line_said : (begun : Begun) (bytes : List ℕ) (given place : ℕ) → IsBegun begun → EndsAt given bytes place → (heard (before begun Line) (drop given bytes)).said ≢ []
line_said begun bytes given place is end = by_one (says_one begun line)
  where
    u : List ℕ
    u = drop given bytes

    line : List ℕ
    line = take place u

    by_one : SaysOne (ended begun line) → (heard (before begun Line) u).said ≢ []
    by_one (next, now, e) =
        let here = ends u place end.first in
        some_said (heard (before begun Line) u) (heard (before now (awaits_after next)) (drop (place + 2) u)) next
        (heard_line begun Line u place (says_next next now) here (line_closes begun line is here.parts.open_line ∙ e) ∙ heard_told next now (drop (place + 2) u))

pub end_said : (r : Reader) (bytes : List ℕ) (start place : ℕ) → IsSoundReader r bytes → start ≡ r.given + awaited r.awaits → EndsAt start bytes place → (seen r bytes).said ≢ []
end_said r bytes start place sound begins end = by_awaits r.awaits refl
  where
    by_awaits : (a : Awaits) → r.awaits ≡ a → (seen r bytes).said ≢ []
    by_awaits Line is =
        let at : start ≡ r.given = begins ∙ ap (λ a. r.given + awaited a) is ∙ (let z : r.given + 0 ≡ r.given = omega arith in z) in
        subst (λ a. (heard (before r.begun a) (drop r.given bytes)).said ≢ []) (sym is) (line_said r.begun bytes r.given place sound.begun (subst (λ n. EndsAt n bytes place) at end))
    by_awaits (Literal n) is =
        let at : start ≡ r.given + n = begins ∙ ap (λ a. r.given + awaited a) is in
        let begun2 : Begun = with_literal r.begun (take (start - r.given) (drop r.given bytes)) in
        let new : Reader = record { begun = begun2; awaits = Line; given = start; scanned = r.scanned } in
        let settles : Settles r bytes start new = record { begun = refl; awaits = refl; given = refl; scanned = refl } in
        subst (λ h. h.said ≢ []) (settles_same r new bytes start place n is at end settles)
        (line_said begun2 bytes start place (record { most = sound.begun.most; first = sound.begun.first }) end)
    by_awaits (End tag) is =
        let at : start ≡ r.given = begins ∙ ap (λ a. r.given + awaited a) is ∙ (let z : r.given + 0 ≡ r.given = omega arith in z) in
        subst (λ a. (heard (before r.begun a) (drop r.given bytes)).said ≢ []) (sym is)
        (some_said _ _ (Bad (record { tag = tag; why = Long })) (end_long_takes r.begun tag bytes r.given place (subst (λ n. EndsAt n bytes place) at end)))

-- a line is given up that has a tag
keeps_tag : (tag : Option (List ℕ)) → tag ≢ None → KeepsTag (End tag)
keeps_tag None some = absurd (some refl)
keeps_tag (Some tag) some = tt

pub long_wants : (r : Reader) (bytes : List ℕ) (start : ℕ) → Waits r bytes start → IsOpen r.awaits → 65537 < r.begun.octets + (length bytes - start)
    → tag_of_command r.begun (drop start bytes) ≢ None → WantsMemory (seen r bytes)
long_wants r bytes start w is_open long some =
    let o = open_at r bytes start w in
    let size = o.size in
    let line = drop (awaited r.awaits) (drop r.given bytes) in
    let long2 : 65537 < r.begun.octets + length line = omega arith in
    let is : seen r bytes ≡ given_up r.begun line = open_long r.awaits r.begun (drop r.given bytes) is_open w.sound.begun o.within o.none long2 in
    inr (subst (λ h. KeepsTag h.awaits) (sym is) (keeps_tag (tag_of_command r.begun line) (subst (λ l. tag_of_command r.begun l ≢ None) o.line some)))
