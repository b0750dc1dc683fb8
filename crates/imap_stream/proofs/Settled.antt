-- What is kept of a stream where nothing whole is there.
use Rattle.std.proofs.Common.{◌≡◌, ℕ, ◌+◌, ◌-◌, ◌<◌, ◌≤◌, Bool, true, false, nat_lt, min, List, [], ◌∷◌, ◌++◌, length, take, drop, Option, None, Some, refl, ap, sym, ◌∙◌, arith, subst}
use Rattle.std.proofs.lemmas.Bool.Decides.{Decides-ltb}
use Rattle.std.proofs.lemmas.List.{length-append, length-take, length-drop, drop-drop}
use Rattle.std.proofs.lemmas.List.Sums.{sum_by_push}
use Rattle.imap_stream.specs.Commands.{end_of, last_byte, heard, before, with_literal, tag_of_command, awaited}
use Rattle.imap_stream.specs.Holding.{octets_in, tag_kept, tag_octets, held_in}
use Rattle.imap_stream.specs.Reading.{IsBegun, IsWithin, IsSoundReader, IsOpen, IsSettled, EndsAt, Waits, GivesUp, seen}
use Rattle.imap_stream.specs.declared.begun.Begun.{Begun}
use Rattle.imap_stream.specs.declared.begun.Awaits.{Awaits}
use Rattle.imap_stream.specs.declared.begun.Awaits.TheVariants.{Line, Literal, End}
use Rattle.imap_stream.specs.declared.reader.Reader.{Reader}
use Rattle.imap_stream.proofs.Lines.{ends}
use Rattle.imap_stream.proofs.Wanting.{end_said}
use Rattle.imap_stream.proofs.Hearing.{ltb-not, literal_run, literal_taken, line_run, skip_all}
use Rattle.imap_stream.proofs.Readings.{take_and_drop, open_at, open_long, gives_up_sound}

-- how much is kept of a command and of bytes behind it
abbrev pub all_kept : Begun → Awaits → List ℕ → ℕ
all_kept begun awaits held = octets_in begun.lines + octets_in begun.literals + tag_octets (tag_kept awaits) + length held

-- a literal of these octets, and a line behind it that has not ended
pub kept_run : (awaits : Awaits) (begun : Begun) (held : List ℕ) → IsOpen awaits → awaited awaits ≤ length held
    → end_of (drop (awaited awaits) held) ≡ None → begun.octets + length (drop (awaited awaits) held) ≤ 65537 → all_kept begun awaits held ≡ held_in (heard (before begun awaits) held)
kept_run Line begun held open_line within none short = sym (ap held_in (line_run begun [] held none (omega arith)))
kept_run (Literal n) begun held open_line within none short = by_line (drop n held) refl
  where
    size : length (take n held) ≡ n
    size = simp length-take (omega arith)

    by_line : (line : List ℕ) → drop n held ≡ line → all_kept begun (Literal n) held ≡ held_in (heard (before begun (Literal n)) held)
    by_line [] e =
        let few : length held ≤ n = (let all : length (drop n held) ≡ 0 = ap length e in omega (arith, simp length-drop at all)) in
        sym (ap held_in (literal_run begun n [] held (omega arith)))
    by_line (b ∷ line) e =
        let whole : held ≡ take n held ++ b ∷ line = sym (take_and_drop n held) ∙ ap (λ l. take n held ++ l) e in
        let taken : heard (before begun (Literal n)) (take n held ++ b ∷ line) ≡ heard (before (with_literal begun (take n held)) Line) (b ∷ line) =
        subst (λ k. heard (before begun (Literal k)) (take n held ++ b ∷ line) ≡ heard (before (with_literal begun (take n held)) Line) (b ∷ line)) size (literal_taken begun (take n held) b line) in
        let none2 : end_of (b ∷ line) ≡ None = ap end_of (sym e) ∙ none in
        let short2 : begun.octets + length (b ∷ line) ≤ 65537 = subst (λ l. begun.octets + length l ≤ 65537) e short in
        let run : held_in (heard (before begun (Literal n)) held) ≡ all_kept (with_literal begun (take n held)) Line (b ∷ line) =
        ap (λ l. held_in (heard (before begun (Literal n)) l)) whole ∙ ap held_in (taken ∙ line_run (with_literal begun (take n held)) [] (b ∷ line) none2 (omega arith)) in
        let sum : octets_in (begun.literals ++ take n held ∷ []) ≡ octets_in begun.literals + length (take n held) = sum_by_push (λ (t : List ℕ). length t) begun.literals (take n held) in
        let rest : length held - n ≡ length (b ∷ line) = (let l : length (drop n held) ≡ length (b ∷ line) = ap length e in simp length-drop at l) in
        let same : all_kept begun (Literal n) held ≡ all_kept (with_literal begun (take n held)) Line (b ∷ line) = rw (sum, size) (omega arith) in
        same ∙ sym run
kept_run (End tag) begun held open_line within none short = absurd open_line

-- what is kept of a command within the limits, with a line that is not too long
pub kept_most : (awaits : Awaits) (begun : Begun) (held : List ℕ) → IsOpen awaits → IsBegun begun → IsWithin awaits begun → length held ≤ awaited awaits + (65537 - begun.octets) → all_kept begun awaits held ≤ 8500000
kept_most Line begun held open_line is w short =
    let most = is.most in
    let lines = w.lines in
    let few = w.few in
    let small = w.small in
    omega arith
kept_most (Literal n) begun held open_line is w short =
    let most = is.most in
    let lines = w.lines in
    let few = w.few in
    let small = w.small in
    let next = w.next in
    omega arith
kept_most (End tag) begun held open_line is w short = absurd open_line

pub settled_open : (r : Reader) (bytes : List ℕ) (start : ℕ) → Waits r bytes start → IsOpen r.awaits → r.begun.octets + (length bytes - start) ≤ 65537 → IsSettled r bytes
settled_open r bytes start w is_open short =
    let o = open_at r bytes start w in
    let size = o.size in
    let line = drop (awaited r.awaits) (drop r.given bytes) in
    let short2 : r.begun.octets + length line ≤ 65537 = omega arith in
    let held : length (drop r.given bytes) ≤ awaited r.awaits + (65537 - r.begun.octets) = (let within = o.within in let l : length (drop r.given bytes) - awaited r.awaits ≡ length line = sym (simp length-drop refl) in omega arith) in
    record {
      same = kept_run r.awaits r.begun (drop r.given bytes) is_open o.within o.none short2;
      most = kept_most r.awaits r.begun (drop r.given bytes) is_open w.sound.begun w.sound.limits held;
    }

-- a literal that has not come whole
pub settled_literal : (r : Reader) (bytes : List ℕ) → IsSoundReader r bytes → length (drop r.given bytes) < awaited r.awaits → IsSettled r bytes
settled_literal r bytes sound short = by_awaits r.awaits refl
  where
    held : List ℕ
    held = drop r.given bytes

    by_awaits : (a : Awaits) → r.awaits ≡ a → IsSettled r bytes
    by_awaits Line is = absurd (let none : length held < 0 = subst (λ a. length held < awaited a) is short in omega arith)
    by_awaits (Literal n) is =
        let few : length held < n = subst (λ a. length held < awaited a) is short in
        record {
          same = rw is (sym (ap held_in (literal_run r.begun n [] held (omega arith))));
          most = rw is (kept_most (Literal n) r.begun held tt sound.begun (subst (λ a. IsWithin a r.begun) is sound.limits) (omega arith));
        }
    by_awaits (End tag) is = absurd (let none : length held < 0 = subst (λ a. length held < awaited a) is short in omega arith)

-- the end of a line that is too long is awaited, of which at most one byte is kept
in_end : (begun : Begun) (tag : Option (List ℕ)) (held : List ℕ) → length held ≤ 1 → all_kept begun (End tag) held ≡ held_in (heard (before begun (End tag)) held)
in_end begun tag [] few = refl
in_end begun tag (b ∷ []) few = sym (ap held_in (skip_all begun tag (b ∷ []) refl))
in_end begun tag (b ∷ c ∷ held) few = absurd (omega arith)

pub settled_end : (r : Reader) (bytes : List ℕ) (tag : Option (List ℕ)) → IsBegun r.begun → IsWithin r.awaits r.begun → r.awaits ≡ End tag → length (drop r.given bytes) ≤ 1 → IsSettled r bytes
settled_end r bytes tag begun limits is few = record {
  same = rw is (in_end r.begun tag (drop r.given bytes) few);
  most = (
      let most = begun.most in
      let lines = limits.lines in
      let count = limits.few in
      let small = limits.small in
      let short = limits.tag in
      omega arith);
}

pub last_few : (line : List ℕ) → length (last_byte line) ≤ 1
last_few [] = omega arith
last_few (b ∷ []) = omega arith
last_few (b ∷ c ∷ line) = last_few (c ∷ line)

-- a line is given up
pub settled_given_up : (old new : Reader) (bytes : List ℕ) (start : ℕ) → GivesUp old bytes start new → IsSettled new bytes
settled_given_up old new bytes start g =
    let sound = gives_up_sound old new bytes start g in
    settled_end new bytes (tag_of_command old.begun (drop start bytes)) sound.begun sound.limits g.awaits (subst (λ l. length l ≤ 1) (sym g.rest) (last_few (drop start bytes)))

-- where nothing is said, no CRLF ends the line that comes next
none_ends : (r : Reader) (bytes : List ℕ) (start : ℕ) → IsSoundReader r bytes → start ≡ r.given + awaited r.awaits → start ≤ length bytes → (seen r bytes).said ≡ [] → end_of (drop start bytes) ≡ None
none_ends r bytes start sound begins within none = by_end (end_of (drop start bytes)) refl
  where
    by_end : (o : Option ℕ) → end_of (drop start bytes) ≡ o → end_of (drop start bytes) ≡ None
    by_end None is = is
    by_end (Some place) is =
        let here = ends (drop start bytes) place is in
        let size : length (drop start bytes) ≡ length (take place (drop start bytes)) + length (13 ∷ 10 ∷ drop (place + 2) (drop start bytes)) =
        ap length here.parts.whole ∙ length-append (take place (drop start bytes)) (13 ∷ 10 ∷ drop (place + 2) (drop start bytes)) in
        let front = here.size in
        let ends_at : EndsAt start bytes place = record { within = (let l : length bytes - start ≡ length (drop start bytes) = sym (length-drop start bytes) in omega arith); first = is } in
        absurd (end_said r bytes start place sound begins ends_at none)

-- where nothing is said of a stream, how much is kept of it: of a line that is too long the tag and one byte
pub held_long : (r : Reader) (bytes : List ℕ) → IsSoundReader r bytes → IsOpen r.awaits → (seen r bytes).said ≡ [] → 65537 < r.begun.octets + length (drop (awaited r.awaits) (drop r.given bytes))
    → tag_octets (tag_of_command r.begun (drop (awaited r.awaits) (drop r.given bytes))) + 1 ≡ held_in (seen r bytes)
held_long r bytes sound is_open none long =
    let held = drop r.given bytes in
    let line = drop (awaited r.awaits) held in
    let most = sound.begun.most in
    let size : length line ≡ length held - awaited r.awaits = length-drop (awaited r.awaits) held in
    let size2 : length held ≡ length bytes - r.given = length-drop r.given bytes in
    let given = sound.given in
    let within : awaited r.awaits ≤ length held = omega arith in
    let start : r.given + awaited r.awaits ≤ length bytes = omega arith in
    let at : drop (r.given + awaited r.awaits) bytes ≡ line = sym (drop-drop (awaited r.awaits) r.given bytes) in
    let open_line : end_of line ≡ None = ap end_of (sym at) ∙ none_ends r bytes (r.given + awaited r.awaits) sound refl start none in
    let one : length (last_byte line) ≡ 1 = last_one line (omega arith) in
    let run : held_in (seen r bytes) ≡ 0 + 0 + tag_octets (tag_of_command r.begun line) + length (last_byte line) = ap held_in (open_long r.awaits r.begun held is_open sound.begun within open_line long) in
    omega (arith, one, run)
  where
    last_one : (l : List ℕ) → 0 < length l → length (last_byte l) ≡ 1
    last_one [] some = absurd (omega arith)
    last_one (b ∷ []) some = refl
    last_one (b ∷ c ∷ l) some = last_one (c ∷ l) (omega arith)

-- and of another all
pub held_short : (r : Reader) (bytes : List ℕ) → IsSoundReader r bytes → IsOpen r.awaits → (seen r bytes).said ≡ [] → r.begun.octets + length (drop (awaited r.awaits) (drop r.given bytes)) ≤ 65537 → IsSettled r bytes
held_short r bytes sound is_open none short = by_size (nat_lt (length held) (awaited r.awaits)) refl
  where
    held : List ℕ
    held = drop r.given bytes

    by_size : (t : Bool) → nat_lt (length held) (awaited r.awaits) ≡ t → IsSettled r bytes
    by_size true few = settled_literal r bytes sound ((Decides-ltb (length held) (awaited r.awaits)).0 few)
    by_size false all =
        let given = sound.given in
        let within : awaited r.awaits ≤ length held = ltb-not (length held) (awaited r.awaits) all in
        let size : length (drop (awaited r.awaits) held) ≡ length held - awaited r.awaits = length-drop (awaited r.awaits) held in
        let size2 : length held ≡ length bytes - r.given = length-drop r.given bytes in
        let start : r.given + awaited r.awaits ≤ length bytes = omega arith in
        let waits : Waits r bytes (r.given + awaited r.awaits) = record { sound = sound; begins = refl; within = start; open_line = none_ends r bytes (r.given + awaited r.awaits) sound refl start none } in
        settled_open r bytes (r.given + awaited r.awaits) waits is_open (omega arith)

-- and where the end of such a line is awaited, one byte at most
pub held_end : (r : Reader) (bytes : List ℕ) (tag : Option (List ℕ)) → IsSoundReader r bytes → r.awaits ≡ End tag → (seen r bytes).said ≡ []
    → octets_in r.begun.lines + octets_in r.begun.literals + tag_octets tag + min (length (drop r.given bytes)) 1 ≡ held_in (seen r bytes)
held_end r bytes tag sound is none =
    let held = drop r.given bytes in
    let given = sound.given in
    let sum : r.given + 0 ≡ r.given = omega arith in
    let open_line : end_of held ≡ None = ap (λ n. end_of (drop n bytes)) (sym sum) ∙ none_ends r bytes (r.given + 0) sound (ap (λ a. r.given + awaited a) (sym is)) (omega arith) none in
    rw is (ap (λ n. octets_in r.begun.lines + octets_in r.begun.literals + tag_octets tag + n) (last_size held) ∙ sym (ap held_in (skip_all r.begun tag held open_line)))
  where
    last_size : (l : List ℕ) → min (length l) 1 ≡ length (last_byte l)
    last_size [] = refl
    last_size (b ∷ []) = refl
    last_size (b ∷ c ∷ l) = omega arith ∙ last_size (c ∷ l)

no_tag : (a : Awaits) → IsOpen a → tag_octets (tag_kept a) ≡ 0
no_tag Line is_open = refl
no_tag (Literal n) is_open = refl
no_tag (End tag) is_open = absurd is_open

pub held_open : (r : Reader) (bytes came : List ℕ) (n : ℕ) → IsSoundReader r bytes → IsOpen r.awaits → came ≡ drop r.given bytes
    → (65537 < r.begun.octets + length (drop (awaited r.awaits) came) → n ≡ tag_octets (tag_of_command r.begun (drop (awaited r.awaits) came)) + 1)
    → (r.begun.octets + length (drop (awaited r.awaits) came) ≤ 65537 → n ≡ min (octets_in r.begun.lines + octets_in r.begun.literals + length came) 18446744073709551615)
    → (seen r bytes).said ≡ [] → n ≡ held_in (seen r bytes)
held_open r bytes came n sound is_open is long short none =
    by_size (nat_lt 65537 (r.begun.octets + length (drop (awaited r.awaits) held))) refl
    (subst (λ l. 65537 < r.begun.octets + length (drop (awaited r.awaits) l) → n ≡ tag_octets (tag_of_command r.begun (drop (awaited r.awaits) l)) + 1) is long)
    (subst (λ l. r.begun.octets + length (drop (awaited r.awaits) l) ≤ 65537 → n ≡ min (octets_in r.begun.lines + octets_in r.begun.literals + length l) 18446744073709551615) is short)
  where
    held : List ℕ
    held = drop r.given bytes

    by_size : (t : Bool) → nat_lt 65537 (r.begun.octets + length (drop (awaited r.awaits) held)) ≡ t
        → (65537 < r.begun.octets + length (drop (awaited r.awaits) held) → n ≡ tag_octets (tag_of_command r.begun (drop (awaited r.awaits) held)) + 1)
        → (r.begun.octets + length (drop (awaited r.awaits) held) ≤ 65537 → n ≡ min (octets_in r.begun.lines + octets_in r.begun.literals + length held) 18446744073709551615)
        → n ≡ held_in (seen r bytes)
    by_size true is_long long2 short2 =
        let far = (Decides-ltb 65537 (r.begun.octets + length (drop (awaited r.awaits) held))).0 is_long in
        long2 far ∙ held_long r bytes sound is_open none far
    by_size false is_short long2 short2 =
        let near = ltb-not 65537 (r.begun.octets + length (drop (awaited r.awaits) held)) is_short in
        let settled = held_short r bytes sound is_open none near in
        let tag = no_tag r.awaits is_open in
        let most : octets_in r.begun.lines + octets_in r.begun.literals + tag_octets (tag_kept r.awaits) + length held ≤ 8500000 = settled.most in
        let all : n ≡ min (octets_in r.begun.lines + octets_in r.begun.literals + length held) 18446744073709551615 = short2 near in
        let same : octets_in r.begun.lines + octets_in r.begun.literals + tag_octets (tag_kept r.awaits) + length held ≡ held_in (seen r bytes) = settled.same in
        let kept_is : n ≡ octets_in r.begun.lines + octets_in r.begun.literals + tag_octets (tag_kept r.awaits) + length held = omega arith in
        kept_is ∙ same

pub held_ended : (r : Reader) (bytes came : List ℕ) (n : ℕ) (tag : Option (List ℕ)) → IsSoundReader r bytes → r.awaits ≡ End tag → came ≡ drop r.given bytes
    → n ≡ min (octets_in r.begun.lines + octets_in r.begun.literals + tag_octets (tag_kept r.awaits) + min (length came) 1) 18446744073709551615
    → (seen r bytes).said ≡ [] → n ≡ held_in (seen r bytes)
held_ended r bytes came n tag sound is same all none =
    let kept_tag : tag_octets (tag_kept r.awaits) ≡ tag_octets tag = ap (λ a. tag_octets (tag_kept a)) is in
    let held = held_end r bytes tag sound is none in
    let size : length came ≡ length (drop r.given bytes) = ap length same in
    let most = sound.begun.most in
    let lines = sound.limits.lines in
    let count = sound.limits.few in
    let small = sound.limits.small in
    let short = sound.limits.tag in
    let kept_is : n ≡ octets_in r.begun.lines + octets_in r.begun.literals + tag_octets tag + min (length (drop r.given bytes)) 1 = omega arith in
    kept_is ∙ held
