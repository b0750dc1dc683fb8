-- What is heard of a line, of a literal, and of a line that is too long.
use Rattle.std.proofs.Common.{◌≡◌, ℕ, ◌+◌, ◌<◌, ◌≤◌, Bool, true, false, cond, List, [], ◌∷◌, ◌++◌, length, take, nat_lt, Option, None, Some, refl, ap, sym, ◌∙◌, arith}
use Rattle.std.proofs.lemmas.List.{append_assoc, append-nil, length-append, take_at}
use Rattle.std.proofs.lemmas.Bool.Decides.{Decides-ltb, nat_tests}
use Rattle.imap_stream.specs.Commands.{Heard, end_of, last_byte, heard, saying, before, nothing, closed, says_next, bad, ended, marked_or_finished, in_line, with_byte, with_literal, tag_of_command, first_line, awaits_after}
use Rattle.imap_stream.specs.LiteralMarks.{tag_of, mark_of}
use Rattle.imap_stream.specs.Reading.{IsBegun}
use Rattle.imap_stream.specs.declared.begun.Begun.{Begun}
use Rattle.imap_stream.specs.declared.begun.Awaits.{Awaits}
use Rattle.imap_stream.specs.declared.begun.Awaits.TheVariants.{Line, Literal, End}
use Rattle.imap_stream.specs.declared.next.Next.{Next}
use Rattle.imap_stream.specs.declared.next.Next.TheVariants.{Bad}
use Rattle.imap_stream.specs.declared.next.LineFault.TheVariants.{Long}
use Rattle.imap_stream.proofs.Lines.{end_of-first, end_of-front, end_of-ended, last_byte-push, last_byte-append}
use Rattle.imap_stream.proofs.Tags.{tag_of-front}

pub ltb-false : (a b : ℕ) → b ≤ a → nat_lt a b ≡ false
ltb-false a b le = by_test (nat_lt a b) refl
  where
    by_test : (t : Bool) → nat_lt a b ≡ t → t ≡ false
    by_test true is = absurd (let lt : a < b = (Decides-ltb a b).0 is in omega arith)
    by_test false is = refl

pub ltb-not : (a b : ℕ) → nat_lt a b ≡ false → b ≤ a
ltb-not a b e = grind (arith, nat_tests)

pub ltb-true : (a b : ℕ) → a < b → nat_lt a b ≡ true
ltb-true a b lt = (Decides-ltb a b).1 lt

-- two pieces
pub heard-append : (h : Heard) (s t : List ℕ) → heard h (s ++ t) ≡ heard (heard h s) t
heard-append h [] t = refl
heard-append h (b ∷ s) t = heard-append (saying h.said (with_byte h.awaits h.begun h.rest b)) s t

saying_twice : (p q : List Next) (h : Heard) → saying (p ++ q) h ≡ saying p (saying q h)
saying_twice p q h = ap (λ (said : List Next). record { said = said; begun = h.begun; awaits = h.awaits; rest = h.rest }) (append_assoc p q h.said)

-- what was said before stays
pub heard-saying : (p : List Next) (h : Heard) (s : List ℕ) → heard (saying p h) s ≡ saying p (heard h s)
heard-saying p h [] = refl
heard-saying p h (b ∷ s) =
    ap (λ k. heard k s) (saying_twice p h.said (with_byte h.awaits h.begun h.rest b)) ∙ heard-saying p (saying h.said (with_byte h.awaits h.begun h.rest b)) s

-- what was said of a line, and then the rest
pub heard_told : (next : Next) (begun : Begun) (s : List ℕ) → heard (says_next next begun) s ≡ saying (next ∷ []) (heard (before begun (awaits_after next)) s)
heard_told next begun s = heard-saying (next ∷ []) (before begun (awaits_after next)) s

-- this has come of what a command goes on with
abbrev pub partly : Begun → Awaits → List ℕ → Heard
partly begun awaits rest = record { said = []; begun = begun; awaits = awaits; rest = rest }

-- a literal that has not come whole
pub literal_run : (begun : Begun) (n : ℕ) (r s : List ℕ) → length r + length s ≤ n → heard (partly begun (Literal n) r) s ≡ partly begun (Literal n) (r ++ s)
literal_run begun n r [] short = ap (partly begun (Literal n)) (sym (append-nil r))
literal_run begun n r (b ∷ s) short =
    let here = ltb-true (length r) n (omega arith) in
    let size : length (r ++ b ∷ []) + length s ≤ n = simp length-append (omega arith) in
    rw here (literal_run begun n (r ++ b ∷ []) s size ∙ ap (partly begun (Literal n)) (append_assoc r (b ∷ []) s))

-- a literal that has come, and then more
pub literal_taken : (begun : Begun) (literal : List ℕ) (b : ℕ) (s : List ℕ)
    → heard (before begun (Literal (length literal))) (literal ++ b ∷ s) ≡ heard (before (with_literal begun literal) Line) (b ∷ s)
literal_taken begun literal b s =
    let whole = literal_run begun (length literal) [] literal (omega arith) in
    let full = ltb-false (length literal) (length literal) (omega arith) in
    heard-append (before begun (Literal (length literal))) literal (b ∷ s) ∙ ap (λ h. heard h (b ∷ s)) whole ∙ rw full refl

-- a line that has not ended
pub line_run : (begun : Begun) (r s : List ℕ) → end_of (r ++ s) ≡ None → begun.octets + length r + length s ≤ 65537
    → heard (partly begun Line r) s ≡ partly begun Line (r ++ s)
line_run begun r [] none short = ap (partly begun Line) (sym (append-nil r))
line_run begun r (b ∷ s) none short =
    let split : (r ++ b ∷ []) ++ s ≡ r ++ b ∷ s = append_assoc r (b ∷ []) s in
    let none2 : end_of ((r ++ b ∷ []) ++ s) ≡ None = ap end_of split ∙ none in
    let open_line = end_of-front (r ++ b ∷ []) s none2 in
    let here = ltb-false 65537 (begun.octets + length (r ++ b ∷ [])) (simp length-append (omega arith)) in
    let size : begun.octets + length (r ++ b ∷ []) + length s ≤ 65537 = simp length-append (omega arith) in
    rw (open_line, here) (line_run begun (r ++ b ∷ []) s none2 size ∙ ap (partly begun Line) split)

-- bytes of a line that is too long
pub skip_run : (begun : Begun) (tag : Option (List ℕ)) (x : ℕ) (s : List ℕ) → end_of (x ∷ s) ≡ None
    → heard (partly begun (End tag) (x ∷ [])) s ≡ partly begun (End tag) (last_byte (x ∷ s))
skip_run begun tag x [] none = refl
skip_run begun tag x (b ∷ s) none =
    let parts = end_of-first x b s none in
    rw parts.0 (skip_run begun tag b s parts.1)

pub skip_all : (begun : Begun) (tag : Option (List ℕ)) (s : List ℕ) → end_of s ≡ None
    → heard (before begun (End tag)) s ≡ partly begun (End tag) (last_byte s)
skip_all begun tag [] none = refl
skip_all begun tag (b ∷ s) none = skip_run begun tag b s none

-- what ends a line that is too long
pub skip_end : (begun : Begun) (tag : Option (List ℕ)) (line : List ℕ) → end_of (line ++ 13 ∷ []) ≡ None
    → heard (before begun (End tag)) (line ++ 13 ∷ 10 ∷ []) ≡ closed (Bad (record { tag = tag; why = Long }))
skip_end begun tag line none =
    let split : line ++ 13 ∷ 10 ∷ [] ≡ (line ++ 13 ∷ []) ++ 10 ∷ [] = sym (append_assoc line (13 ∷ []) (10 ∷ [])) in
    ap (heard (before begun (End tag))) split ∙ heard-append (before begun (End tag)) (line ++ 13 ∷ []) (10 ∷ [])
    ∙ ap (λ h. heard h (10 ∷ [])) (skip_all begun tag (line ++ 13 ∷ []) none ∙ ap (partly begun (End tag)) (last_byte-push line 13))

-- the tag of a command whose line is too long is known from its first bytes
pub same_tag : (begun : Begun) (r s : List ℕ) → IsBegun begun → 65537 < begun.octets + length r → tag_of_command begun (r ++ s) ≡ tag_of_command begun r
same_tag begun r s is long = by_lines begun.lines refl
  where
    by_lines : (lines : List (List ℕ)) → begun.lines ≡ lines → tag_of (first_line lines (r ++ s)) ≡ tag_of (first_line lines r)
    by_lines [] e = tag_of-front r s (let zero = is.first e in omega arith)
    by_lines (first ∷ lines) e = refl

pub short_tag : (begun : Begun) (line : List ℕ) → IsBegun begun → 65536 < begun.octets + length line → tag_of_command begun (line ++ 13 ∷ []) ≡ tag_of_command begun line
short_tag begun line is long = by_lines begun.lines refl
  where
    by_lines : (lines : List (List ℕ)) → begun.lines ≡ lines → tag_of (first_line lines (line ++ 13 ∷ [])) ≡ tag_of (first_line lines line)
    by_lines [] e = tag_of-front line (13 ∷ []) (let none = is.first e in omega arith)
    by_lines (first ∷ lines) e = refl

end_of-tail : (p : List ℕ) (b : ℕ) (s : List ℕ) → end_of (p ++ b ∷ s) ≡ None → end_of (b ∷ s) ≡ None
end_of-tail [] b s e = e
end_of-tail (c ∷ []) b s e = (end_of-first c b s e).1
end_of-tail (c ∷ d ∷ p) b s e = end_of-tail (d ∷ p) b s (end_of-first c d (p ++ b ∷ s) e).1

-- the state in which a line that is too long has been given up
abbrev pub given_up : Begun → List ℕ → Heard
given_up begun line = partly nothing (End (tag_of_command begun line)) (last_byte line)

long_now : (begun : Begun) (r : List ℕ) (b : ℕ) (s : List ℕ) → IsBegun begun → end_of (r ++ b ∷ s) ≡ None → end_of (r ++ b ∷ []) ≡ None
    → nat_lt 65537 (begun.octets + length (r ++ b ∷ [])) ≡ true → heard (partly begun Line r) (b ∷ s) ≡ given_up begun (r ++ b ∷ s)
long_now begun r b s is none open_line now_long =
    let over : 65537 < begun.octets + length (r ++ b ∷ []) = (Decides-ltb 65537 (begun.octets + length (r ++ b ∷ []))).0 now_long in
    let tag : tag_of_command begun (r ++ b ∷ []) ≡ tag_of_command begun (r ++ b ∷ s) =
    sym (ap (tag_of_command begun) (sym (append_assoc r (b ∷ []) s)) ∙ same_tag begun (r ++ b ∷ []) s is over) in
    rw (open_line, now_long, last_byte-push r b) (skip_run nothing (tag_of_command begun (r ++ b ∷ [])) b s (end_of-tail r b s none)
    ∙ ap (λ t. partly nothing (End t) (last_byte (b ∷ s))) tag ∙ ap (partly nothing (End (tag_of_command begun (r ++ b ∷ s)))) (sym (last_byte-append r b s)))

long_later : (begun : Begun) (r : List ℕ) (b : ℕ) (s : List ℕ) → end_of (r ++ b ∷ []) ≡ None
    → nat_lt 65537 (begun.octets + length (r ++ b ∷ [])) ≡ false → heard (partly begun Line (r ++ b ∷ [])) s ≡ given_up begun ((r ++ b ∷ []) ++ s)
    → heard (partly begun Line r) (b ∷ s) ≡ given_up begun (r ++ b ∷ s)
long_later begun r b s open_line not_yet more = rw (open_line, not_yet) (more ∙ ap (given_up begun) (append_assoc r (b ∷ []) s))

by_length : (t : Bool) (begun : Begun) (r : List ℕ) (b : ℕ) (s : List ℕ) → IsBegun begun → end_of (r ++ b ∷ s) ≡ None
    → nat_lt 65537 (begun.octets + length (r ++ b ∷ [])) ≡ t
    → (end_of ((r ++ b ∷ []) ++ s) ≡ None → begun.octets + length (r ++ b ∷ []) ≤ 65537 → heard (partly begun Line (r ++ b ∷ [])) s ≡ given_up begun ((r ++ b ∷ []) ++ s))
    → heard (partly begun Line r) (b ∷ s) ≡ given_up begun (r ++ b ∷ s)
by_length true begun r b s is none is_t more =
    let whole : end_of ((r ++ b ∷ []) ++ s) ≡ None = ap end_of (append_assoc r (b ∷ []) s) ∙ none in
    long_now begun r b s is none (end_of-front (r ++ b ∷ []) s whole) is_t
by_length false begun r b s is none is_t more =
    let whole : end_of ((r ++ b ∷ []) ++ s) ≡ None = ap end_of (append_assoc r (b ∷ []) s) ∙ none in
    long_later begun r b s (end_of-front (r ++ b ∷ []) s whole) is_t (more whole (ltb-not 65537 (begun.octets + length (r ++ b ∷ [])) is_t))

-- a line that is too long, and has not ended
pub long_run : (begun : Begun) (r s : List ℕ) → IsBegun begun → end_of (r ++ s) ≡ None → begun.octets + length r ≤ 65537
    → 65537 < begun.octets + length r + length s → heard (partly begun Line r) s ≡ given_up begun (r ++ s)
long_run begun r [] is none short long = absurd (omega arith)
long_run begun r (b ∷ s) is none short long =
    let far : 65537 < begun.octets + length (r ++ b ∷ []) + length s = simp length-append (omega arith) in
    by_length (nat_lt 65537 (begun.octets + length (r ++ b ∷ []))) begun r b s is none refl (λ whole under. long_run begun (r ++ b ∷ []) s is whole under far)

-- the first line of what comes
pub line_closes : (begun : Begun) (line : List ℕ) → IsBegun begun → end_of (line ++ 13 ∷ []) ≡ None → heard (before begun Line) (line ++ 13 ∷ 10 ∷ []) ≡ ended begun line
line_closes begun line is none = by_size (nat_lt 65536 (begun.octets + length line)) refl
  where
    size : length (line ++ 13 ∷ []) ≡ length line + 1
    size = simp length-append refl

    split : heard (before begun Line) (line ++ 13 ∷ 10 ∷ []) ≡ heard (heard (before begun Line) (line ++ 13 ∷ [])) (10 ∷ [])
    split = ap (heard (before begun Line)) (sym (append_assoc line (13 ∷ []) (10 ∷ []))) ∙ heard-append (before begun Line) (line ++ 13 ∷ []) (10 ∷ [])

    last : end_of ((line ++ 13 ∷ []) ++ 10 ∷ []) ≡ Some (length line)
    last = ap end_of (append_assoc line (13 ∷ []) (10 ∷ [])) ∙ end_of-ended line [] none

    front : take (length line) ((line ++ 13 ∷ []) ++ 10 ∷ []) ≡ line
    front = ap (take (length line)) (append_assoc line (13 ∷ []) (10 ∷ [])) ∙ take_at line (13 ∷ 10 ∷ []) (length line) refl

    by_size : (t : Bool) → nat_lt 65536 (begun.octets + length line) ≡ t → heard (before begun Line) (line ++ 13 ∷ 10 ∷ []) ≡ ended begun line
    by_size true long =
        let over : 65536 < begun.octets + length line = (Decides-ltb 65536 (begun.octets + length line)).0 long in
        let far : 65537 < begun.octets + 0 + length (line ++ 13 ∷ []) = omega (arith, size) in
        let near : begun.octets + 0 ≤ 65537 = (let m = is.most in omega arith) in
        let tag : tag_of_command begun (line ++ 13 ∷ []) ≡ tag_of_command begun line = short_tag begun line is over in
        split ∙ ap (λ h. heard h (10 ∷ [])) (long_run begun [] (line ++ 13 ∷ []) is none near far ∙ ap (partly nothing (End (tag_of_command begun (line ++ 13 ∷ [])))) (last_byte-push line 13))
        ∙ ap (λ t. closed (Bad (record { tag = t; why = Long }))) tag ∙ sym (ap (λ t. cond t (closed (bad begun line Long)) (marked_or_finished begun line (mark_of line))) long)
    by_size false short =
        let under : begun.octets + length line ≤ 65536 = ltb-not 65536 (begun.octets + length line) short in
        let near : begun.octets + 0 + length (line ++ 13 ∷ []) ≤ 65537 = omega (arith, size) in
        split ∙ ap (λ h. heard h (10 ∷ [])) (line_run begun [] (line ++ 13 ∷ []) none near)
        ∙ ap (λ o. saying [] (in_line begun ((line ++ 13 ∷ []) ++ 10 ∷ []) o)) last ∙ ap (ended begun) front
