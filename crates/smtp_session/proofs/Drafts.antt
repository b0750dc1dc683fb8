-- A text that comes line by line is the text that its lines make.
use Rattle.std.proofs.Common.{◌≡◌, ℕ, ◌+◌, ◌≤◌, ◌<◌, Bool, true, false, ◌==◌, List, [], ◌∷◌, ◌++◌, length, map, refl, ap, sym, ◌∙◌, arith, nat_le}
use Rattle.std.proofs.lemmas.List.{length-append, append_assoc, append-nil, take_all}
use Rattle.std.proofs.lemmas.Bool.{leb-false, lt-leb}
use Rattle.std.proofs.lemmas.Bool.Decides.{nat_tests}
use Rattle.std.specs.Prelude.{Option, None, Some, nat_lt, take, if◌then◌else◌}
use Rattle.smtp_lines.specs.Line.{kept_of}
use Rattle.smtp_lines.specs.Stuffing.{unstuffed}
use Rattle.undo_base.specs.LineEnd.{crlf}
use Rattle.smtp_session.specs.Bytes.{said}
use Rattle.smtp_session.specs.Text.{add_line, add_whole, fits, text_after, text_of}

-- a text that is too large is none
too_large : (text : List ℕ) → 1048576 < length text → fits text ≡ None
too_large text h = ap (λ (b : Bool). if b then Some text else None) (lt-leb (length text) 1048576 h)

unstuffed_by : (b : ℕ) (line : List ℕ) (t : Bool) → length line ≤ length (if t then line else b ∷ line)
unstuffed_by b line true = omega arith
unstuffed_by b line false = omega arith

-- at most one byte is lost
unstuffed_long : (line : List ℕ) → length line ≤ length (unstuffed line) + 1
unstuffed_long [] = omega arith
unstuffed_long (b ∷ line) = omega (arith, unstuffed_by b line (b == 46))

said_long : (text line : List ℕ) → length text + length line + 1 ≤ length (text ++ said (unstuffed line))
said_long text line = omega (arith, unstuffed_long line, length-append text (said (unstuffed line)), length-append (unstuffed line) crlf)

-- a line that is whole
whole_by : (text line : List ℕ) (t : Bool) → nat_le (length text) 1048576 ≡ t → add_whole (fits text) line ≡ fits (text ++ said (unstuffed line))
whole_by text line true e = ap (λ (b : Bool). add_whole (if b then Some text else None) line) e
whole_by text line false e =
    ap (λ (b : Bool). add_whole (if b then Some text else None) line) e
    ∙ sym (too_large (text ++ said (unstuffed line)) (omega (arith, leb-false (length text) 1048576 e, length-append text (said (unstuffed line)))))

-- a line as it is kept, which was cut or not
add_by : (text line : List ℕ) (t : Bool) → nat_lt 1048576 (length line) ≡ t → add_line (fits text) (kept_of line) ≡ fits (text ++ said (unstuffed line))
add_by text line true e =
    let long : 1048576 < length line = grind (arith, nat_tests, e) in
    ap (λ (b : Bool). if b then None else add_whole (fits text) (take 1048576 line)) e ∙ sym (too_large (text ++ said (unstuffed line)) (omega (arith, long, said_long text line)))
add_by text line false e =
    let short : length line ≤ 1048576 = grind (arith, nat_tests, e) in
    ap (λ (b : Bool). if b then None else add_whole (fits text) (take 1048576 line)) e ∙ ap (λ (l : List ℕ). add_whole (fits text) l) (take_all 1048576 line short)
    ∙ whole_by text line (nat_le (length text) 1048576) refl

after : (text : List ℕ) (lines : List (List ℕ)) → text_after (fits text) (map kept_of lines) ≡ fits (text ++ text_of lines)
after text [] = ap fits (sym (append-nil text))
after text (line ∷ lines) =
    ap (λ (o : Option (List ℕ)). text_after o (map kept_of lines)) (add_by text line (nat_lt 1048576 (length line)) refl)
    ∙ after (text ++ said (unstuffed line)) lines ∙ ap fits (append_assoc text (said (unstuffed line)) (text_of lines))

pub whole_text : (lines : List (List ℕ)) → text_after (Some []) (map kept_of lines) ≡ fits (text_of lines)
whole_text lines = after [] lines
