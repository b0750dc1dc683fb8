-- A head of the grammar is cut out by its lines.
use Rattle.std.proofs.Common.{◌≡◌, ℕ, ◌+◌, ◌≤◌, Bool, true, false, ◌==◌, List, [], ◌∷◌, ◌++◌, length, Option, Some, None, refl, sym, ap, ◌∙◌, subst, arith, inl, inr, append_assoc}
use Rattle.std.proofs.lemmas.Bool.Decides.{nat_tests}
use Rattle.std.proofs.lemmas.Bool.{false≢true, cases_eq}
use Rattle.std.proofs.lemmas.List.Elements.{All-head, All-tail}
use Rattle.std.specs.Prelude.{All, IsTrue, option_map}
use Rattle.std.specs.List.{flat_map}
use Rattle.httparse.specs.Grammar.{is_token_byte, is_uri_byte, is_value_byte, AllPass, IsToken, LineEnd, crlf, lf, print_end, print_blank, print_version, Field, print_field, IsField, print_section, RequestHead, print_request, IsRequestHead}
use Rattle.httparse.proofs.OnLiterals.{httparse_on_literals}
use Rattle.console_head.specs.declared.lines.Head.{Head}
use Rattle.console_head.specs.Lines.{lines_of, onto_line, is_empty_line, section_of, head_of, behind}

-- no byte is LF
abbrev pub IsPlain : List ℕ → Type 0
IsPlain [] = Unit {0}
IsPlain (b ∷ bytes) = ((b == 10) ≡ false) × IsPlain bytes

-- a byte of a class is none that the class lacks
outside : (test : ℕ → Bool) (c b : ℕ) → test c ≡ false → IsTrue (test b) → (b == c) ≡ false
outside test c b none h = elim (cases_eq b c) [
  | inl e ↦
      let here : test c ≡ true = subst (λ (v : ℕ). test v ≡ true) e h in
      absurd (false≢true (sym none ∙ here))
  | inr other ↦ grind (arith, nat_tests, other)
]

plain_of : (test : ℕ → Bool) → test 10 ≡ false → (xs : List ℕ) → AllPass test xs → IsPlain xs
plain_of test none [] h = tt
plain_of test none (x ∷ xs) h =
    (outside test 10 x none (All-head (λ b. IsTrue (test b)) x xs h), plain_of test none xs (All-tail (λ b. IsTrue (test b)) x xs h))

plain_append : (a b : List ℕ) → IsPlain a → IsPlain b → IsPlain (a ++ b)
plain_append [] b p q = q
plain_append (x ∷ a) b p q = (p.0, plain_append a b p.1 q)

token_has_no_lf : is_token_byte 10 ≡ false
unfolding httparse_on_literals
token_has_no_lf = refl

token_has_no_cr : is_token_byte 13 ≡ false
unfolding httparse_on_literals
token_has_no_cr = refl

-- a line without LF before its end, and what follows it
line_first : (body : List ℕ) (e : LineEnd) (rest : List ℕ) → IsPlain body → lines_of (body ++ (print_end e ++ rest)) ≡ (body ++ print_end e) ∷ lines_of rest
line_first [] crlf rest h = refl
line_first [] lf rest h = refl
line_first (b ∷ body) e rest h = rw h.0 (ap (onto_line b) (line_first body e rest h.1))

-- a line that begins with a token is not empty
not_empty : (name more : List ℕ) → IsToken name → is_empty_line (name ++ more) ≡ false
not_empty [] more h = absurd (omega (arith, h.0))
not_empty (b ∷ name) more h =
    let first = All-head (λ b. IsTrue (is_token_byte b)) b name h.1 in
    rw (outside is_token_byte 10 b token_has_no_lf first, outside is_token_byte 13 b token_has_no_cr first) refl

abbrev pub fields_in : Option Head → Option ℕ
fields_in o = option_map (λ (h : Head). h.fields) o

fields_behind : (line : List ℕ) (count n : ℕ) (o : Option Head) → fields_in o ≡ Some n → (m : ℕ) → m ≡ count + n → fields_in (option_map (behind line count) o) ≡ Some m
fields_behind line count n None e m same = cc
fields_behind line count n (Some h) e m same = ap (option_map (λ (k : ℕ). count + k)) e ∙ ap Some (sym same)

end_is_empty : (e : LineEnd) → is_empty_line (print_end e) ≡ true
end_is_empty crlf = refl
end_is_empty lf = refl

-- empty lines in front
fields_blank : (es : List LineEnd) (rest : List ℕ) (n : ℕ) → fields_in (head_of rest) ≡ Some n → fields_in (head_of (print_blank es ++ rest)) ≡ Some n
fields_blank [] rest n e = e
fields_blank (end ∷ es) rest n e =
    rw (append_assoc (print_end end) (print_blank es) rest, line_first [] end (print_blank es ++ rest) tt, end_is_empty end)
    (fields_behind (print_end end) 0 n (head_of (print_blank es ++ rest)) (fields_blank es rest n e) n (omega arith))

field_plain : (f : Field) → IsField f → IsPlain (f.name ++ 58 ∷ f.raw)
field_plain f h = plain_append f.name (58 ∷ f.raw) (plain_of is_token_byte token_has_no_lf f.name h.name.1) (refl, plain_of is_value_byte refl f.raw h.raw)

regroup_field : (a b c d e rest : List ℕ) → (((((a ++ b) ++ c) ++ d) ++ e) ++ rest) ≡ (a ++ b) ++ (c ++ ((d ++ e) ++ rest))
regroup_field a b c d e rest = simp append_assoc refl

-- header lines
fields_section : (fs : List Field) (last : LineEnd) (rest : List ℕ) → All IsField fs → fields_in (section_of (lines_of (print_section fs last ++ rest))) ≡ Some (length fs)
fields_section [] last rest h = rw (line_first [] last rest tt, end_is_empty last) refl
fields_section (f ∷ fs) last rest h =
    let this = All-head IsField f fs h in
    let e : print_section (f ∷ fs) last ++ rest ≡ (f.name ++ 58 ∷ f.raw) ++ (print_end f.end ++ (print_section fs last ++ rest)) = regroup_field f.name (58 ∷ f.raw) (print_end f.end) (flat_map print_field fs) (print_end last) rest in
    let filled : is_empty_line ((f.name ++ 58 ∷ f.raw) ++ print_end f.end) ≡ false = rw (append_assoc f.name (58 ∷ f.raw) (print_end f.end)) (not_empty f.name _ this.name) in
    rw (e, line_first (f.name ++ 58 ∷ f.raw) f.end (print_section fs last ++ rest) (field_plain f this), filled)
    (fields_behind _ 1 (length fs) (section_of (lines_of (print_section fs last ++ rest))) (fields_section fs last rest (All-tail IsField f fs h)) (length (f ∷ fs)) (omega arith))

digit_plain : (minor : ℕ) → minor ≤ 1 → ((48 + minor) == 10) ≡ false
digit_plain minor h = grind (arith, nat_tests)

version_plain : (minor : ℕ) → minor ≤ 1 → IsPlain (print_version minor)
version_plain minor h = (refl, (refl, (refl, (refl, (refl, (refl, (refl, (digit_plain minor h, tt))))))))

request_line : RequestHead → List ℕ
request_line h = h.method ++ ((32 ∷ h.target) ++ (32 ∷ print_version h.minor))

request_plain : (h : RequestHead) → IsRequestHead h → IsPlain (request_line h)
unfolding request_line
request_plain h ok =
    plain_append h.method _ (plain_of is_token_byte token_has_no_lf h.method ok.method.1)
    (plain_append (32 ∷ h.target) _ (refl, plain_of is_uri_byte refl h.target ok.target.1) (refl, version_plain h.minor ok.minor))

regroup : (a b c d e f rest : List ℕ) → ((((((a ++ b) ++ c) ++ d) ++ e) ++ f) ++ rest) ≡ a ++ ((b ++ (c ++ d)) ++ (e ++ (f ++ rest)))
regroup a b c d e f rest = simp append_assoc refl

-- a head of the grammar, and more: its lines say how many fields it has
pub fields_of_request : (h : RequestHead) (rest : List ℕ) → IsRequestHead h → fields_in (head_of (print_request h ++ rest)) ≡ Some (length h.fields)
unfolding print_request request_line
fields_of_request h rest ok =
    let line = request_line h in
    let e : print_request h ++ rest ≡ print_blank h.blank ++ (line ++ (print_end h.line_end ++ (print_section h.fields h.last ++ rest))) =
    regroup (print_blank h.blank) h.method (32 ∷ h.target) (32 ∷ print_version h.minor) (print_end h.line_end) (print_section h.fields h.last) rest in
    let filled : is_empty_line (line ++ print_end h.line_end) ≡ false = rw (append_assoc h.method _ (print_end h.line_end)) (not_empty h.method _ ok.method) in
    let behind_line : fields_in (head_of (line ++ (print_end h.line_end ++ (print_section h.fields h.last ++ rest)))) ≡ Some (length h.fields) =
    rw (line_first line h.line_end (print_section h.fields h.last ++ rest) (request_plain h ok), filled)
    (fields_behind _ 0 (length h.fields) (section_of (lines_of (print_section h.fields h.last ++ rest))) (fields_section h.fields h.last rest ok.fields) (length h.fields) (omega arith)) in
    rw e (fields_blank h.blank _ (length h.fields) behind_line)
