-- One more line of a head.
use Rattle.std.proofs.Common.{◌≡◌, ◌&&◌, ℕ, zero, suc, ◌+◌, ◌<◌, ◌≤◌, Bool, true, false, ◌==◌, List, [], ◌∷◌, ◌++◌, length, take, drop, get_or, Option, Some, None, refl, sym, ap, ◌∙◌, subst, arith, eq-eqb}
use Rattle.std.proofs.lemmas.List.{append-nil, drop-drop, length-drop, length-take-le}
use Rattle.std.specs.Prelude.{option_map, if◌then◌else◌}
use Rattle.std.proofs.lemmas.Bool.Decides.{nat_tests}
use Rattle.console_head.specs.declared.lines.Head.{Head}
use Rattle.console_head.specs.declared.lines.Lines.{Lines}
use Rattle.console_head.specs.declared.lines.Found.{Found}
use Rattle.console_head.specs.declared.lines.Found.TheVariants.{Line, Whole}
use Rattle.console_head.specs.Lines.{lines_of, onto_line, is_empty_line, section_of, head_of_lines, head_of, behind}
use Rattle.console_head.specs.Coming.{beyond, resumed, AreFirst}
use Rattle.console_head.specs.Steps.{with_line, with_empty, lines_with, shown_by, Finds}

-- there is no LF among the first bytes
abbrev pub HasNoLf : List ℕ → ℕ → Type 0
HasNoLf bytes count = (k : ℕ) → k < count → get_or bytes k 0 ≡ 10 → ⊥

other : (b : ℕ) → (b ≡ 10 → ⊥) → (b == 10) ≡ false
other b no_lf = grind (arith, nat_tests)

-- bytes in which LF stands, and more
lines_at : (bytes more : List ℕ) (place : ℕ) → place < length bytes → HasNoLf bytes place → get_or bytes place 0 ≡ 10
    → lines_of (bytes ++ more) ≡ take (suc place) bytes ∷ lines_of (drop (suc place) bytes ++ more)
lines_at [] more place within before here = absurd (omega arith)
lines_at (b ∷ bytes) more zero within before here = rw (eq-eqb b 10 here) refl
lines_at (b ∷ bytes) more (suc place) within before here =
    rw (other b (before 0 (omega arith)))
    (ap (onto_line b) (lines_at bytes more place (omega arith) (λ k lt. before (suc k) (omega arith)) here))

-- a line without LF is not empty
not_empty : (b : ℕ) (bytes : List ℕ) → HasNoLf (b ∷ bytes) (length (b ∷ bytes)) → is_empty_line (b ∷ bytes) ≡ false
not_empty b [] none = rw (other b (none 0 (omega arith))) (elim (b == 13) as (λ v. (v && false) ≡ false) [ true ↦ refl | false ↦ refl ])
not_empty b (c ∷ []) none = rw (other b (none 0 (omega arith)), other c (none 1 (omega arith))) (elim (b == 13) as (λ v. (v && false) ≡ false) [ true ↦ refl | false ↦ refl ])
not_empty b (c ∷ d ∷ bytes) none = rw (other b (none 0 (omega arith)), other c (none 1 (omega arith))) (elim (b == 13) as (λ v. (v && false) ≡ false) [ true ↦ refl | false ↦ refl ])

one_line : (b : ℕ) (bytes : List ℕ) → HasNoLf (b ∷ bytes) (length (b ∷ bytes)) → lines_of (b ∷ bytes) ≡ (b ∷ bytes) ∷ []
one_line b [] none = rw (other b (none 0 (omega arith))) refl
one_line b (c ∷ bytes) none =
    rw (other b (none 0 (omega arith))) (ap (onto_line b) (one_line c bytes (λ k lt. none (suc k) (omega arith))))

-- bytes without LF end no head
section_none : (bytes : List ℕ) → HasNoLf bytes (length bytes) → section_of (lines_of bytes) ≡ None
section_none [] none = refl
section_none (b ∷ bytes) none = rw (one_line b bytes none, not_empty b bytes none) refl

head_none : (bytes : List ℕ) → HasNoLf bytes (length bytes) → head_of_lines (lines_of bytes) ≡ None
head_none [] none = refl
head_none (b ∷ bytes) none = rw (one_line b bytes none, not_empty b bytes none) refl

resumed_none : (l : Lines) (rest : List ℕ) → HasNoLf rest (length rest) → resumed l rest ≡ None
resumed_none l rest none =
    elim l.begun as (λ g. (if g then section_of (lines_of rest) else head_of_lines (lines_of rest)) ≡ None) [
      | true ↦ section_none rest none
      | false ↦ head_none rest none
    ]

same_head : (a b c d : ℕ) → a ≡ c → b ≡ d → ◌≡◌ {A = Head} (record { size = a; fields = b }) (record { size = c; fields = d })
same_head a b c d e f = rw (e, f) refl

-- what stands behind one more line
moved : (l m : Lines) (line : List ℕ) (count : ℕ) → m.start ≡ l.start + length line → m.fields ≡ l.fields + count
    → (o : Option Head) → option_map (beyond l) (option_map (behind line count) o) ≡ option_map (beyond m) o
moved l m line count s f None = refl
moved l m line count s f (Some h) = ap Some (same_head _ _ _ _ (omega (arith, s)) (omega (arith, f)))

-- a line that comes next, and what is behind it
pub record IsNextLine (l : Lines) (bytes line : List ℕ) : Type 0 where
  pub bound : l.start + length line ≤ length bytes
  pub some : 0 < length line
  pub lines : (more : List ℕ) → lines_of (drop l.start bytes ++ more) ≡ line ∷ lines_of (drop (l.start + length line) bytes ++ more)

-- a header line, and the request line
field_next : (l : Lines) (bytes line : List ℕ) → IsNextLine l bytes line → is_empty_line line ≡ false → l.begun ≡ true → (more : List ℕ)
    → resumed l (drop l.start bytes ++ more) ≡ option_map (behind line 1) (section_of (lines_of (drop (l.start + length line) bytes ++ more)))
field_next l bytes line next e g more = rw (g, next.lines more, e) refl

request_next : (l : Lines) (bytes line : List ℕ) → IsNextLine l bytes line → is_empty_line line ≡ false → l.begun ≡ false → (more : List ℕ)
    → resumed l (drop l.start bytes ++ more) ≡ option_map (behind line 0) (section_of (lines_of (drop (l.start + length line) bytes ++ more)))
request_next l bytes line next e g more = rw (g, next.lines more, e) refl

more_fields : (g : Bool) (n : ℕ) → g ≡ true → (if g then n + 1 else n) ≡ n + 1
more_fields g n e = rw e refl

same_fields : (g : Bool) (n : ℕ) → g ≡ false → (if g then n + 1 else n) ≡ n + 0
same_fields g n e = rw e (omega arith)

first_with_line : (l : Lines) (bytes line : List ℕ) → AreFirst l bytes → IsNextLine l bytes line → is_empty_line line ≡ false → AreFirst (with_line l line) bytes
first_with_line l bytes line first next e = record {
  within = omega (arith, next.bound);
  fields = elim l.begun as (λ g. (if g then l.fields + 1 else l.fields) ≤ l.start + length line) [
    | true ↦ omega (arith, first.fields, next.some)
    | false ↦ omega (arith, first.fields)
  ];
  none = λ k lt. absurd (omega arith);
  same = λ more. first.same more ∙ elim l.begun as (λ g. l.begun ≡ g → option_map (beyond l) (resumed l (drop l.start bytes ++ more)) ≡ option_map (beyond (with_line l line)) (section_of (lines_of (drop (l.start + length line) bytes ++ more)))) [
    | true ↦ λ g. ap (λ (o : Option Head). option_map (beyond l) o) (field_next l bytes line next e g more) ∙ moved l (with_line l line) line 1 refl (more_fields l.begun l.fields g) _
    | false ↦ λ g. ap (λ (o : Option Head). option_map (beyond l) o) (request_next l bytes line next e g more) ∙ moved l (with_line l line) line 0 refl (same_fields l.begun l.fields g) _
  ] refl;
}

first_with_empty : (l : Lines) (bytes line : List ℕ) → AreFirst l bytes → IsNextLine l bytes line → is_empty_line line ≡ true → l.begun ≡ false → AreFirst (with_empty l line) bytes
first_with_empty l bytes line first next e g = record {
  within = omega (arith, next.bound);
  fields = omega (arith, first.fields);
  none = λ k lt. absurd (omega arith);
  same = λ more. first.same more ∙ rw (g, next.lines more, e) (moved l (with_empty l line) line 0 refl (omega arith) _);
}

whole : (l : Lines) (bytes line : List ℕ) → AreFirst l bytes → IsNextLine l bytes line → is_empty_line line ≡ true → l.begun ≡ true
    → (more : List ℕ) → head_of (bytes ++ more) ≡ Some (record { size = l.start + length line; fields = l.fields })
whole l bytes line first next e g more = first.same more ∙ rw (g, next.lines more, e) (ap Some (same_head _ _ _ _ refl (omega arith)))

-- the next line, as it is found
next_line : (l : Lines) (bytes : List ℕ) (place : ℕ) → AreFirst l bytes → place < length (drop l.start bytes) → HasNoLf (drop l.start bytes) place
    → get_or (drop l.start bytes) place 0 ≡ 10 → IsNextLine l bytes (take (suc place) (drop l.start bytes))
next_line l bytes place first within before here =
    let rest = length-drop l.start bytes in
    let long : length (take (suc place) (drop l.start bytes)) ≡ suc place = length-take-le (suc place) (drop l.start bytes) (omega (arith, within)) in
    record {
      bound = omega (arith, long, rest, within);
      some = omega (arith, long);
      lines = λ more. rw (long, sym (drop-drop (suc place) l.start bytes)) (lines_at (drop l.start bytes) more place within before here);
    }

at_once : (l : Lines) (bytes line : List ℕ) → AreFirst l bytes → IsNextLine l bytes line → is_empty_line line ≡ true → l.begun ≡ true
    → head_of bytes ≡ Some (record { size = l.start + length line; fields = l.fields })
at_once l bytes line first next e g = sym (ap head_of (append-nil bytes)) ∙ whole l bytes line first next e g []

if_true : {A : Type 0} (g : Bool) (x y : A) → g ≡ true → (if g then x else y) ≡ x
if_true g x y e = rw e refl

if_false : {A : Type 0} (g : Bool) (x y : A) → g ≡ false → (if g then x else y) ≡ y
if_false g x y e = rw e refl

abbrev Shows : Lines → List ℕ → Lines → Found → Type 0
Shows l bytes m found = AreFirst m bytes × Finds l m bytes found

abbrev shows : (l : Lines) (bytes : List ℕ) (m n : Lines) (f g : Found) → m ≡ n → f ≡ g → Shows l bytes n g → Shows l bytes m f
shows l bytes m n f g d e s = subst (λ (v : Lines). Shows l bytes v f) (sym d) (subst (λ (v : Found). Shows l bytes n v) (sym e) s)

shown : (l : Lines) (bytes line : List ℕ) → AreFirst l bytes → IsNextLine l bytes line → Shows l bytes (lines_with l line) (shown_by l line)
shown l bytes line first next =
    elim (is_empty_line line) as (λ e. is_empty_line line ≡ e → Shows l bytes (lines_with l line) (shown_by l line)) [
      | false ↦ λ e. shows l bytes _ (with_line l line) _ Line (if_false _ _ _ e) (if_false _ _ _ e) (first_with_line l bytes line first next e, omega (arith, next.some))
      | true ↦ λ e. elim l.begun as (λ g. l.begun ≡ g → Shows l bytes (lines_with l line) (shown_by l line)) [
        | true ↦ λ g. shows l bytes _ l _ (Whole (record { size = l.start + length line; fields = l.fields })) (if_true _ _ _ e ∙ if_true _ _ _ g) (if_true _ _ _ e ∙ if_true _ _ _ g)
            (first, (next.bound, at_once l bytes line first next e g, whole l bytes line first next e g))
        | false ↦ λ g. shows l bytes _ (with_empty l line) _ Line (if_true _ _ _ e ∙ if_false _ _ _ g) (if_true _ _ _ e ∙ if_false _ _ _ g)
            (first_with_empty l bytes line first next e g, omega (arith, next.some))
      ] refl
    ] refl

-- what one more line shows
pub line_taken : (l : Lines) (bytes : List ℕ) (place : ℕ) → AreFirst l bytes → place < length (drop l.start bytes) → HasNoLf (drop l.start bytes) place
    → get_or (drop l.start bytes) place 0 ≡ 10
    → let line = take (place + 1) (drop l.start bytes) in Shows l bytes (lines_with l line) (shown_by l line)
line_taken l bytes place first within before here =
    let e : place + 1 ≡ suc place = omega arith in
    shown l bytes _ first (subst (λ (n : ℕ). IsNextLine l bytes (take n (drop l.start bytes))) (sym e) (next_line l bytes place first within before here))

-- no further line
pub none_taken : (l : Lines) (bytes : List ℕ) → AreFirst l bytes → HasNoLf (drop l.start bytes) (length (drop l.start bytes)) → head_of bytes ≡ None
none_taken l bytes first none =
    let all = first.same [] in
    let e = append-nil bytes in
    let r = append-nil (drop l.start bytes) in
    sym (ap head_of e) ∙ all ∙ ap (λ (o : Option Head). option_map (beyond l) o) (ap (resumed l) r ∙ resumed_none l (drop l.start bytes) none)
