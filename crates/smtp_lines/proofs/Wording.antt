-- Lines without the spaces at their end, and the words that they begin with.
use Rattle.std.proofs.Common.{◌≡◌, ◌⊎◌, ℕ, ◌+◌, ◌-◌, Bool, true, false, not, ◌==◌, List, [], ◌∷◌, ◌++◌, length, take, refl, ap, subst, sym, ◌∙◌, inl, inr, arith, codes, bytes_eq}
use Rattle.std.proofs.Math.Seq.{take-append-add}
use Rattle.std.proofs.lemmas.List.{length-append, append_assoc}
use Rattle.std.proofs.lemmas.Bool.{eqb-true, eq-eqb}
use Rattle.std.proofs.lemmas.Slice.Eq.{bytes_eq-Decides}
use Rattle.std.proofs.lemmas.List.Folds.{list_all-map}
use Rattle.std.specs.Prelude.{Option, None, Some, IfSome, if◌then◌else◌}
use Rattle.std.specs.List.{list_all, before_first, after_first}
use Rattle.std.specs.Char.{to_ascii_lowercase}
use Rattle.std.specs.Str.{str_to_ascii_lowercase}
use Rattle.smtp_lines.specs.declared.word.Word.{Word}
use Rattle.smtp_lines.specs.declared.word.Word.TheVariants as word
use Rattle.smtp_lines.specs.Parts.{is_space, is_spelled, trimmed}
use Rattle.smtp_lines.specs.Word.{word_of}
use Rattle.smtp_lines.specs.Command.{if_word, spoken, words_of}
use Rattle.smtp_lines.specs.Grammar.{AreSpaces, EndsInNoSpace, IsTrimmed, Lacks, Speaks, name_of}
use Rattle.smtp_lines.proofs.Parting.{First, Last, apart, both, and_true, not_false, first, last, suffix_all, suffix_stop, before_stop, after_stop, before_none, after_none}

trimmed_all : (line : List ℕ) → AreSpaces line → trimmed line ≡ []
trimmed_all line are = ap (λ (n : ℕ). take (length line - n) line) (suffix_all is_space line are) ∙ ap (λ (n : ℕ). take n line) none
  where
    none : length line - length line ≡ 0
    none = omega arith

trimmed_stop : (front : List ℕ) (c : ℕ) (spaces : List ℕ) → is_space c ≡ false → AreSpaces spaces → trimmed (front ++ c ∷ spaces) ≡ front ++ c ∷ []
trimmed_stop front c spaces e are =
    ap (λ (n : ℕ). take (length (front ++ c ∷ spaces) - n) (front ++ c ∷ spaces)) (suffix_stop is_space front c spaces are e)
    ∙ ap (λ (n : ℕ). take n (front ++ c ∷ spaces)) more ∙ take-append-add front (c ∷ spaces) 1
  where
    more : length (front ++ c ∷ spaces) - length spaces ≡ length front + 1
    more = omega (arith, length-append front (c ∷ spaces))

trim_by : (line core spaces : List ℕ) → AreSpaces spaces → line ≡ core ++ spaces → (core ≡ []) ⊎ EndsInNoSpace core → trimmed line ≡ core
trim_by line core spaces are whole (inl none) =
    ap trimmed (whole ∙ ap (λ (c : List ℕ). c ++ spaces) none) ∙ trimmed_all spaces are ∙ sym none
trim_by line core spaces are whole (inr end) =
    ap trimmed (whole ∙ ap (λ (c : List ℕ). c ++ spaces) end.whole ∙ append_assoc end.front (end.last ∷ []) spaces)
    ∙ trimmed_stop end.front end.last spaces end.no_space are ∙ sym end.whole

-- the trimmed line is the only one
pub trim_is : (line core : List ℕ) → IsTrimmed line core → trimmed line ≡ core
trim_is line core t = trim_by line core t.spaces t.are t.whole t.end

trim_from : (line : List ℕ) → (list_all is_space line ≡ true) ⊎ Last is_space line → IsTrimmed line (trimmed line)
trim_from line (inl all) =
    subst (λ (c : List ℕ). IsTrimmed line c) (sym (trimmed_all line all)) (record { spaces = line; are = all; whole = refl; end = inl refl })
trim_from line (inr l) =
    subst (λ (c : List ℕ). IsTrimmed line c) (sym (ap trimmed l.whole ∙ trimmed_stop l.front l.stop l.back l.fails l.pass))
    (record {
      spaces = l.back;
      are = l.pass;
      whole = l.whole ∙ sym (append_assoc l.front (l.stop ∷ []) l.back);
      end = inr (record { front = l.front; last = l.stop; whole = refl; no_space = l.fails });
    })

-- it is one
pub trim_of : (line : List ℕ) → IsTrimmed line (trimmed line)
trim_of line = trim_from line (last is_space line)

-- the lower case of bytes that are spelled as a name is the name's
pub lower_of : (name bytes : List ℕ) → is_spelled name bytes ≡ true → str_to_ascii_lowercase bytes ≡ str_to_ascii_lowercase name
lower_of name bytes e = (bytes_eq-Decides (str_to_ascii_lowercase bytes) (str_to_ascii_lowercase name)).0 e

other_byte : (b c : ℕ) → to_ascii_lowercase c ≡ c → not (to_ascii_lowercase b == c) ≡ true → not (b == c) ≡ true
other_byte b c e f = by_test (b == c) refl
  where
    by_test : (t : Bool) → (b == c) ≡ t → not t ≡ true
    by_test false is = refl
    by_test true is =
        absurd (apart (to_ascii_lowercase b == c) (eq-eqb (to_ascii_lowercase b) c (ap to_ascii_lowercase (eqb-true b c is) ∙ e))
        (not_false (to_ascii_lowercase b == c) f))

lacks_lower : (c : ℕ) (bytes : List ℕ) → to_ascii_lowercase c ≡ c → list_all (λ b. not (to_ascii_lowercase b == c)) bytes ≡ true → Lacks c bytes
lacks_lower c [] e f = refl
lacks_lower c (b ∷ bytes) e f =
    let h = both (not (to_ascii_lowercase b == c)) (list_all (λ b. not (to_ascii_lowercase b == c)) bytes) f in
    and_true (not (b == c)) (list_all (λ b. not (b == c)) bytes) (other_byte b c e h.0) (lacks_lower c bytes e h.1)

-- bytes that are spelled as a name lack what the name lacks, where it is no letter
pub spelled_lacks : (name bytes : List ℕ) (c : ℕ) → is_spelled name bytes ≡ true → to_ascii_lowercase c ≡ c → Lacks c (str_to_ascii_lowercase name) → Lacks c bytes
spelled_lacks name bytes c e f g =
    lacks_lower c bytes f
    (sym (list_all-map (λ b. not (b == c)) to_ascii_lowercase bytes) ∙ ap (list_all (λ b. not (b == c))) (lower_of name bytes e) ∙ g)

-- the word whose letters are these, in lower case
abbrev low_word : List ℕ → Option Word
low_word low =
    if bytes_eq low (codes "helo") then Some word.Helo
    else (if bytes_eq low (codes "ehlo") then Some word.Ehlo
    else (if bytes_eq low (codes "mail") then Some word.Mail
    else (if bytes_eq low (codes "rcpt") then Some word.Rcpt
    else (if bytes_eq low (codes "data") then Some word.Data
    else (if bytes_eq low (codes "rset") then Some word.Rset
    else (if bytes_eq low (codes "noop") then Some word.Noop
    else (if bytes_eq low (codes "vrfy") then Some word.Vrfy
    else (if bytes_eq low (codes "quit") then Some word.Quit
    else (if bytes_eq low (codes "expn") then Some word.Expn
    else (if bytes_eq low (codes "help") then Some word.Help
    else None))))))))))

low_name : (w : Word) → low_word (str_to_ascii_lowercase (name_of w)) ≡ Some w
low_name word.Helo = refl
low_name word.Ehlo = refl
low_name word.Mail = refl
low_name word.Rcpt = refl
low_name word.Data = refl
low_name word.Rset = refl
low_name word.Noop = refl
low_name word.Vrfy = refl
low_name word.Quit = refl
low_name word.Expn = refl
low_name word.Help = refl

name_lacks_space : (w : Word) → Lacks 32 (str_to_ascii_lowercase (name_of w))
name_lacks_space word.Helo = refl
name_lacks_space word.Ehlo = refl
name_lacks_space word.Mail = refl
name_lacks_space word.Rcpt = refl
name_lacks_space word.Data = refl
name_lacks_space word.Rset = refl
name_lacks_space word.Noop = refl
name_lacks_space word.Vrfy = refl
name_lacks_space word.Quit = refl
name_lacks_space word.Expn = refl
name_lacks_space word.Help = refl

-- bytes that are spelled as a word's name are that word
word_is : (w : Word) (bytes : List ℕ) → is_spelled (name_of w) bytes ≡ true → word_of bytes ≡ Some w
word_is w bytes e = ap low_word (lower_of (name_of w) bytes e) ∙ low_name w

some_if : (b : Bool) (x y : Option Word) (P : Word → Type 0) → (b ≡ true → IfSome x P) → IfSome y P → IfSome (if b then x else y) P
some_if true x y P f g = f refl
some_if false x y P f g = g

-- a word is spelled as its name
pub word_spelled : (bytes : List ℕ) → IfSome (word_of bytes) (λ w. is_spelled (name_of w) bytes ≡ true)
word_spelled bytes =
    let P : Word → Type 0 = λ w. is_spelled (name_of w) bytes ≡ true in
    some_if _ (Some word.Helo) _ P (λ e. e) (some_if _ (Some word.Ehlo) _ P (λ e. e) (some_if _ (Some word.Mail) _ P (λ e. e)
    (some_if _ (Some word.Rcpt) _ P (λ e. e) (some_if _ (Some word.Data) _ P (λ e. e) (some_if _ (Some word.Rset) _ P (λ e. e)
    (some_if _ (Some word.Noop) _ P (λ e. e) (some_if _ (Some word.Vrfy) _ P (λ e. e) (some_if _ (Some word.Quit) _ P (λ e. e)
    (some_if _ (Some word.Expn) _ P (λ e. e) (some_if _ (Some word.Help) _ P (λ e. e) tt))))))))))

-- the word and the argument that a line begins with
record Cut (word argument core : List ℕ) : Type 0 where
  before : before_first is_space core ≡ word
  after : after_first is_space core ≡ argument

cut_by : (word argument core : List ℕ) → Lacks 32 word → ((core ≡ word) × (argument ≡ [])) ⊎ (core ≡ word ++ 32 ∷ argument) → Cut word argument core
cut_by word argument core l (inl e) =
    record { before = ap (before_first is_space) e.0 ∙ before_none is_space word l; after = ap (after_first is_space) e.0 ∙ after_none is_space word l ∙ sym e.1 }
cut_by word argument core l (inr e) =
    record {
      before = ap (before_first is_space) e ∙ before_stop is_space word 32 argument l refl;
      after = ap (after_first is_space) e ∙ after_stop is_space word 32 argument l refl;
    }

cut_of : (w : Word) (argument core : List ℕ) (s : Speaks (name_of w) argument core) → Cut s.spelled argument core
cut_of w argument core s = cut_by s.spelled argument core (spelled_lacks (name_of w) s.spelled 32 s.in_any_case refl (name_lacks_space w)) s.whole

-- what begins with a word has that word
pub speaks_word : (w : Word) (argument core : List ℕ) → Speaks (name_of w) argument core → word_of (before_first is_space core) ≡ Some w
speaks_word w argument core s = ap word_of (cut_of w argument core s).before ∙ word_is w s.spelled s.in_any_case

-- it is read as that word with its argument
pub speaks_read : (w : Word) (argument core : List ℕ) → Speaks (name_of w) argument core → words_of core ≡ spoken w argument
speaks_read w argument core s =
    ap (λ (o : Option Word). if_word o (after_first is_space core)) (speaks_word w argument core s)
    ∙ ap (spoken w) (cut_of w argument core s).after

abbrev pub Parts : List ℕ → Type 0
Parts core =
    ((core ≡ before_first is_space core) × (after_first is_space core ≡ []))
    ⊎ (core ≡ before_first is_space core ++ 32 ∷ after_first is_space core)

space_is : (c : ℕ) → not (is_space c) ≡ false → c ≡ 32
space_is c e = eqb-true c 32 (by_test (is_space c) refl)
  where
    by_test : (t : Bool) → is_space c ≡ t → is_space c ≡ true
    by_test true is = is
    by_test false is = absurd (let w : true ≡ false = sym (ap not is) ∙ e in cc)

parts_from : (core : List ℕ) → (list_all (λ b. not (is_space b)) core ≡ true) ⊎ First (λ b. not (is_space b)) core → Parts core
parts_from core (inl all) = inl (sym (before_none is_space core all), after_none is_space core all)
parts_from core (inr f) =
    let stop : f.stop ≡ 32 = space_is f.stop f.fails in
    let whole : core ≡ f.front ++ 32 ∷ f.back = f.whole ∙ ap (λ (c : ℕ). f.front ++ c ∷ f.back) stop in
    inr (whole ∙ ap (λ (w : List ℕ). w ++ 32 ∷ f.back) (sym (ap (before_first is_space) whole ∙ before_stop is_space f.front 32 f.back f.pass refl))
    ∙ ap (λ (a : List ℕ). before_first is_space core ++ 32 ∷ a) (sym (ap (after_first is_space) whole ∙ after_stop is_space f.front 32 f.back f.pass refl)))

parts : (core : List ℕ) → Parts core
parts core = parts_from core (first (λ b. not (is_space b)) core)

-- a line begins with its word, where that is one
pub word_speaks : (name core : List ℕ) → is_spelled name (before_first is_space core) ≡ true → Speaks name (after_first is_space core) core
word_speaks name core e = record { spelled = before_first is_space core; in_any_case = e; whole = parts core }
