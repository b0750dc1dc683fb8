-- Paths in brackets, with and without a route.
use Rattle.std.proofs.Common.{◌≡◌, ◌≢◌, ◌⊎◌, ℕ, ◌+◌, ◌≤◌, Bool, true, false, not, ◌&&◌, ◌==◌, List, [], ◌∷◌, ◌++◌, length, take, drop, refl, ap, subst, sym, ◌∙◌, inl, inr, arith, nat_le}
use Rattle.std.proofs.Math.Seq.{take-append_seam, drop-append_seam, drop-length}
use Rattle.std.proofs.lemmas.List.{length-append, length-map, take-append-drop}
use Rattle.std.proofs.lemmas.Bool.{eqb-true, eq-eqb, leb-true, le-leb}
use Rattle.std.specs.Prelude.{Option, None, Some, IfSome, if◌then◌else◌}
use Rattle.std.specs.List.{list_all, list_any, after_first}
use Rattle.std.specs.Char.{to_ascii_lowercase}
use Rattle.smtp_lines.specs.Parts.{is_space, is_spelled, starts_as, unspaced}
use Rattle.smtp_lines.specs.Path.{begins_with, inside, is_path, is_path_byte, outside, path_at, path_of, unrouted}
use Rattle.smtp_lines.specs.Grammar.{AreSpaces, HasNoRoute, HasPath, HasRoute, Lacks, is_inner_byte}
use Rattle.smtp_lines.proofs.Parting.{First, apart, both, and_true, first, prefix_all, prefix_stop, before_stop, after_stop, some_at, none_any}
use Rattle.smtp_lines.proofs.Wording.{lower_of}

all_both : (p q : ℕ → Bool) (xs : List ℕ) → list_all p xs ≡ true → list_all q xs ≡ true → list_all (λ b. p b && q b) xs ≡ true
all_both p q [] e f = refl
all_both p q (x ∷ xs) e f =
    let h = both (p x) (list_all p xs) e in
    let k = both (q x) (list_all q xs) f in
    and_true (p x && q x) (list_all (λ b. p b && q b) xs) (and_true (p x) (q x) h.0 k.0) (all_both p q xs h.1 k.1)

all_first : (p q : ℕ → Bool) (xs : List ℕ) → list_all (λ b. p b && q b) xs ≡ true → (list_all p xs ≡ true) × (list_all q xs ≡ true)
all_first p q [] e = (refl, refl)
all_first p q (x ∷ xs) e =
    let h = both (p x && q x) (list_all (λ b. p b && q b) xs) e in
    let k = both (p x) (q x) h.0 in
    let l = all_first p q xs h.1 in
    (and_true (p x) (list_all p xs) k.0 l.0, and_true (q x) (list_all q xs) k.1 l.1)

-- what fails a test on 'another byte' is the byte
pub byte_is : (b c : ℕ) → not (b == c) ≡ false → b ≡ c
byte_is b c e = eqb-true b c (by_test (b == c) refl)
  where
    by_test : (t : Bool) → (b == c) ≡ t → (b == c) ≡ true
    by_test true is = is
    by_test false is = absurd (apart (not (b == c)) (ap not is) e)

-- bytes that begin with a path in brackets
record Brackets (rest : List ℕ) : Type 0 where
  within : List ℕ
  tail : List ℕ
  whole : rest ≡ 60 ∷ (within ++ 62 ∷ tail)
  plain : Lacks 62 within

brackets_tail : (r : List ℕ) → list_any (λ b. b == 62) r ≡ true → (list_all (λ b. not (b == 62)) r ≡ true) ⊎ First (λ b. not (b == 62)) r → Brackets (60 ∷ r)
brackets_tail r e (inl all) = absurd (apart (list_any (λ b. b == 62) r) e (none_any (λ b. b == 62) r all))
brackets_tail r e (inr f) =
    record {
      within = f.front;
      tail = f.back;
      whole = ap (λ (t : List ℕ). 60 ∷ t) (f.whole ∙ ap (λ (c : ℕ). f.front ++ c ∷ f.back) (byte_is f.stop 62 f.fails));
      plain = f.pass;
    }

brackets_first : (b : ℕ) (r : List ℕ) → b ≡ 60 → list_any (λ b. b == 62) (b ∷ r) ≡ true → Brackets (b ∷ r)
brackets_first b r e h =
    subst (λ (c : ℕ). Brackets (c ∷ r)) (sym e)
    (brackets_tail r (subst (λ (c : ℕ). list_any (λ b. b == 62) (c ∷ r) ≡ true) e h) (first (λ b. not (b == 62)) r))

brackets : (rest : List ℕ) → begins_with 60 rest ≡ true → list_any (λ b. b == 62) rest ≡ true → Brackets rest
brackets [] e h = absurd (let w : false ≡ true = e in cc)
brackets (b ∷ r) e h = brackets_first b r (eqb-true b 60 e) h

inside_is : (rest within tail : List ℕ) → rest ≡ 60 ∷ (within ++ 62 ∷ tail) → Lacks 62 within → inside rest ≡ within
inside_is rest within tail e l = ap inside e ∙ before_stop (λ b. b == 62) within 62 tail l refl

outside_is : (rest within tail : List ℕ) → rest ≡ 60 ∷ (within ++ 62 ∷ tail) → Lacks 62 within → outside rest ≡ tail
outside_is rest within tail e l = ap outside e ∙ after_stop (λ b. b == 62) (60 ∷ within) 62 tail (and_true true _ refl l) refl

abbrev Unrouted : List ℕ → List ℕ → Type 0
Unrouted within path = HasNoRoute within path ⊎ HasRoute within path

route_tail : (r : List ℕ) (b : Bool) → list_any (λ c. c == 58) r ≡ b → (list_all (λ c. not (c == 58)) r ≡ true) ⊎ First (λ c. not (c == 58)) r
    → IfSome (if b then Some (after_first (λ c. c == 58) (64 ∷ r)) else None) (λ path. Unrouted (64 ∷ r) path)
route_tail r false e cut = tt
route_tail r true e (inl all) = absurd (apart (list_any (λ c. c == 58) r) e (none_any (λ c. c == 58) r all))
route_tail r true e (inr f) =
    let whole : 64 ∷ r ≡ 64 ∷ f.front ++ 58 ∷ f.back = ap (λ (t : List ℕ). 64 ∷ t) (f.whole ∙ ap (λ (c : ℕ). f.front ++ c ∷ f.back) (byte_is f.stop 58 f.fails)) in
    let behind : after_first (λ c. c == 58) (64 ∷ r) ≡ f.back =
    ap (after_first (λ c. c == 58)) whole ∙ after_stop (λ c. c == 58) (64 ∷ f.front) 58 f.back (and_true true _ refl f.pass) refl in
    inr (record { route = f.front; whole = whole ∙ ap (λ (p : List ℕ). 64 ∷ f.front ++ 58 ∷ p) (sym behind); plain = f.pass })

no_at : (b : ℕ) (r rest : List ℕ) → (b == 64) ≡ false → (b ∷ r) ≢ 64 ∷ rest
no_at b r rest e f = apart (b == 64) (eq-eqb b 64 (let w : (b ∷ r) ≡ 64 ∷ rest = f in cc)) e

unrouted_at : (b : ℕ) (r : List ℕ) (t : Bool) → (b == 64) ≡ t → IfSome (unrouted (b ∷ r)) (λ path. Unrouted (b ∷ r) path)
unrouted_at b r false e = rw e (inl (record { whole = refl; plain = λ rest. no_at b r rest e }))
unrouted_at b r true e =
    subst (λ (c : ℕ). IfSome (unrouted (c ∷ r)) (λ path. Unrouted (c ∷ r) path)) (sym (eqb-true b 64 e))
    (route_tail r (list_any (λ c. c == 58) r) refl (first (λ c. not (c == 58)) r))

-- the path that is found stands there without its route
unrouted_sound : (within : List ℕ) → IfSome (unrouted within) (λ path. Unrouted within path)
unrouted_sound [] = inl (record { whole = refl; plain = λ rest e. let w : [] ≡ 64 ∷ rest = e in cc })
unrouted_sound (b ∷ r) = unrouted_at b r (b == 64) refl

some_map : (o : Option (List ℕ)) (P Q : List ℕ → Type 0) → ((x : List ℕ) → P x → Q x) → IfSome o P → IfSome o Q
some_map None P Q f h = tt
some_map (Some x) P Q f h = f x h

-- what a test on a path says
record Tests (rest : List ℕ) : Type 0 where
  opens : begins_with 60 rest ≡ true
  closes : list_any (λ b. b == 62) rest ≡ true
  short : length (inside rest) ≤ 254
  bytes : list_all is_path_byte (inside rest) ≡ true

tests : (rest : List ℕ) → is_path rest ≡ true → Tests rest
tests rest e =
    let h = both (begins_with 60 rest && list_any (λ b. b == 62) rest && nat_le (length (inside rest)) 254) (list_all is_path_byte (inside rest)) e in
    let k = both (begins_with 60 rest && list_any (λ b. b == 62) rest) (nat_le (length (inside rest)) 254) h.0 in
    let l = both (begins_with 60 rest) (list_any (λ b. b == 62) rest) k.0 in
    record { opens = l.0; closes = l.1; short = leb-true (length (inside rest)) 254 k.1; bytes = h.1 }

-- the path that stands behind a word and spaces
path_there : (name argument spelled spaces rest : List ℕ) → is_spelled name spelled ≡ true → AreSpaces spaces → argument ≡ spelled ++ (spaces ++ rest)
    → (b : Bool) → is_path rest ≡ b → IfSome (if b then unrouted (inside rest) else None) (λ path. HasPath name path (outside rest) argument)
path_there name argument spelled spaces rest e are whole false is = tt
path_there name argument spelled spaces rest e are whole true is =
    let t = tests rest is in
    let k = brackets rest t.opens t.closes in
    let ins : inside rest ≡ k.within = inside_is rest k.within k.tail k.whole k.plain in
    let out : outside rest ≡ k.tail = outside_is rest k.within k.tail k.whole k.plain in
    some_map (unrouted (inside rest)) (λ path. Unrouted (inside rest) path) (λ path. HasPath name path (outside rest) argument)
    (λ path u. record {
      spelled = spelled;
      spaces = spaces;
      inside = inside rest;
      in_any_case = e;
      are = are;
      whole = whole ∙ ap (λ (r : List ℕ). spelled ++ (spaces ++ r)) (k.whole ∙ ap (λ (i : List ℕ). 60 ∷ (i ++ 62 ∷ k.tail)) (sym ins) ∙ ap (λ (o : List ℕ). 60 ∷ (inside rest ++ 62 ∷ o)) (sym out));
      inner = all_both is_path_byte (λ b. not (b == 62)) (inside rest) t.bytes (subst (λ (i : List ℕ). Lacks 62 i) (sym ins) k.plain);
      short = t.short;
      unrouted = u;
    }) (unrouted_sound (inside rest))

abbrev PathSound : List ℕ → List ℕ → List ℕ → Type 0
PathSound name argument rest = IfSome (path_of rest) (λ path. HasPath name path (outside rest) argument)

path_behind : (name argument spelled behind : List ℕ) → is_spelled name spelled ≡ true → argument ≡ spelled ++ behind
    → (list_all is_space behind ≡ true) ⊎ First is_space behind → PathSound name argument (unspaced behind)
path_behind name argument spelled behind e whole (inl all) =
    subst (λ (r : List ℕ). PathSound name argument r) (sym (ap (λ (n : ℕ). drop n behind) (prefix_all is_space behind all) ∙ drop-length behind)) tt
path_behind name argument spelled behind e whole (inr f) =
    let rest : unspaced behind ≡ f.stop ∷ f.back =
    ap unspaced f.whole ∙ ap (λ (n : ℕ). drop n (f.front ++ f.stop ∷ f.back)) (prefix_stop is_space f.front f.stop f.back f.pass f.fails)
    ∙ drop-append_seam f.front (f.stop ∷ f.back) in
    subst (λ (r : List ℕ). PathSound name argument r) (sym rest)
    (path_there name argument spelled f.front (f.stop ∷ f.back) e f.pass (whole ∙ ap (λ (b : List ℕ). spelled ++ b) f.whole) (is_path (f.stop ∷ f.back)) refl)

path_at_by : (name argument : List ℕ) (b : Bool) → starts_as name argument ≡ b → PathSound name argument (if b then unspaced (drop (length name) argument) else [])
path_at_by name argument false e = tt
path_at_by name argument true e =
    let h = both (nat_le (length name) (length argument)) (is_spelled name (take (length name) argument)) e in
    path_behind name argument (take (length name) argument) (drop (length name) argument) h.1 (sym (take-append-drop (length name) argument))
    (first is_space (drop (length name) argument))

-- a path that is found is one of the grammar
pub path_sound : (name argument : List ℕ) → PathSound name argument (path_at name argument)
path_sound name argument = path_at_by name argument (starts_as name argument) refl

unrouted_plain : (within : List ℕ) → ((rest : List ℕ) → within ≢ 64 ∷ rest) → begins_with 64 within ≡ false
unrouted_plain [] n = refl
unrouted_plain (b ∷ r) n = by_test (b == 64) refl
  where
    by_test : (t : Bool) → (b == 64) ≡ t → (b == 64) ≡ false
    by_test false is = is
    by_test true is = absurd (n r (ap (λ (c : ℕ). c ∷ r) (eqb-true b 64 is)))

unrouted_none : (within : List ℕ) (b : Bool) → begins_with 64 within ≡ b → b ≡ false → unrouted within ≡ Some within
unrouted_none within b e f = rw (e, f) refl

unrouted_route : (route path : List ℕ) → Lacks 58 route → unrouted (64 ∷ route ++ 58 ∷ path) ≡ Some path
unrouted_route route path l =
    let there : list_any (λ b. b == 58) (64 ∷ route ++ 58 ∷ path) ≡ true = some_at (λ b. b == 58) (64 ∷ route) 58 path refl in
    let behind : after_first (λ b. b == 58) (64 ∷ route ++ 58 ∷ path) ≡ path =
    after_stop (λ b. b == 58) (64 ∷ route) 58 path (and_true true _ refl l) refl in
    ap (λ (t : Bool). if t then Some (after_first (λ b. b == 58) (64 ∷ route ++ 58 ∷ path)) else None) there ∙ ap (λ (p : List ℕ). Some p) behind

unrouted_complete : (within path : List ℕ) → Unrouted within path → unrouted within ≡ Some path
unrouted_complete within path (inl n) = unrouted_none within (begins_with 64 within) refl (unrouted_plain within n.plain) ∙ ap (λ (p : List ℕ). Some p) n.whole
unrouted_complete within path (inr h) = ap unrouted h.whole ∙ unrouted_route h.route path h.plain

path_true : (within tail : List ℕ) → list_all is_inner_byte within ≡ true → length within ≤ 254 → is_path (60 ∷ (within ++ 62 ∷ tail)) ≡ true
path_true within tail inner short =
    let rest : List ℕ = 60 ∷ (within ++ 62 ∷ tail) in
    let h = all_first is_path_byte (λ b. not (b == 62)) within inner in
    let ins : inside rest ≡ within = inside_is rest within tail refl h.1 in
    and_true (begins_with 60 rest && list_any (λ b. b == 62) rest && nat_le (length (inside rest)) 254) (list_all is_path_byte (inside rest))
    (and_true (begins_with 60 rest && list_any (λ b. b == 62) rest) (nat_le (length (inside rest)) 254)
    (and_true (begins_with 60 rest) (list_any (λ b. b == 62) rest) refl (some_at (λ b. b == 62) (60 ∷ within) 62 tail refl))
    (le-leb (length (inside rest)) 254 (subst (λ (i : List ℕ). length i ≤ 254) (sym ins) short)))
    (subst (λ (i : List ℕ). list_all is_path_byte i ≡ true) (sym ins) h.0)

path_complete : (within path tail : List ℕ) → list_all is_inner_byte within ≡ true → length within ≤ 254 → Unrouted within path
    → path_of (60 ∷ (within ++ 62 ∷ tail)) ≡ Some path
path_complete within path tail inner short u =
    let rest : List ℕ = 60 ∷ (within ++ 62 ∷ tail) in
    let h = all_first is_path_byte (λ b. not (b == 62)) within inner in
    ap (λ (t : Bool). if t then unrouted (inside rest) else None) (path_true within tail inner short)
    ∙ ap unrouted (inside_is rest within tail refl h.1) ∙ unrouted_complete within path u

spelled_length : (name spelled : List ℕ) → is_spelled name spelled ≡ true → length spelled ≡ length name
spelled_length name spelled e =
    sym (length-map spelled to_ascii_lowercase) ∙ ap length (lower_of name spelled e) ∙ length-map name to_ascii_lowercase

starts : (name spelled behind argument : List ℕ) → is_spelled name spelled ≡ true → argument ≡ spelled ++ behind → starts_as name argument ≡ true
starts name spelled behind argument e whole =
    let n = spelled_length name spelled e in
    let front : take (length name) argument ≡ spelled =
    ap (λ (n : ℕ). take n argument) (sym n) ∙ ap (take (length spelled)) whole ∙ take-append_seam spelled behind in
    let l : length argument ≡ length spelled + length behind = ap length whole ∙ length-append spelled behind in
    and_true (nat_le (length name) (length argument)) (is_spelled name (take (length name) argument)) (le-leb (length name) (length argument) (omega (arith, n, l)))
    (subst (λ (w : List ℕ). is_spelled name w ≡ true) (sym front) e)

behind_is : (name spelled behind argument : List ℕ) → is_spelled name spelled ≡ true → argument ≡ spelled ++ behind → drop (length name) argument ≡ behind
behind_is name spelled behind argument e whole =
    ap (λ (n : ℕ). drop n argument) (sym (spelled_length name spelled e)) ∙ ap (drop (length spelled)) whole ∙ drop-append_seam spelled behind

rest_is : (name spelled spaces rest argument : List ℕ) (c : ℕ) → is_spelled name spelled ≡ true → AreSpaces spaces → is_space c ≡ false
    → argument ≡ spelled ++ (spaces ++ c ∷ rest) → path_at name argument ≡ c ∷ rest
rest_is name spelled spaces rest argument c e are stop whole =
    ap (λ (t : Bool). if t then unspaced (drop (length name) argument) else []) (starts name spelled (spaces ++ c ∷ rest) argument e whole)
    ∙ ap unspaced (behind_is name spelled (spaces ++ c ∷ rest) argument e whole)
    ∙ ap (λ (n : ℕ). drop n (spaces ++ c ∷ rest)) (prefix_stop is_space spaces c rest are stop) ∙ drop-append_seam spaces (c ∷ rest)

-- a path of the grammar is found, and what follows it
pub record Found (name path tail argument : List ℕ) : Type 0 where
  pub path_ : path_of (path_at name argument) ≡ Some path
  pub tail_ : outside (path_at name argument) ≡ tail

pub path_found : (name path tail argument : List ℕ) → HasPath name path tail argument → Found name path tail argument
path_found name path tail argument h =
    let rest : path_at name argument ≡ 60 ∷ (h.inside ++ 62 ∷ tail) =
    rest_is name h.spelled h.spaces (h.inside ++ 62 ∷ tail) argument 60 h.in_any_case h.are refl h.whole in
    let k = all_first is_path_byte (λ b. not (b == 62)) h.inside h.inner in
    record {
      path_ = ap path_of rest ∙ path_complete h.inside path tail h.inner h.short h.unrouted;
      tail_ = outside_is (path_at name argument) h.inside tail rest k.1;
    }
