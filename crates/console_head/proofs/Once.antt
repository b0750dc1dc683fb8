-- Bytes are one thing, and stay a request or refused when more come.
use Rattle.std.proofs.Common.{◌≡◌, ℕ, zero, suc, ◌+◌, ◌-◌, ◌<◌, ◌≤◌, ◌==◌, Bool, true, false, List, [], ◌∷◌, ◌++◌, length, take, drop, get_or, Option, Some, None, refl, sym, ap, ◌∙◌, arith, inl, inr, eq-eqb, eqb-true, true≢false}
use Rattle.std.specs.Prelude.{◌⊎◌, nat_lt, if◌then◌else◌, Ok, Err, map, option_map}
use Rattle.std.proofs.lemmas.Bool.Decides.{nat_tests}
use Rattle.std.proofs.lemmas.List.{drop-append-le, length-append, take-append-le}
use Rattle.httparse.specs.Grammar.{RequestHead}
use Rattle.httparse.specs.Spans.{name_and_value}
use Rattle.httparse.proofs.GrammarLemmas.{request_unique}
use Rattle.console_head.specs.declared.lines.Head.{Head}
use Rattle.console_head.specs.declared.lines.Lines.{Lines}
use Rattle.console_head.specs.declared.lines.Found.{Found}
use Rattle.console_head.specs.declared.lines.Found.TheVariants.{Line, Whole, Nothing}
use Rattle.console_head.specs.declared.request.HeadRefused.TheVariants.{Size}
use Rattle.console_head.specs.Coming.{beyond, AreFirst}
use Rattle.console_head.specs.Lengths.{body_length}
use Rattle.console_head.specs.Lines.{head_of}
use Rattle.console_head.specs.Request.{Says, SaysBy, SaysFields, SaysHead, Stage, with_body, with_length}
use Rattle.console_head.specs.Steps.{Finds, lines_with, shown_by}
use Rattle.console_head.proofs.Cut.{HasNoLf, line_taken, none_taken}
use Rattle.console_head.proofs.Reading.{none_long, take_both, within_bytes}

-- ---- one thing

head_once : (text rest : List ℕ) (a b : Stage) → SaysHead text rest a → SaysHead text rest b → a ≡ b
head_once text rest a b (inl x) (inl y) =
    x.2 ∙ ap (λ (h : RequestHead). with_body h rest) (request_unique text x.0 y.0 [] [] x.1 y.1).0 ∙ sym y.2
head_once text rest a b (inl x) (inr y) = absurd (y.0 x.0 x.1)
head_once text rest a b (inr x) (inl y) = absurd (x.0 y.0 y.1)
head_once text rest a b (inr x) (inr y) = x.1 ∙ sym y.1

fields_once : (many : Bool) (text rest : List ℕ) (a b : Stage) → SaysFields many text rest a → SaysFields many text rest b → a ≡ b
fields_once true text rest a b x y = x ∙ sym y
fields_once false text rest a b x y = head_once text rest a b x y

by_once : (bytes : List ℕ) (o : Option Head) (a b : Stage) → SaysBy bytes o a → SaysBy bytes o b → a ≡ b
by_once bytes None a b x y = x ∙ sym y
by_once bytes (Some head) a b x y = fields_once (nat_lt 64 head.fields) (take head.size bytes) (drop head.size bytes) a b x y

pub says_once : (bytes : List ℕ) (a b : Stage) → Says bytes a → Says bytes b → a ≡ b
says_once bytes a b x y = by_once bytes (head_of (take 16384 bytes)) a b x y

-- ---- what stays

abbrev HasLfFirst : List ℕ → ℕ → Type 0
HasLfFirst xs place = (place < length xs) × HasNoLf xs place × (get_or xs place 0 ≡ 10)

abbrev FirstLf : List ℕ → Type 0
FirstLf xs = ((place : ℕ) × HasLfFirst xs place) ⊎ HasNoLf xs (length xs)

no_lf_more : (x : ℕ) (xs : List ℕ) (n : ℕ) → (x ≡ 10 → ⊥) → HasNoLf xs n → HasNoLf (x ∷ xs) (suc n)
no_lf_more x xs n other none zero lt here = other here
no_lf_more x xs n other none (suc k) lt here = none k (omega (arith, lt)) here

lf_more : (x : ℕ) (xs : List ℕ) → (x ≡ 10 → ⊥) → FirstLf xs → FirstLf (x ∷ xs)
lf_more x xs other (inl at) = inl (suc at.0, (omega (arith, at.1.0), no_lf_more x xs at.0 other at.1.1, at.1.2))
lf_more x xs other (inr none) = inr (no_lf_more x xs (length xs) other none)

-- where the first LF stands, if one does
first_lf : (xs : List ℕ) → FirstLf xs
first_lf [] = inr (λ k lt here. omega (arith, lt))
first_lf (x ∷ xs) = elim (x == 10) as (λ t. (x == 10) ≡ t → FirstLf (x ∷ xs)) [
  | true ↦ λ e. inl (0, (omega arith, (λ k lt here. omega (arith, lt)), eqb-true x 10 e))
  | false ↦ λ e. lf_more x xs (λ same. true≢false (sym (eq-eqb x 10 same) ∙ e)) (first_lf xs)
] refl

-- a head that stays whatever follows, or none
pub record Stays (bytes : List ℕ) (head : Head) : Type 0 where
  pub within : head.size ≤ length bytes
  pub value : head_of bytes ≡ Some head
  pub more : (more : List ℕ) → head_of (bytes ++ more) ≡ Some head

abbrev pub StaysAsRead : List ℕ → Type 0
StaysAsRead bytes = (head_of bytes ≡ None) ⊎ ((head : Head) × Stays bytes head)

searched : (l m : Lines) (bytes : List ℕ) (found : Found) → AreFirst m bytes → Finds l m bytes found
    → (AreFirst m bytes → l.start < m.start → StaysAsRead bytes) → StaysAsRead bytes
searched l m bytes Line first finds on = on first finds
searched l m bytes (Whole head) first finds on = inr (head, record { within = finds.0; value = finds.1; more = finds.2 })
searched l m bytes Nothing first finds on = inl finds

search : (fuel : ℕ) (l : Lines) (bytes : List ℕ) → AreFirst l bytes → length bytes < l.start + fuel → StaysAsRead bytes
search zero l bytes first small = absurd (omega (arith, first.within, small))
search (suc fuel) l bytes first small = elim (first_lf (drop l.start bytes)) [
  | inr none ↦ inl (none_taken l bytes first none)
  | inl at ↦
      let line = take (at.0 + 1) (drop l.start bytes) in
      let shows = line_taken l bytes at.0 first at.1.0 at.1.1 at.1.2 in
      searched l (lines_with l line) bytes (shown_by l line) shows.0 shows.1
      (λ next further. search fuel (lines_with l line) bytes next (omega (arith, small, further)))
]

same_beyond : (o : Option Head) → o ≡ option_map (beyond (record { start = 0; begun = false; fields = 0; searched = 0 })) o
same_beyond None = refl
same_beyond (Some head) =
    let size : 0 + head.size ≡ head.size = omega arith in
    let fields : 0 + head.fields ≡ head.fields = omega arith in
    rw (size, fields) refl

pub holds : (bytes : List ℕ) → StaysAsRead bytes
holds bytes = search (suc (length bytes)) (record { start = 0; begun = false; fields = 0; searched = 0 }) bytes
    (record {
      within = omega arith;
      fields = omega arith;
      none = λ k lt here. omega (arith, lt);
      same = λ more. same_beyond (head_of (bytes ++ more));
    }) (omega arith)

-- with more bytes behind it a body is the same
length_stays : (h : RequestHead) (rest more : List ℕ) (n : Option ℕ) (s : Stage) → s ≡ with_length h rest n → (s ≡ Ok None → ⊥) → s ≡ with_length h (rest ++ more) n
length_stays h rest more None s e decided = e
length_stays h rest more (Some n) s e decided =
    elim (nat_lt 4194304 n) as (λ large. nat_lt 4194304 n ≡ large → s ≡ with_length h (rest ++ more) (Some n)) [
      | true ↦ λ large. rw large (rw large at e)
      | false ↦ λ large. elim (nat_lt (length rest) n) as (λ short. nat_lt (length rest) n ≡ short → s ≡ with_length h (rest ++ more) (Some n)) [
        | true ↦ λ short. absurd (decided (rw (large, short) at e))
        | false ↦ λ short.
            let enough : n ≤ length rest = grind (arith, nat_tests, short) in
            let long : nat_lt (length (rest ++ more)) n ≡ false = grind (arith, nat_tests, length-append rest more, enough) in
            rw (large, long, take-append-le n rest more enough) (rw (large, short) at e)
      ] refl
    ] refl

head_stays : (text rest more : List ℕ) (s : Stage) → SaysHead text rest s → (s ≡ Ok None → ⊥) → SaysHead text (rest ++ more) s
head_stays text rest more s (inl x) decided = inl (x.0, x.1, length_stays x.0 rest more (body_length (map name_and_value x.0.fields)) s x.2 decided)
head_stays text rest more s (inr x) decided = inr x

fields_stay : (many : Bool) (text rest more : List ℕ) (s : Stage) → SaysFields many text rest s → (s ≡ Ok None → ⊥) → SaysFields many text (rest ++ more) s
fields_stay true text rest more s x decided = x
fields_stay false text rest more s x decided = head_stays text rest more s x decided

some_stays : (bytes more : List ℕ) (head : Head) (s : Stage) → head.size ≤ length bytes → SaysBy bytes (Some head) s → (s ≡ Ok None → ⊥) → SaysBy (bytes ++ more) (Some head) s
some_stays bytes more head s within x decided =
    rw (take-append-le head.size bytes more within, drop-append-le head.size bytes more within)
    (fields_stay (nat_lt 64 head.fields) (take head.size bytes) (drop head.size bytes) more s x decided)

none_stays : (bytes more : List ℕ) (s : Stage) → s ≡ (if nat_lt (length bytes) 16384 then Ok None else Err Size) → (s ≡ Ok None → ⊥) → (16384 ≤ length bytes) × (s ≡ Err Size)
none_stays bytes more s e decided = elim (nat_lt (length bytes) 16384) as (λ t. nat_lt (length bytes) 16384 ≡ t → (16384 ≤ length bytes) × (s ≡ Err Size)) [
  | true ↦ λ short. absurd (decided (rw short at e))
  | false ↦ λ short. (grind (arith, nat_tests, short), rw short at e)
] refl

stays_by : (bytes more : List ℕ) (s : Stage) → StaysAsRead (take 16384 bytes) → Says bytes s → (s ≡ Ok None → ⊥) → Says (bytes ++ more) s
stays_by bytes more s (inl none) says decided =
    let long = none_stays bytes more s (rw none at says) decided in
    let front : take 16384 (bytes ++ more) ≡ take 16384 bytes = take-append-le 16384 bytes more long.0 in
    rw (front, none) (long.1 ∙ none_long (length (bytes ++ more)) (omega (arith, long.0, length-append bytes more)))
stays_by bytes more s (inr head) says decided =
    let within : head.0.size ≤ length bytes = within_bytes bytes (take 16384 bytes) head.0.size refl head.1.within in
    rw (take_both 16384 bytes more, head.1.more (take (16384 - length bytes) more))
    (some_stays bytes more head.0 s within (rw head.1.value at says) decided)

pub says_stays : (bytes more : List ℕ) (s : Stage) → Says bytes s → (s ≡ Ok None → ⊥) → Says (bytes ++ more) s
says_stays bytes more s says decided = stays_by bytes more s (holds (take 16384 bytes)) says decided
