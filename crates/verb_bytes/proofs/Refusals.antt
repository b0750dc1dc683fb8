-- A record has one spelling, bytes spell one record at most, and bytes that spell none are refused at one place.
use Rattle.std.proofs.Common.{◌≡◌, ℕ, ◌-◌, ◌≤◌, ◌⊎◌, inl, inr, true, List, [], ◌∷◌, ◌++◌, length, Option, Some, None, Result, Ok, Err, refl, sym, ap, subst, ◌∙◌, arith}
use Rattle.std.proofs.lemmas.List.{append-nil, length-append}
use Rattle.verb_bytes.specs.declared.decode.BadBytes.{BadBytes}
use Rattle.verb_bytes.specs.declared.decode.BadBytes.TheVariants.{Place, NoMemory}
use Rattle.verb_bytes.specs.declared.journal.JournalRecord.{JournalRecord}
use Rattle.verb_bytes.specs.Fields.{Field, bytes_of, are_in_range}
use Rattle.verb_bytes.specs.Spelling.{Spells, record_bytes, record_fields}
use Rattle.verb_bytes.specs.Decoding.{LacksScopes, Reaches, IsRefusedAt, IsSpelled, IsRefused, IsBytes, Decodes, IsThis}
use Rattle.verb_bytes.specs.Reading.{from_start, refused_behind, first_refused, record_at, AnswersAll}
use Rattle.verb_bytes.proofs.Exact.{ok_is, left_of}
use Rattle.verb_bytes.proofs.RecordLaws.{any_scopes_at, plain_again, record_only, record_with}
use Rattle.verb_bytes.proofs.Lacking.{lacking_ends, plain_or_lacking, record_reads}

-- what is spelled is read, with nothing behind it
spelled_is_read : (x : JournalRecord) (bytes : List ℕ) → Spells x bytes → record_at bytes ≡ Ok (x, [])
spelled_is_read x bytes s = ap record_at (s.1 ∙ sym (append-nil (record_bytes x))) ∙ record_reads x [] s.0

-- what is read with nothing behind it was spelled
read_was_spelled : (x : JournalRecord) (bytes : List ℕ) → IsBytes bytes → record_at bytes ≡ Ok (x, []) → Spells x bytes
read_was_spelled x bytes fits e =
    let t = record_only.takes bytes [] x fits e in
    (subst (λ (fs : List Field). are_in_range fs ≡ true) t.2 t.1.fits, t.1.parts ∙ append-nil (bytes_of t.0) ∙ ap bytes_of t.2)

-- bytes spell one record at most
pub one_record : (x y : JournalRecord) (bytes : List ℕ) → Spells x bytes → Spells y bytes → x ≡ y
one_record x y bytes s t = ap (λ (p : JournalRecord × List ℕ). p.0) (ok_is (x, []) (y, []) (sym (spelled_is_read x bytes s) ∙ spelled_is_read y bytes t))

-- ---- the place

spelled_is_accepted : (x : JournalRecord) (bytes : List ℕ) → Spells x bytes → first_refused bytes ≡ None
spelled_is_accepted x bytes s = ap (λ (r : Result (JournalRecord × List ℕ) ℕ). from_start (length bytes) (refused_behind r)) (spelled_is_read x bytes s)

-- reading ends where the first fields of some record end
reaches : (bytes : List ℕ) → IsBytes bytes → Reaches bytes (length bytes - left_of (record_at bytes))
reaches bytes fits = by_result (record_at bytes) refl
  where
    before_list : (list : ℕ) → LacksScopes bytes list → (r : Result (JournalRecord × List ℕ) ℕ) → record_at bytes ≡ r → length bytes - left_of r ≤ list
    before_list list lacking r e = let ends = lacking_ends bytes list lacking in let same : left_of (record_at bytes) ≡ left_of r = ap left_of e in omega arith

    by_result : (r : Result (JournalRecord × List ℕ) ℕ) → record_at bytes ≡ r → Reaches bytes (length bytes - left_of r)
    by_result (Err left) e =
        let s = record_only.stops bytes left fits e in
        let long : length bytes ≡ length (bytes_of s.front ++ s.rest) = ap length s.parts in
        let left_is : length s.rest ≡ left = s.left_is in
        record {
          what = s.value;
          has_spelling = subst (λ (fs : List Field). are_in_range fs ≡ true) s.is_such s.fits;
          front = s.front;
          back = s.back;
          fields = sym s.is_such;
          rest = s.rest;
          begins = s.parts;
          ends = omega (arith, length-append (bytes_of s.front) s.rest);
          lists = λ list lacking. before_list list lacking (Err left) e;
        }
    by_result (Ok p) e =
        let t = record_only.takes bytes p.1 p.0 fits e in
        let begins : bytes ≡ bytes_of (record_fields p.0) ++ p.1 = t.1.parts ∙ ap (λ (fs : List Field). bytes_of fs ++ p.1) t.2 in
        let long : length bytes ≡ length (bytes_of (record_fields p.0) ++ p.1) = ap length begins in
        record {
          what = p.0;
          has_spelling = subst (λ (fs : List Field). are_in_range fs ≡ true) t.2 t.1.fits;
          front = record_fields p.0;
          back = [];
          fields = sym (append-nil (record_fields p.0));
          rest = p.1;
          begins = begins;
          ends = omega (arith, length-append (bytes_of (record_fields p.0)) p.1);
          lists = λ list lacking. before_list list lacking (Ok p) e;
        }

-- no record's first fields reach further
reaches_most : (bytes : List ℕ) → IsBytes bytes → (other : ℕ) → Reaches bytes other → other ≤ length bytes - left_of (record_at bytes)
reaches_most bytes fits other r =
    elim (plain_or_lacking bytes fits) [
      | inl plain ↦
          let most : left_of (record_with any_scopes_at bytes) ≤ length r.rest = (plain_again r.what).passes r.front r.back bytes r.rest fits r.has_spelling r.fields r.begins in
          let same : left_of (record_at bytes) ≡ left_of (record_with any_scopes_at bytes) = ap left_of plain in
          let long : length bytes ≡ length (bytes_of r.front ++ r.rest) = ap length r.begins in
          let ends : length (bytes_of r.front) ≡ other = r.ends in
          omega (arith, length-append (bytes_of r.front) r.rest)
      | inr lacking ↦
          let le : other ≤ lacking.0 = r.lists lacking.0 lacking.1 in
          let ends = lacking_ends bytes lacking.0 lacking.1 in
          omega arith
    ]

refused_where : (count : ℕ) (r : Result (JournalRecord × List ℕ) ℕ) (place : ℕ) → from_start count (refused_behind r) ≡ Some place → place ≡ count - left_of r
refused_where count (Err left) place e = cc
refused_where count (Ok p) place e = ended count p.0 p.1 place e
  where
    ended : (count : ℕ) (x : JournalRecord) (rest : List ℕ) (place : ℕ) → from_start count (refused_behind (Ok (x, rest))) ≡ Some place → place ≡ count - length rest
    ended count x [] place e = absurd cc
    ended count x (b ∷ rest) place e = cc

not_both : (o : Option ℕ) (place : ℕ) → o ≡ None → o ≡ Some place → ⊥
not_both None place e f = absurd cc
not_both (Some n) place e f = absurd cc

refused_at : (bytes : List ℕ) (place : ℕ) → IsBytes bytes → first_refused bytes ≡ Some place → IsRefusedAt bytes place
refused_at bytes place fits e =
    let is : place ≡ length bytes - left_of (record_at bytes) = refused_where (length bytes) (record_at bytes) place e in
    record {
      spells_none = λ what s. not_both (first_refused bytes) place (spelled_is_accepted what bytes s) e;
      reached = subst (Reaches bytes) (sym is) (reaches bytes fits);
      furthest = λ other r. subst (λ (n : ℕ). other ≤ n) (sym is) (reaches_most bytes fits other r);
    }

-- bytes are refused at one place at most
pub one_place : (bytes : List ℕ) (first second : ℕ) → IsRefusedAt bytes first → IsRefusedAt bytes second → first ≡ second
one_place bytes first second a b =
    let le : first ≤ second = b.furthest first a.reached in
    let ge : second ≤ first = a.furthest second b.reached in
    omega arith

-- ---- one of the two

-- where nothing is refused, a record is read with nothing behind it
accepted_is_read : (count : ℕ) (r : Result (JournalRecord × List ℕ) ℕ) → from_start count (refused_behind r) ≡ None → (x : JournalRecord) × (r ≡ Ok (x, []))
accepted_is_read count (Err left) e = absurd cc
accepted_is_read count (Ok p) e = ended count p.0 p.1 e
  where
    ended : (count : ℕ) (x : JournalRecord) (rest : List ℕ) → from_start count (refused_behind (Ok (x, rest))) ≡ None → (y : JournalRecord) × (◌≡◌ {A = Result (JournalRecord × List ℕ) ℕ} (Ok (x, rest)) (Ok (y, [])))
    ended count x [] e = (x, refl)
    ended count x (b ∷ rest) e = absurd cc

accepted_was_spelled : (bytes : List ℕ) → IsBytes bytes → first_refused bytes ≡ None → IsSpelled bytes
accepted_was_spelled bytes fits e =
    let r = accepted_is_read (length bytes) (record_at bytes) e in
    (r.0, read_was_spelled r.0 bytes fits r.1)

pub spelled_or_refused : (bytes : List ℕ) → IsBytes bytes → IsSpelled bytes ⊎ IsRefused bytes
spelled_or_refused bytes fits = by_place (first_refused bytes) refl
  where
    by_place : (o : Option ℕ) → first_refused bytes ≡ o → IsSpelled bytes ⊎ IsRefused bytes
    by_place None e = inl (accepted_was_spelled bytes fits e)
    by_place (Some place) e = inr (place, refused_at bytes place fits e)

-- ---- what decoding answers

pub decodes : (bytes : List ℕ) (result : Result JournalRecord BadBytes) → IsBytes bytes → AnswersAll bytes result → Decodes bytes result
decodes bytes (Ok x) fits h = read_was_spelled x bytes fits h
decodes bytes (Err (Place place)) fits h = refused_at bytes place fits h
decodes bytes (Err NoMemory) fits h = tt

pub is_this : (what : JournalRecord) (bytes : List ℕ) (result : Result JournalRecord BadBytes) → Spells what bytes → AnswersAll bytes result → IsThis what result
is_this what bytes (Ok x) s h = ap (λ (p : JournalRecord × List ℕ). p.0) (ok_is (x, []) (what, []) (sym h ∙ spelled_is_read what bytes s))
is_this what bytes (Err (Place place)) s h = not_both (first_refused bytes) place (spelled_is_accepted what bytes s) h
is_this what bytes (Err NoMemory) s h = tt
