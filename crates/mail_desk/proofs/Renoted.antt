-- Where the texts of items in any order lie after a cycle.
use Rattle.std.proofs.Common.{◌≡◌, ◌≢◌, inl, inr, ℕ, ◌+◌, ◌<◌, ◌==◌, Bool, true, false, ◌&&◌, cond, List, [], ◌∷◌, ◌++◌, length, find, get_or, Option, None, Some, is_some, is_eq, option_map, option_and_then, Result, Ok, Err, IfOk, refl, ap, sym, subst, ◌∙◌, arith}
use Rattle.std.specs.List.{All, AllByRecursion, Contains, cons_option}
use Rattle.std.specs.List.Sorted.{IsPermutation}
use Rattle.std.specs.Option.{option_or}
use Rattle.std.specs.Cmp.{first_so, tied_itself}
use Rattle.std.specs.Ordering.{eq_by_cmp}
use Rattle.std.specs.Prelude.{◌⊎◌}
use Rattle.std.proofs.lemmas.Bool.{cases_order}
use Rattle.std.proofs.lemmas.Bool.Decides.{nat_tests}
use Rattle.std.proofs.lemmas.List.{get_or_default}
use Rattle.std.proofs.lemmas.List.Elements.{All-contains, All-from_recursion, Contains-append_left, Contains-append_right, Contains-get_or, filter_map-append}
use Rattle.std.proofs.lemmas.List.Sorted.{All-permutation, Contains-permutation}
use Rattle.verb_core.specs.declared.item.Item.{Item}
use Rattle.verb_core.specs.declared.mailbox.Body.{Body}
use Rattle.verb_core.specs.Deeds.{is_notice}
use Rattle.verb_core.specs.Items.{NumbersApart, text_in, text_of}
use Rattle.shelf.specs.declared.note.Note.{Note}
use Rattle.shelf.specs.Notes.{Noted, note_of, same_body, size_of}
use Rattle.store_kept.specs.Kept.{BaseTexts, body_cmp}
use Rattle.store_kept.specs.Texts.{text_before, text_with}
use Rattle.store_kept.proofs.Bodies.{bodies_total, tied}
use Rattle.store_kept.proofs.Coming.{comes_from}
use Rattle.mail_desk.specs.declared.noting.Fresh.{Fresh}
use Rattle.mail_desk.specs.Noting.{IsNotedBefore, IsNotedBy, IsNotedIn, Knows, note_by, noted_by, notice_note, renoted, rows_before, rows_by}
use Rattle.mail_desk.specs.Timeline.{SizesOf, body_of, has_text, item_of, notice_text_of, notice_text_by_rev}
use Rattle.mail_desk.proofs.BodyTexts.{all_first, all_last, brings, itself, own_texts, text_joined, through}
use Rattle.mail_desk.proofs.Timelines.{all_joined, all_weaker, unequal}

abbrev Row : Type 0
Row = Body × Note

same_is : (a b : Body) → same_body a b ≡ true → a ≡ b
same_is a b e =
    let origin : a.origin ≡ b.origin = grind (arith, nat_tests) in
    let rev : a.rev ≡ b.rev = grind (arith, nat_tests) in
    λ j. record { origin = origin j; rev = rev j }

-- ---- what a shelf has of rows

pub knows_none : (notes : List Row) (rows : List Row) → notes ≡ [] → Knows notes rows 0
knows_none notes rows none = subst (λ (n : List Row). Knows n rows 0) (sym none) (record {
  told = λ body note e. absurd (let wrong : ◌≡◌ {A = Option Note} None (Some note) = e in cc);
  noted = λ place d less. absurd (omega arith);
})

still_some : (b : Bool) (note : Note) (o : Option Note) → is_some o ≡ true → is_some (cond b (Some note) o) ≡ true
still_some true note o some = refl
still_some false note o some = some

pub knows_more : (rows : List Row) (k : ℕ) (r : Row) (old new : List Row) → k < length rows → r ≡ get_or rows k r → Knows old rows k
    → ((other : Body) → note_of new other ≡ cond (same_body r.0 other) (Some r.1) (note_of old other)) → Knows new rows (k + 1)
knows_more rows k r old new within is knows after = record {
  told = λ body note e. elim (same_body r.0 body) as (λ b. same_body r.0 body ≡ b → cond b (Some r.1) (note_of old body) ≡ Some note → Contains rows (body, note)) [
    | true ↦ λ same told.
        let at : r.0 ≡ body = same_is r.0 body same in
        let noted : r.1 ≡ note = let e' : ◌≡◌ {A = Option Note} (Some r.1) (Some note) = told in cc in
        let row : r ≡ (body, note) = λ j. (at j, noted j) in
        subst (λ (q : Row). Contains rows q) (sym is ∙ row) (Contains-get_or rows k r within)
    | false ↦ λ same told. knows.told body note told
  ] refl (sym (after body) ∙ e);
  noted = λ place d less. elim (cases_order place k) [
    | inl same ↦
        let row : get_or rows place d ≡ r = ap (λ (n : ℕ). get_or rows n d) same ∙ get_or_default rows k d r within ∙ sym is in
        ap (λ (q : Row). is_some (note_of new q.0)) row ∙ ap is_some (after r.0 ∙ ap (λ b. cond b (Some r.1) (note_of old r.0)) (itself r.0))
    | inr (inl lt) ↦ ap is_some (after (get_or rows place d).0) ∙ still_some (same_body r.0 (get_or rows place d).0) r.1 (note_of old (get_or rows place d).0) (knows.noted place d lt)
    | inr (inr gt) ↦ absurd (omega arith)
  ];
}

-- ---- the rows of items

module _ (old : List Row) (fresh : Fresh) where
  -- an item of another number says nothing of a body
  text_skips : (i : Item) (t : List Item) (body : Body) → i.number ≢ body.origin → text_of (i ∷ t) body ≡ text_of t body
  text_skips i t body other = rw (unequal i.number body.origin other) refl

  notice_skips : (i : Item) (t : List Item) (body : Body) → i.number ≢ body.origin → notice_text_of (i ∷ t) body ≡ notice_text_of t body
  notice_skips i t body other = rw (unequal i.number body.origin other) refl

  abbrev by_texts : Body → Option (List ℕ) → Option (List ℕ) → Option Note
  by_texts body told in_memory =
      option_and_then (λ (text : List ℕ). option_or (note_of old body) (option_or (note_of fresh.shelf.notes body) (option_map (notice_note fresh.place) in_memory))) told

  -- the note that is due where an item brings the text
  abbrev due : List Item → Body → Option Note
  due t body = by_texts body (text_of t body) (notice_text_of t body)

  renoted_skips : (i : Item) (t : List Item) (body : Body) → i.number ≢ body.origin → due (i ∷ t) body ≡ due t body
  renoted_skips i t body other = λ j. by_texts body (text_skips i t body other j) (notice_skips i t body other j)

  rows_elsewhere : (number : ℕ) (t : List Item) → AllByRecursion (λ (j : Item). number ≢ j.number) t → AllByRecursion (λ (r : Row). number ≢ r.0.origin) (rows_by old fresh t)
  rows_elsewhere number [] others = tt
  rows_elsewhere number (j ∷ t) others = there (text_in j.deed) (rows_elsewhere number t others.1)
    where
      noted : (p : Option Note) → AllByRecursion (λ (r : Row). number ≢ r.0.origin) (rows_by old fresh t)
          → AllByRecursion (λ (r : Row). number ≢ r.0.origin) (cons_option (option_map (λ (note : Note). (body_of j, note)) p) (rows_by old fresh t))
      noted None rest = rest
      noted (Some note) rest = (others.0, rest)

      there : (o : Option (List ℕ)) → AllByRecursion (λ (r : Row). number ≢ r.0.origin) (rows_by old fresh t)
          → AllByRecursion (λ (r : Row). number ≢ r.0.origin) (cons_option (option_and_then (λ (text : List ℕ). option_map (λ (note : Note). (body_of j, note)) (note_by old fresh j text)) o) (rows_by old fresh t))
      there None rest = rest
      there (Some text) rest = noted (note_by old fresh j text) rest

  -- whether a row tells the note that is due, of its text's length
  abbrev IsRight : List Item → Row → Type 0
  IsRight t r = (due t r.0 ≡ Some r.1) × (option_map length (text_of t r.0) ≡ Some r.1.length)

  rows_stay : (i : Item) (t : List Item) (rs : List Row) → AllByRecursion (λ (r : Row). i.number ≢ r.0.origin) rs → AllByRecursion (IsRight t) rs → AllByRecursion (IsRight (i ∷ t)) rs
  rows_stay i t [] others right = tt
  rows_stay i t (r ∷ rs) others right =
      ((renoted_skips i t r.0 others.0 ∙ right.0.0, ap (option_map length) (text_skips i t r.0 others.0) ∙ right.0.1), rows_stay i t rs others.1 right.1)

  own_text : (same : Bool) (o rest : Option (List ℕ)) (text : List ℕ) → same ≡ true → o ≡ Some text → cond (same && is_some o) o rest ≡ Some text
  own_text true o rest text e is = subst (λ (p : Option (List ℕ)). cond (true && is_some p) p rest ≡ Some text) (sym is) refl
  own_text false o rest text e is = absurd (let wrong : false ≡ true = e in cc)

  text_here : (i : Item) (t : List Item) (text : List ℕ) → text_in i.deed ≡ Some text → text_of (i ∷ t) (body_of i) ≡ Some text
  text_here i t text brought =
      through (λ (k : Item). text_in k.deed) (brings (body_of i) i) i (find (brings (body_of i)) t)
      ∙ own_text (same_body (body_of i) (body_of i)) (text_in i.deed) (text_of t (body_of i)) text (itself (body_of i)) brought

  -- of a notice it is in memory
  notice_here : (i : Item) (t : List Item) (text : List ℕ) → text_in i.deed ≡ Some text
      → option_map (notice_note fresh.place) (notice_text_of (i ∷ t) (body_of i)) ≡ cond (is_notice i.deed) (Some (notice_note fresh.place text)) None
  notice_here i t text brought =
      let number : (i.number == i.number) ≡ true = grind (arith, nat_tests) in
      let rev : (i.rev == i.rev) ≡ true = grind (arith, nat_tests) in
      ap (λ (b : Bool). option_map (notice_note fresh.place) (option_and_then (notice_text_by_rev (body_of i)) (cond b (Some i) (item_of t i.number)))) number
      ∙ ap (λ (b : Bool). option_map (notice_note fresh.place) (cond (is_notice i.deed) (cond b (text_in i.deed) None) None)) rev
      ∙ ap (λ (o : Option (List ℕ)). option_map (notice_note fresh.place) (cond (is_notice i.deed) o None)) brought
      ∙ one_of (is_notice i.deed)
    where
      one_of : (b : Bool) → option_map (notice_note fresh.place) (cond b (Some text) None) ≡ cond b (Some (notice_note fresh.place text)) None
      one_of true = refl
      one_of false = refl

  renoted_here : (i : Item) (t : List Item) (text : List ℕ) → text_in i.deed ≡ Some text → due (i ∷ t) (body_of i) ≡ note_by old fresh i text
  renoted_here i t text brought =
      ap (λ (o : Option (List ℕ)). by_texts (body_of i) o (notice_text_of (i ∷ t) (body_of i))) (text_here i t text brought)
      ∙ ap (λ (o : Option Note). option_or (note_of old (body_of i)) (option_or (note_of fresh.shelf.notes (body_of i)) o)) (notice_here i t text brought)

  -- the note of an item's text that has one
  noted_row : (i : Item) (text : List ℕ) → text_in i.deed ≡ Some text → IsNotedBy old fresh i → (note : Note) × (note_by old fresh i text ≡ Some note) × (noted_by old fresh i ≡ Some (body_of i, note)) × (note.length ≡ length text)
  noted_row i text brought noted = by (note_by old fresh i text) refl
    where
      row_is : noted_by old fresh i ≡ option_map (λ (note : Note). (body_of i, note)) (note_by old fresh i text)
      row_is = ap (option_and_then (λ (s : List ℕ). option_map (λ (note : Note). (body_of i, note)) (note_by old fresh i s))) brought

      by : (p : Option Note) → note_by old fresh i text ≡ p → (note : Note) × (note_by old fresh i text ≡ Some note) × (noted_by old fresh i ≡ Some (body_of i, note)) × (note.length ≡ length text)
      by None e =
          absurd (let wrong : ◌≡◌ {A = Option ℕ} None (Some (length text)) = sym (ap (λ (p : Option Note). option_map (λ (row : Row). row.1.length) (option_map (λ (note : Note). (body_of i, note)) p)) e) ∙ sym (ap (option_map (λ (row : Row). row.1.length)) row_is) ∙ noted ∙ ap (option_map length) brought in cc)
      by (Some note) e =
          let is : noted_by old fresh i ≡ Some (body_of i, note) = row_is ∙ ap (option_map (λ (n : Note). (body_of i, n))) e in
          let long : ◌≡◌ {A = Option ℕ} (Some note.length) (Some (length text)) = sym (ap (option_map (λ (row : Row). row.1.length)) is) ∙ noted ∙ ap (option_map length) brought in
          (note, e, is, let size : note.length ≡ length text = cc in size)

  own_row : (i : Item) (t : List Item) (o : Option (List ℕ)) → text_in i.deed ≡ o → IsNotedBy old fresh i → AllByRecursion (IsRight (i ∷ t)) (rows_by old fresh t)
      → AllByRecursion (IsRight (i ∷ t)) (cons_option (noted_by old fresh i) (rows_by old fresh t))
  own_row i t None brought noted rest =
      subst (λ (q : Option Row). AllByRecursion (IsRight (i ∷ t)) (cons_option q (rows_by old fresh t)))
      (sym (ap (option_and_then (λ (text : List ℕ). option_map (λ (note : Note). (body_of i, note)) (note_by old fresh i text))) brought)) rest
  own_row i t (Some text) brought noted rest =
      let row = noted_row i text brought noted in
      let size : option_map length (text_of (i ∷ t) (body_of i)) ≡ Some row.0.length = ap (option_map length) (text_here i t text brought) ∙ ap Some (sym row.3) in
      subst (λ (q : Option Row). AllByRecursion (IsRight (i ∷ t)) (cons_option q (rows_by old fresh t))) (sym row.2)
      ((renoted_here i t text brought ∙ row.1, size), rest)

  right_rows : (t : List Item) → NumbersApart t → AllByRecursion (IsNotedBy old fresh) t → AllByRecursion (IsRight t) (rows_by old fresh t)
  right_rows [] apart noted = tt
  right_rows (i ∷ t) apart noted =
      own_row i t (text_in i.deed) refl noted.0 (rows_stay i t (rows_by old fresh t) (rows_elsewhere i.number t apart.0) (right_rows t apart.1 noted.1))

  later : (o : Option Row) (rs : List Row) (r : Row) → Contains rs r → Contains (cons_option o rs) r
  later None rs r there = there
  later (Some q) rs r there = Contains-append_right (q ∷ []) rs r there

  -- each body that has a text has a row
  text_row : (t : List Item) (body : Body) (text : List ℕ) → AllByRecursion (IsNotedBy old fresh) t → text_of t body ≡ Some text → (note : Note) × Contains (rows_by old fresh t) (body, note)
  text_row [] body text noted e = absurd (let wrong : ◌≡◌ {A = Option (List ℕ)} None (Some text) = e in cc)
  text_row (i ∷ t) body text noted e =
      elim (brings body i) as (λ b. brings body i ≡ b → cond b (text_in i.deed) (text_of t body) ≡ Some text → (note : Note) × Contains (cons_option (noted_by old fresh i) (rows_by old fresh t)) (body, note)) [
        | true ↦ λ own told.
            let is : body_of i ≡ body = same_is (body_of i) body (first_so (same_body (body_of i) body) (is_some (text_in i.deed)) own) in
            let row = noted_row i text told noted.0 in (
              row.0,
              subst (λ (q : Option Row). Contains (cons_option q (rows_by old fresh t)) (body, row.0)) (sym row.2)
                  (subst (λ (b : Body). Contains ((body_of i, row.0) ∷ rows_by old fresh t) (b, row.0)) is (Contains-get_or ((body_of i, row.0) ∷ rows_by old fresh t) 0 (body_of i, row.0) (omega arith))),
            )
        | false ↦ λ own told. let row = text_row t body text noted.1 told in (row.0, later (noted_by old fresh i) (rows_by old fresh t) (body, row.0) row.1)
      ] refl (sym (through (λ (k : Item). text_in k.deed) (brings body i) i (find (brings body) t)) ∙ e)

  -- ---- and those that can come back

  some_of : {A : Type 0} (o : Option A) → is_some o ≡ true → (x : A) × (o ≡ Some x)
  some_of None some = absurd (let wrong : false ≡ true = some in cc)
  some_of (Some x) some = (x, refl)

  had_first : (i : Item) (text : List ℕ) (note : Note) → note_of old (body_of i) ≡ Some note → note_by old fresh i text ≡ Some note
  had_first i text note had = ap (λ (o : Option Note). option_or o (option_or (note_of fresh.shelf.notes (body_of i)) (cond (is_notice i.deed) (Some (notice_note fresh.place text)) None))) had

  -- a note that was there has the length of the text
  had_length : (t : List Item) (body : Body) (text : List ℕ) (note : Note) → AllByRecursion (IsNotedBy old fresh) t → text_of t body ≡ Some text → note_of old body ≡ Some note → note.length ≡ length text
  had_length [] body text note noted e had = absurd (let wrong : ◌≡◌ {A = Option (List ℕ)} None (Some text) = e in cc)
  had_length (i ∷ t) body text note noted e had =
      elim (brings body i) as (λ b. brings body i ≡ b → cond b (text_in i.deed) (text_of t body) ≡ Some text → note.length ≡ length text) [
        | true ↦ λ own told.
            let is : body_of i ≡ body = same_is (body_of i) body (first_so (same_body (body_of i) body) (is_some (text_in i.deed)) own) in
            let row = noted_row i text told noted.0 in
            let same : ◌≡◌ {A = Option Note} (Some note) (Some row.0) = sym (had_first i text note (ap (note_of old) is ∙ had)) ∙ row.1 in
            let one : note ≡ row.0 = cc in
            ap (λ (n : Note). n.length) one ∙ row.3
        | false ↦ λ own told. had_length t body text note noted.1 told had
      ] refl (sym (through (λ (k : Item). text_in k.deed) (brings body i) i (find (brings body) t)) ∙ e)

  -- the item of a body's number is among the first ones, where they have its text
  item_before : (t later : List Item) (body : Body) → is_some (text_of t body) ≡ true → item_of (t ++ later) body.origin ≡ item_of t body.origin
  item_before [] later body some = absurd (let wrong : false ≡ true = some in cc)
  item_before (i ∷ t) later body some =
      elim (i.number == body.origin) as (λ b. is_some (cond (b && (i.rev == body.rev) && is_some (text_in i.deed)) (text_in i.deed) (text_of t body)) ≡ true → cond b (Some i) (item_of (t ++ later) body.origin) ≡ cond b (Some i) (item_of t body.origin)) [
        | true ↦ λ has. refl
        | false ↦ λ has. item_before t later body has
      ] (sym (ap is_some (through (λ (k : Item). text_in k.deed) (brings body i) i (find (brings body) t))) ∙ some)

  -- a row that is right is so with more items behind
  right_before : (t later : List Item) (r : Row) → IsRight t r → IsRight (t ++ later) r
  right_before t later r right =
      let told = some_text (text_of t r.0) r.1.length right.1 in
      let text : text_of (t ++ later) r.0 ≡ text_of t r.0 = text_joined t later r.0 ∙ ap (λ (b : Bool). cond b (text_of t r.0) (text_of later r.0)) told in
      let notice : notice_text_of (t ++ later) r.0 ≡ notice_text_of t r.0 = ap (option_and_then (notice_text_by_rev r.0)) (item_before t later r.0 told) in
      ((λ j. by_texts r.0 (text j) (notice j)) ∙ right.0, ap (option_map length) text ∙ right.1)
    where
      some_text : (o : Option (List ℕ)) (n : ℕ) → option_map length o ≡ Some n → is_some o ≡ true
      some_text None n e = absurd (let wrong : ◌≡◌ {A = Option ℕ} None (Some n) = e in cc)
      some_text (Some text) n e = refl

  -- the row of an item whose text had a note
  right_had : (t : List Item) (i : Item) (text : List ℕ) (note : Note) → AllByRecursion (IsNotedBy old fresh) t → note_by old fresh i text ≡ Some note → is_some (note_of old (body_of i)) ≡ true → has_text t (body_of i) ≡ true
      → IsRight t (body_of i, note)
  right_had t i text note noted by some has =
      let had = some_of (note_of old (body_of i)) some in
      let told = some_of (text_of t (body_of i)) has in
      let same : ◌≡◌ {A = Option Note} (Some had.0) (Some note) = sym (had_first i text had.0 had.1) ∙ by in
      let one : had.0 ≡ note = cc in
      let mine : note_of old (body_of i) ≡ Some note = had.1 ∙ ap Some one in (
        ap (λ (o : Option (List ℕ)). by_texts (body_of i) o (notice_text_of t (body_of i))) told.1
            ∙ ap (λ (o : Option Note). option_or o (option_or (note_of fresh.shelf.notes (body_of i)) (option_map (notice_note fresh.place) (notice_text_of t (body_of i))))) mine,
        ap (option_map length) told.1 ∙ ap Some (sym (had_length t (body_of i) told.0 note noted told.1 mine)),
      )

  right_behind : (t : List Item) → AllByRecursion (IsNotedBy old fresh) t → (later : List Item) → AllByRecursion (IsNotedBy old fresh) later → AllByRecursion (IsNotedIn old) later
      → AllByRecursion (λ (i : Item). is_some (text_in i.deed) ≡ true → has_text t (body_of i) ≡ true) later → AllByRecursion (IsRight t) (rows_by old fresh later)
  right_behind t all [] noted had own = tt
  right_behind t all (i ∷ later) noted had own = by (text_in i.deed) refl (right_behind t all later noted.1 had.1 own.1)
    where
      by : (o : Option (List ℕ)) → text_in i.deed ≡ o → AllByRecursion (IsRight t) (rows_by old fresh later) → AllByRecursion (IsRight t) (cons_option (noted_by old fresh i) (rows_by old fresh later))
      by None brought rest =
          subst (λ (q : Option Row). AllByRecursion (IsRight t) (cons_option q (rows_by old fresh later)))
          (sym (ap (option_and_then (λ (text : List ℕ). option_map (λ (note : Note). (body_of i, note)) (note_by old fresh i text))) brought)) rest
      by (Some text) brought rest =
          let row = noted_row i text brought noted.0 in
          let some : is_some (text_in i.deed) ≡ true = ap is_some brought in
          subst (λ (q : Option Row). AllByRecursion (IsRight t) (cons_option q (rows_by old fresh later))) (sym row.2)
          (right_had t i text row.0 all row.1 (had.0 some) (own.0 some), rest)

  -- the rows of all
  right_all : (t later : List Item) → NumbersApart t → AllByRecursion (IsNotedBy old fresh) (t ++ later) → AllByRecursion (IsNotedIn old) later → AllByRecursion (IsRight (t ++ later)) (rows_by old fresh (t ++ later))
  right_all t later apart noted had =
      subst (AllByRecursion (IsRight (t ++ later))) (sym (filter_map-append (noted_by old fresh) t later))
      (all_joined (IsRight (t ++ later)) (rows_by old fresh t) (rows_by old fresh later)
      (all_weaker (IsRight t) (IsRight (t ++ later)) (right_before t later) (rows_by old fresh t) (right_rows t apart (all_first (IsNotedBy old fresh) t later noted)))
      (right_behind (t ++ later) noted later (all_last (IsNotedBy old fresh) t later noted) had
      (all_last (λ (i : Item). is_some (text_in i.deed) ≡ true → has_text (t ++ later) (body_of i) ≡ true) t later (own_texts (t ++ later)))))

  -- ---- and of the texts that come with a base

  module _ (texts : BaseTexts) where
    -- whether a row tells the note that is due, of its text's length, where texts come with a base
    abbrev IsDue : List Item → Row → Type 0
    IsDue t r = (renoted old fresh texts t r.0 ≡ Some r.1) × (option_map length (text_with texts t r.0) ≡ Some r.1.length)

    own_with : (o p : Option (List ℕ)) (n : ℕ) → option_map length o ≡ Some n → option_or o p ≡ o
    own_with None p n e = absurd (let wrong : ◌≡◌ {A = Option ℕ} None (Some n) = e in cc)
    own_with (Some text) p n e = refl

    due_right : (t : List Item) (r : Row) → IsRight t r → IsDue t r
    due_right t r right =
        let same : text_with texts t r.0 ≡ text_of t r.0 = own_with (text_of t r.0) (text_before texts r.0) r.1.length right.1 in
        (ap (λ (o : Option (List ℕ)). by_texts r.0 o (notice_text_of t r.0)) same ∙ right.0, ap (option_map length) same ∙ right.1)

    -- the size of a text that comes with the base was noted
    before_size : (some : BaseTexts) (body : Body) (text : List ℕ) → AllByRecursion (IsNotedBefore old) some → text_before some body ≡ Some text → size_of old body ≡ Some (length text)
    before_size [] body text noted e = absurd (let wrong : ◌≡◌ {A = Option (List ℕ)} None (Some text) = e in cc)
    before_size (r ∷ some) body text noted e =
        elim (eq_by_cmp body_cmp body r.0) as (λ b. eq_by_cmp body_cmp body r.0 ≡ b → cond b (Some r.1) (text_before some body) ≡ Some text → size_of old body ≡ Some (length text)) [
          | true ↦ λ here is. let same : r.1 ≡ text = cc in ap (size_of old) (tied body r.0 here) ∙ noted.0 ∙ ap (λ (x : List ℕ). Some (length x)) same
          | false ↦ λ other is. before_size some body text noted.1 is
        ] refl e

    -- it has one
    each_known : (some : BaseTexts) → AllByRecursion (λ (r : Body × List ℕ). is_some (text_before some r.0) ≡ true) some
    each_known [] = tt
    each_known (r ∷ some) = (
      ap (λ (b : Bool). is_some (cond b (Some r.1) (text_before some r.0))) (tied_same r.0),
      all_weaker (λ (q : Body × List ℕ). is_some (text_before some q.0) ≡ true) (λ (q : Body × List ℕ). is_some (text_before (r ∷ some) q.0) ≡ true)
          (λ q there. one_or (eq_by_cmp body_cmp q.0 r.0) (text_before some q.0) there) some (each_known some),
    )
      where
        tied_same : (body : Body) → eq_by_cmp body_cmp body body ≡ true
        tied_same body = ap is_eq (tied_itself bodies_total body)

        one_or : (b : Bool) (o : Option (List ℕ)) → is_some o ≡ true → is_some (cond b (Some r.1) o) ≡ true
        one_or true o e = refl
        one_or false o e = e

    -- the row of a body whose text comes with the base, which had a note
    due_before : (t : List Item) (body : Body) (note : Note) (size : ℕ) → AllByRecursion (IsNotedBy old fresh) t → AllByRecursion (IsNotedBefore old) texts → note_of old body ≡ Some note → note.length ≡ size
        → is_some (text_before texts body) ≡ true → IsDue t (body, note)
    due_before t body note size noted before had long there = by (text_of t body) (text_before texts body) refl refl there
      where
        first : (o : Option (List ℕ)) → is_some o ≡ true → by_texts body o (notice_text_of t body) ≡ Some note
        first None e = absurd (let wrong : false ≡ true = e in cc)
        first (Some text) e = ap (λ (o : Option Note). option_or o (option_or (note_of fresh.shelf.notes body) (option_map (notice_note fresh.place) (notice_text_of t body)))) had

        noted_size : (text : List ℕ) → size_of old body ≡ Some (length text) → ◌≡◌ {A = Option ℕ} (Some (length text)) (Some note.length)
        noted_size text e = sym e ∙ ap (option_map (λ (n : Note). n.length)) had

        by : (o p : Option (List ℕ)) → text_of t body ≡ o → text_before texts body ≡ p → is_some p ≡ true → (by_texts body (option_or o p) (notice_text_of t body) ≡ Some note) × (option_map length (option_or o p) ≡ Some note.length)
        by (Some text) p e f some = (first (Some text) refl, ap Some (sym (had_length t body text note noted e had)))
        by None (Some text) e f some = (first (Some text) refl, noted_size text (before_size texts body text before f))
        by None None e f some = absurd (let wrong : false ≡ true = some in cc)

    old_row : (t : List Item) (r : Body × List ℕ) (rest : List Row) → AllByRecursion (IsNotedBy old fresh) t → AllByRecursion (IsNotedBefore old) texts → IsNotedBefore old r → is_some (text_before texts r.0) ≡ true
        → AllByRecursion (IsDue t) rest → AllByRecursion (IsDue t) (cons_option (option_map (λ (note : Note). (r.0, note)) (note_of old r.0)) rest)
    old_row t r rest noted before size there right = by (note_of old r.0) refl
      where
        by : (o : Option Note) → note_of old r.0 ≡ o → AllByRecursion (IsDue t) (cons_option (option_map (λ (note : Note). (r.0, note)) o) rest)
        by None e = right
        by (Some note) e = (due_before t r.0 note note.length noted before e refl there, right)

    old_rows : (t : List Item) → AllByRecursion (IsNotedBy old fresh) t → AllByRecursion (IsNotedBefore old) texts → (some : BaseTexts) → AllByRecursion (IsNotedBefore old) some
        → AllByRecursion (λ (r : Body × List ℕ). is_some (text_before texts r.0) ≡ true) some → AllByRecursion (IsDue t) (rows_before old some)
    old_rows t noted before [] sizes known = tt
    old_rows t noted before (r ∷ some) sizes known = old_row t r (rows_before old some) noted before sizes.0 known.0 (old_rows t noted before some sizes.1 known.1)

    -- each body that has a text by the base has a row
    before_row : (some : BaseTexts) (body : Body) (text : List ℕ) → AllByRecursion (IsNotedBefore old) some → text_before some body ≡ Some text → (note : Note) × Contains (rows_before old some) (body, note)
    before_row [] body text noted e = absurd (let wrong : ◌≡◌ {A = Option (List ℕ)} None (Some text) = e in cc)
    before_row (r ∷ some) body text noted e =
        elim (eq_by_cmp body_cmp body r.0) as (λ b. eq_by_cmp body_cmp body r.0 ≡ b → cond b (Some r.1) (text_before some body) ≡ Some text
        → (note : Note) × Contains (cons_option (option_map (λ (note : Note). (r.0, note)) (note_of old r.0)) (rows_before old some)) (body, note)) [
          | true ↦ λ here is. mine (tied body r.0 here) (note_of old r.0) noted.0
          | false ↦ λ other is. let row = before_row some body text noted.1 is in (row.0, later (option_map (λ (note : Note). (r.0, note)) (note_of old r.0)) (rows_before old some) (body, row.0) row.1)
        ] refl e
      where
        mine : body ≡ r.0 → (o : Option Note) → option_map (λ (n : Note). n.length) o ≡ Some (length r.1) → (note : Note) × Contains (cons_option (option_map (λ (note : Note). (r.0, note)) o) (rows_before old some)) (body, note)
        mine is None e = absurd (let wrong : ◌≡◌ {A = Option ℕ} None (Some (length r.1)) = e in cc)
        mine is (Some note) e = (note, subst (λ (b : Body). Contains ((r.0, note) ∷ rows_before old some) (b, note)) (sym is) (Contains-get_or ((r.0, note) ∷ rows_before old some) 0 (r.0, note) (omega arith)))

    abbrev all_rows : List Item → List Row
    all_rows t = rows_before old texts ++ rows_by old fresh t

    due_all : (t later : List Item) → NumbersApart t → AllByRecursion (IsNotedBy old fresh) (t ++ later) → AllByRecursion (IsNotedBefore old) texts → AllByRecursion (IsNotedIn old) later → AllByRecursion (IsDue (t ++ later)) (all_rows (t ++ later))
    due_all t later apart noted before had =
        all_joined (IsDue (t ++ later)) (rows_before old texts) (rows_by old fresh (t ++ later)) (old_rows (t ++ later) noted before texts before (each_known texts))
        (all_weaker (IsRight (t ++ later)) (IsDue (t ++ later)) (due_right (t ++ later)) (rows_by old fresh (t ++ later)) (right_all t later apart noted had))

    -- in any order they tell the notes that are due
    notes_in_any_order : (t : List Item) (rows : List Row) (notes : List Row) → AllByRecursion (IsDue t) (all_rows t) → AllByRecursion (IsNotedBy old fresh) t → AllByRecursion (IsNotedBefore old) texts → IsPermutation (all_rows t) rows → Knows notes rows (length rows)
        → (body : Body) → (note_of notes body ≡ renoted old fresh texts t body) × (option_map (λ (note : Note). note.length) (note_of notes body) ≡ option_map length (text_with texts t body))
    notes_in_any_order t rows notes rights noted before same knows body = by (note_of notes body) (text_with texts t body) refl refl
      where
        right : All (IsDue t) rows
        right = All-permutation (IsDue t) (all_rows t) rows same (All-from_recursion (IsDue t) (all_rows t) rights)

        from_either : (text : List ℕ) → (text_of t body ≡ Some text) ⊎ ((find (brings body) t ≡ None) × (text_before texts body ≡ Some text)) → (note : Note) × Contains (all_rows t) (body, note)
        from_either text (inl own) = let row = text_row t body text noted own in (row.0, Contains-append_right (rows_before old texts) (rows_by old fresh t) (body, row.0) row.1)
        from_either text (inr came) = let row = before_row texts body text before came.1 in (row.0, Contains-append_left (rows_before old texts) (rows_by old fresh t) (body, row.0) row.1)

        a_row : (text : List ℕ) → text_with texts t body ≡ Some text → (note : Note) × Contains (all_rows t) (body, note)
        a_row text f = from_either text (comes_from texts t body text f)

        by : (o : Option Note) (p : Option (List ℕ)) → note_of notes body ≡ o → text_with texts t body ≡ p
            → (note_of notes body ≡ renoted old fresh texts t body) × (option_map (λ (note : Note). note.length) (note_of notes body) ≡ option_map length (text_with texts t body))
        by (Some note) p e f =
            let row = All-contains (IsDue t) rows (body, note) right (knows.told body note e) in
            (e ∙ sym row.0, ap (option_map (λ (n : Note). n.length)) e ∙ sym row.1)
        by None None e f = (e ∙ sym (ap (λ (o : Option (List ℕ)). by_texts body o (notice_text_of t body)) f), ap (option_map (λ (n : Note). n.length)) e ∙ sym (ap (option_map length) f))
        by None (Some text) e f =
            let there = a_row text f in
            let row = Contains-permutation (all_rows t) rows (body, there.0) same there.1 in
            let some : is_some (note_of notes body) ≡ true = ap (λ (r : Row). is_some (note_of notes r.0)) (sym row.2) ∙ knows.noted row.0 (body, there.0) row.1 in
            absurd (let wrong : false ≡ true = ap is_some (sym e) ∙ some in cc)

    -- a shelf that was made of them
    pub notes_over : {W : Type 0} (r : Result Noted W) (t later : List Item) (rows sorted : List Row) → NumbersApart t → AllByRecursion (IsNotedIn old) later → AllByRecursion (IsNotedBefore old) texts → AllByRecursion (IsNotedBy old fresh) (t ++ later)
        → rows ≡ all_rows (t ++ later) → IsPermutation rows sorted → IfOk r (λ shelf. Knows shelf.notes sorted (length sorted)) → IfOk r (λ shelf. (body : Body) → note_of shelf.notes body ≡ renoted old fresh texts (t ++ later) body)
    notes_over (Ok shelf) t later rows sorted apart had before noted is same knows =
        λ body. (notes_in_any_order (t ++ later) sorted shelf.notes (due_all t later apart noted before had) noted before (subst (λ (rs : List Row). IsPermutation rs sorted) is same) knows body).0
    notes_over (Err why) t later rows sorted apart had before noted is same knows = tt

    -- and the sizes of the texts
    pub sizes_over : {W : Type 0} (r : Result Noted W) (t later : List Item) (rows sorted : List Row) → NumbersApart t → AllByRecursion (IsNotedIn old) later → AllByRecursion (IsNotedBefore old) texts → AllByRecursion (IsNotedBy old fresh) (t ++ later)
        → rows ≡ all_rows (t ++ later) → IsPermutation rows sorted → IfOk r (λ shelf. Knows shelf.notes sorted (length sorted)) → IfOk r (λ shelf. SizesOf shelf.notes texts (t ++ later))
    sizes_over (Ok shelf) t later rows sorted apart had before noted is same knows =
        λ body. (notes_in_any_order (t ++ later) sorted shelf.notes (due_all t later apart noted before had) noted before (subst (λ (rs : List Row). IsPermutation rs sorted) is same) knows body).1
    sizes_over (Err why) t later rows sorted apart had before noted is same knows = tt
