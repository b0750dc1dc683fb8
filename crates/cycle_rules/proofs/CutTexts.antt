-- The texts of a cut: each message has the one that it had, and a cut of a cut is one cut.
use Rattle.std.proofs.Common.{◌≡◌, ◌≢◌, ℕ, ◌+◌, ◌==◌, ◌&&◌, ◌||◌, Bool, true, false, cond, refl, sym, ◌∙◌, ap, subst, List, [], ◌∷◌, ◌++◌, take, drop, find, map, Option, Some, None, is_some, eqb-true, eq-eqb, true≢false, option_and_then}
use Rattle.std.specs.Cmp.{first_so, second_so}
use Rattle.std.specs.FinMap.Entries as rows
use Rattle.std.specs.List.{AllByRecursion, list_all, list_any}
use Rattle.std.specs.Option.{option_or}
use Rattle.std.specs.Ordering.{eq_by_cmp}
use Rattle.std.proofs.lemmas.List.{append-nil, drop-drop, take-append-drop}
use Rattle.std.proofs.lemmas.List.Folds.{find-append}
use Rattle.std.proofs.Math.Seq.{take-add}
use Rattle.verb_core.specs.declared.conf.House.{House}
use Rattle.verb_core.specs.declared.item.Item.{Item}
use Rattle.verb_core.specs.declared.mailbox.Body.{Body}
use Rattle.verb_core.specs.declared.mailbox.BoxId.{BoxId}
use Rattle.verb_core.specs.declared.mailbox.Entry.{Entry}
use Rattle.verb_core.specs.declared.mailbox.Mailbox.{Mailbox}
use Rattle.verb_core.specs.Deeds.{same_body}
use Rattle.verb_core.specs.Items.{IsTimeline, IsWellFormed, NumbersApart, text_in, text_of}
use Rattle.verb_core.specs.Step.{run, step}
use Rattle.verb_core.specs.Store.{IsValid, MailStore}
use Rattle.verb_core.proofs.Joins.{run_house, run_joined}
use Rattle.repair_desk.proofs.Everywhere.{rest_of, taken, weaker}
use Rattle.store_kept.specs.Bases.{HasBase}
use Rattle.store_kept.specs.Founding.{entries_of, is_of_body, names_body}
use Rattle.store_kept.specs.Kept.{BaseTexts, IsRun, Kept, body_cmp, no_marks}
use Rattle.store_kept.specs.Texts.{all_bodies, text_before, text_kept}
use Rattle.store_kept.proofs.Bodies.{bodies_total, same_is, tied}
use Rattle.store_kept.proofs.Coming.{brings, found_passes, none_brings, text_found}
use Rattle.store_kept.proofs.Known.{MailIsKept, StepsKeep, body_of, run_known}
use Rattle.store_kept.proofs.Named.{all_of, any_body, of_all}
use Rattle.cycle_rules.specs.Cutting.{base_at, bodies_of, cut, texts_by, with_text_of}
use Rattle.cycle_rules.proofs.Coming.{apart_from}

-- ---- the texts of bodies

same_either : (x : Bool) (o : Option (List ℕ)) → cond x o o ≡ o
same_either true o = refl
same_either false o = refl

or_second : (x y : Bool) → y ≡ true → (x || y) ≡ true
or_second true y e = refl
or_second false y e = e

or_first : (x y : Bool) → (x || y) ≡ true → y ≡ false → x ≡ true
or_first true y e f = refl
or_first false y e f = absurd (true≢false (sym e ∙ f))

-- each of them has the text that is told, and no other has one
texts_are : (told : Body → Option (List ℕ)) (bodies : List Body) (body : Body) → text_before (texts_by told bodies) body ≡ cond (list_any (same_body body) bodies) (told body) None
texts_are told [] body = refl
texts_are told (b ∷ bodies) body = by (told b) refl (texts_are told bodies body)
  where
    at : same_body body b ≡ eq_by_cmp body_cmp body b
    at = same_is body b

    none : told b ≡ None → text_before (texts_by told bodies) body ≡ cond (list_any (same_body body) bodies) (told body) None
        → text_before (texts_by told bodies) body ≡ cond (same_body body b || list_any (same_body body) bodies) (told body) None
    none e rest =
        elim (same_body body b) as (λ x. same_body body b ≡ x → text_before (texts_by told bodies) body ≡ cond (x || list_any (same_body body) bodies) (told body) None) [
          | true ↦ λ here.
              let is : told body ≡ None = ap told (tied body b (sym at ∙ here)) ∙ e in
              rest ∙ ap (cond (list_any (same_body body) bodies) (told body)) (sym is) ∙ same_either (list_any (same_body body) bodies) (told body)
          | false ↦ λ other. rest
        ] refl

    some : (text : List ℕ) → told b ≡ Some text → text_before (texts_by told bodies) body ≡ cond (list_any (same_body body) bodies) (told body) None
        → rows.find body_cmp body (rows.put body_cmp b text (texts_by told bodies)) ≡ cond (same_body body b || list_any (same_body body) bodies) (told body) None
    some text e rest =
        rows.find-put body_cmp bodies_total body b text (texts_by told bodies)
        ∙ elim (same_body body b) as (λ x. same_body body b ≡ x → cond (eq_by_cmp body_cmp body b) (Some text) (text_before (texts_by told bodies) body) ≡ cond (x || list_any (same_body body) bodies) (told body) None) [
          | true ↦ λ here. ap (λ (x : Bool). cond x (Some text) (text_before (texts_by told bodies) body)) (sym at ∙ here) ∙ sym e ∙ ap told (sym (tied body b (sym at ∙ here)))
          | false ↦ λ other. ap (λ (x : Bool). cond x (Some text) (text_before (texts_by told bodies) body)) (sym at ∙ other) ∙ rest
        ] refl

    by : (o : Option (List ℕ)) → told b ≡ o → text_before (texts_by told bodies) body ≡ cond (list_any (same_body body) bodies) (told body) None
        → text_before (with_text_of b o (texts_by told bodies)) body ≡ cond (same_body body b || list_any (same_body body) bodies) (told body) None
    by None e rest = none e rest
    by (Some text) e rest = some text e rest

-- texts that are told alike
texts_alike : (one other : Body → Option (List ℕ)) (bodies : List Body) → ((body : Body) → list_any (same_body body) bodies ≡ true → one body ≡ other body) → texts_by one bodies ≡ texts_by other bodies
texts_alike one other [] alike = refl
texts_alike one other (b ∷ bodies) alike =
    let rest = texts_alike one other bodies (λ body there. alike body (or_second (same_body body b) (list_any (same_body body) bodies) there)) in
    let here = alike b (rw (eq-eqb b.origin b.origin refl, eq-eqb b.rev b.rev refl) refl) in
    λ j. with_text_of b (here j) (rest j)

-- ---- a message behind a cut

-- each item's own body is brought by one of them
own_brought : (t : List Item) → AllByRecursion (λ (i : Item). is_some (text_in i.deed) ≡ true → is_some (find (brings (body_of i)) t) ≡ true) t
own_brought [] = tt
own_brought (i ∷ t) = (
  (λ some. rw (eq-eqb i.number i.number refl, eq-eqb i.rev i.rev refl, some) refl),
  weaker (λ (j : Item). is_some (text_in j.deed) ≡ true → is_some (find (brings (body_of j)) t) ≡ true) (λ (j : Item). is_some (text_in j.deed) ≡ true → is_some (find (brings (body_of j)) (i ∷ t)) ≡ true)
      (λ j own some. more (brings (body_of j) i) (find (brings (body_of j)) t) (own some)) t (own_brought t),
)
  where
    more : (x : Bool) (o : Option Item) → is_some o ≡ true → is_some (cond x (Some i) o) ≡ true
    more true o e = refl
    more false o e = e

run_valid : StepsKeep → (s : MailStore) (t : List Item) → IsValid s → AllByRecursion (IsWellFormed s.house) t → IsValid (run s t)
run_valid stays s [] valid formed = valid
run_valid stays s (i ∷ t) valid formed = run_valid stays (step s i).0 t (stays s i valid formed.0) formed.1

module _ (keeps : MailIsKept) (stays : StepsKeep) (s : Kept) (place : ℕ) (base : HasBase s) (timeline : IsTimeline s.house s.timeline) where
  abbrev front : List Item
  front = take place s.timeline

  abbrev behind : List Item
  behind = drop place s.timeline

  abbrev led : MailStore
  led = base_at s place

  split : front ++ behind ≡ s.timeline
  split = take-append-drop place s.timeline

  formed : AllByRecursion (IsWellFormed s.base.house) s.timeline
  formed = base.stands.timeline.formed

  led_valid : IsValid led
  led_valid = run_valid stays s.base front base.stands.valid (taken (IsWellFormed s.base.house) place s.timeline formed)

  -- a body of a later store is one of the base's, or one of the later items brings it
  abbrev known : List Item → Body → Bool
  known more body = names_body led.boxes body || is_some (find (brings body) more)

  later_known : (more rest : List Item) → behind ≡ more ++ rest → all_bodies (known more) (run led more).boxes ≡ true
  later_known more rest is =
      let later : AllByRecursion (IsWellFormed s.base.house) behind = rest_of (IsWellFormed s.base.house) place s.timeline formed in
      let first : AllByRecursion (IsWellFormed s.base.house) more = first_part more rest (subst (AllByRecursion (IsWellFormed s.base.house)) is later) in
      run_known keeps stays (known more) led more led_valid (subst (λ (h : House). AllByRecursion (IsWellFormed h) more) (sym (run_house s.base front)) first)
      (weaker (λ (i : Item). is_some (text_in i.deed) ≡ true → is_some (find (brings (body_of i)) more) ≡ true) (λ (i : Item). is_some (text_in i.deed) ≡ true → known more (body_of i) ≡ true)
      (λ i own some. or_second (names_body led.boxes (body_of i)) (is_some (find (brings (body_of i)) more)) (own some)) more (own_brought more))
      (all_of (known more) led.boxes (λ body there. rw there refl))
    where
      first_part : (xs ys : List Item) → AllByRecursion (IsWellFormed s.base.house) (xs ++ ys) → AllByRecursion (IsWellFormed s.base.house) xs
      first_part [] ys a = tt
      first_part (x ∷ xs) ys a = (a.0, first_part xs ys a.1)

  none_more : (body : Body) (more rest : List Item) → behind ≡ more ++ rest → find (brings body) behind ≡ None → find (brings body) more ≡ None
  none_more body more rest is none = by (find (brings body) more) (sym (ap (find (brings body)) is ∙ find-append (brings body) more rest) ∙ none)
    where
      by : (o : Option Item) → option_or o (find (brings body) rest) ≡ None → o ≡ None
      by None e = refl
      by (Some i) e = cc

  -- the first items bring none that a later one brings
  front_none : (body : Body) (i : Item) → find (brings body) behind ≡ Some i → find (brings body) front ≡ None
  front_none body i there =
      let passes : brings body i ≡ true = found_passes (brings body) behind i there in
      let number : i.number ≡ body.origin = eqb-true i.number body.origin (first_so _ _ (first_so _ _ passes)) in
      none_brings body front
      (weaker (λ (j : Item). j.number ≢ i.number) (λ (j : Item). body.origin ≢ j.number) (λ j differs same. differs (sym same ∙ sym number)) front
      (found_in (λ (k : Item). AllByRecursion (λ (j : Item). j.number ≢ k.number) front) behind i (apart_from front behind (subst NumbersApart (sym split) timeline.apart)) there))
    where
      found_in : (P : Item → Type 0) (t : List Item) (i : Item) → AllByRecursion P t → find (brings body) t ≡ Some i → P i
      found_in P [] i all e = cc
      found_in P (k ∷ t) i all e =
          elim (brings body k) as (λ b. cond b (Some k) (find (brings body) t) ≡ Some i → P i) [
            | true ↦ λ is. let same : k ≡ i = cc in subst P same all.0
            | false ↦ λ is. found_in P t i all.1 is
          ] e

  abbrev named : Body → Bool
  named body = list_any (same_body body) (bodies_of led.boxes)

  abbrev cut_texts : BaseTexts
  cut_texts = texts_by (text_kept s) (bodies_of led.boxes)

  brought : (i : Item) (body : Body) → brings body i ≡ true → (x y : Option (List ℕ)) → option_or (text_in i.deed) x ≡ option_or (text_in i.deed) y
  brought i body here x y = by (text_in i.deed) (second_so ((i.number == body.origin) && (i.rev == body.rev)) (is_some (text_in i.deed)) here)
    where
      by : (o : Option (List ℕ)) → is_some o ≡ true → option_or o x ≡ option_or o y
      by None e = cc
      by (Some text) e = refl

  -- the text of a body of a later store
  pub cut_text : (more rest : List Item) → behind ≡ more ++ rest → (body : Body) → names_body (run led more).boxes body ≡ true → text_kept (cut s place) body ≡ text_kept s body
  cut_text more rest is body there = by (find (brings body) behind) refl
    where
      whole : (o : Option Item) → find (brings body) front ≡ o → find (brings body) s.timeline ≡ option_or o (find (brings body) behind)
      whole o e = ap (find (brings body)) (sym split) ∙ find-append (brings body) front behind ∙ ap (λ (p : Option Item). option_or p (find (brings body) behind)) e

      at_first : names_body led.boxes body ≡ true → named body ≡ true
      at_first e = any_body body (entries_of led.boxes) ∙ e

      one_of : find (brings body) more ≡ None → known more body ≡ true → names_body led.boxes body ≡ true
      one_of none e = or_first (names_body led.boxes body) (is_some (find (brings body) more)) e (ap is_some none)

      by : (o : Option Item) → find (brings body) behind ≡ o → option_or (text_found o) (text_before cut_texts body) ≡ text_kept s body
      by None none =
          texts_are (text_kept s) (bodies_of led.boxes) body
          ∙ ap (λ (b : Bool). cond b (text_kept s body) None) (at_first (one_of (none_more body more rest is none) (of_all (known more) (run led more).boxes (later_known more rest is) body there)))
      by (Some i) here =
          brought i body (found_passes (brings body) behind i here) (text_before cut_texts body) (text_before s.texts body)
          ∙ sym (ap (λ (o : Option Item). option_or (text_found o) (text_before s.texts body)) (whole None (front_none body i here) ∙ here))

  -- of each message in the store
  pub store_text : IsRun s → (body : Body) → names_body s.store.boxes body ≡ true → text_kept (cut s place) body ≡ text_kept s body
  store_text runs body there =
      let store : s.store ≡ run led behind = runs ∙ ap (run s.base) (sym split) ∙ run_joined s.base front behind in
      cut_text behind [] (sym (append-nil behind)) body (subst (λ (store : MailStore). names_body store.boxes body ≡ true) store there)

-- ---- a cut of a cut

pub cut_run : (s : Kept) (place : ℕ) → IsRun s → IsRun (cut s place)
cut_run s place runs = runs ∙ ap (run s.base) (sym (take-append-drop place s.timeline)) ∙ run_joined s.base (take place s.timeline) (drop place s.timeline)

pub cut_again : MailIsKept → StepsKeep → (s : Kept) (first second : ℕ) → HasBase s → IsTimeline s.house s.timeline → cut (cut s first) second ≡ cut s (first + second)
cut_again keeps stays s first second base timeline = λ j. record s {
  base = bases j;
  texts = texts j;
  first = s.next;
  timeline = drop-drop second first s.timeline j;
  marks = no_marks;
  undone = None;
}
  where
    later : List Item
    later = take second (drop first s.timeline)

    bases : run (base_at s first) later ≡ base_at s (first + second)
    bases = sym (ap (run s.base) (take-add first second s.timeline) ∙ run_joined s.base (take first s.timeline) later)

    texts : texts_by (text_kept (cut s first)) (bodies_of (run (base_at s first) later).boxes) ≡ texts_by (text_kept s) (bodies_of (base_at s (first + second)).boxes)
    texts =
        texts_alike (text_kept (cut s first)) (text_kept s) (bodies_of (run (base_at s first) later).boxes)
        (λ body there. cut_text keeps stays s first base timeline later (drop second (drop first s.timeline)) (sym (take-append-drop second (drop first s.timeline))) body (sym (any_body body (entries_of (run (base_at s first) later).boxes)) ∙ there))
        ∙ ap (λ (store : MailStore). texts_by (text_kept s) (bodies_of store.boxes)) bases
