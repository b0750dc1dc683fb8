-- What can come back can do so once an item was performed, and what the items in force tell comes first.
use Rattle.std.proofs.Common.{◌≡◌, ◌≢◌, ℕ, ◌+◌, ◌==◌, Bool, true, false, ◌&&◌, cond, ◌∙◌, ap, sym, arith, find, is_some, List, [], ◌∷◌, ◌++◌, Option, Some, None, option_and_then, refl, eqb-true, inl, inr, subst}
use Rattle.std.specs.Prelude.{◌⊎◌}
use Rattle.std.specs.Cmp.{first_so, second_so}
use Rattle.std.specs.List.{AllByRecursion}
use Rattle.std.specs.Option.{option_or}
use Rattle.std.proofs.lemmas.List.Folds.{find-append}
use Rattle.verb_core.specs.declared.item.Item.{Item}
use Rattle.verb_core.specs.declared.mailbox.Body.{Body}
use Rattle.verb_core.specs.Items.{text_in, text_of}
use Rattle.withdraw.specs.declared.undone.UndoneBehind.{UndoneBehind}
use Rattle.withdraw.proofs.Back.{stays_back, texts_stay}
use Rattle.store_kept.specs.Bases.{HasBase, IsNew}
use Rattle.store_kept.specs.Coming.{ComesIf, HasUndone, TextsComeIf}
use Rattle.store_kept.specs.Kept.{BaseTexts, Kept, Origin, origin_of}
use Rattle.store_kept.specs.Texts.{items_behind, text_at_hand, text_before, text_kept, text_with}
use Rattle.store_kept.proofs.Bodies.{named_then}

pub comes_on : (origin : Origin) (timeline : List Item) (next : ℕ) (item : Item) (o : Option UndoneBehind) → item.number ≡ next → ComesIf origin timeline next o → ComesIf origin (timeline ++ item ∷ []) (next + 1) o
comes_on origin timeline next item None e h = tt
comes_on origin timeline next item (Some last) e h = record {
  cycle = omega (arith, h.cycle);
  back = stays_back origin.house timeline last h.back item (omega (arith, h.cycle, e));
  new = h.new;
}

pub texts_on : (origin : Origin) (timeline : List Item) (next : ℕ) (item : Item) (o : Option UndoneBehind) → item.number ≡ next → ComesIf origin timeline next o → TextsComeIf timeline o
    → TextsComeIf (timeline ++ item ∷ []) o
texts_on origin timeline next item None e h t = tt
texts_on origin timeline next item (Some last) e h t = texts_stay origin.house timeline last h.back item (omega (arith, h.cycle, e)) t

-- ---- texts

-- whether an item brought the text of a body
abbrev pub brings : Body → Item → Bool
brings body i = (i.number == body.origin) && (i.rev == body.rev) && is_some (text_in i.deed)

abbrev pub text_found : Option Item → Option (List ℕ)
text_found o = option_and_then (λ (i : Item). text_in i.deed) o

-- what is found passes
pub found_passes : (p : Item → Bool) (t : List Item) (i : Item) → find p t ≡ Some i → p i ≡ true
found_passes p [] i e = cc
found_passes p (j ∷ t) i e =
    elim (p j) as (λ b. p j ≡ b → cond b (Some j) (find p t) ≡ Some i → p i ≡ true) [
      | true ↦ λ here is. let same : j ≡ i = cc in subst (λ (k : Item). p k ≡ true) same here
      | false ↦ λ other is. found_passes p t i is
    ] refl e

-- no item of another number brings it
pub none_brings : (body : Body) (t : List Item) → AllByRecursion (λ (i : Item). body.origin ≢ i.number) t → find (brings body) t ≡ None
none_brings body [] apart = refl
none_brings body (i ∷ t) apart =
    elim (brings body i) as (λ b. brings body i ≡ b → cond b (Some i) (find (brings body) t) ≡ None) [
      | true ↦ λ here. absurd (apart.0 (sym (eqb-true i.number body.origin (first_so _ _ (first_so _ _ here)))))
      | false ↦ λ other. none_brings body t apart.1
    ] refl

-- none of items with new numbers brings a text that comes with the base
pub none_new : (origin : Origin) (t : List Item) (body : Body) (text : List ℕ) → AllByRecursion (λ (i : Item). IsNew origin i.number) t → text_before origin.texts body ≡ Some text → find (brings body) t ≡ None
none_new origin t body text new is = none_brings body t (each t new)
  where
    each : (t : List Item) → AllByRecursion (λ (i : Item). IsNew origin i.number) t → AllByRecursion (λ (i : Item). body.origin ≢ i.number) t
    each [] new = tt
    each (i ∷ t) new = (named_then i.number origin.texts body text new.0.unnamed is, each t new.1)

pub with_first : (texts : BaseTexts) (t : List Item) (body : Body) (text : List ℕ) → text_of t body ≡ Some text → text_with texts t body ≡ Some text
with_first texts t body text e = ap (λ (o : Option (List ℕ)). option_or o (text_before texts body)) e

-- a text of these items is one of these and more
pub items_first : (texts : BaseTexts) (t more : List Item) (body : Body) (text : List ℕ) → text_of t body ≡ Some text → text_with texts (t ++ more) body ≡ Some text
items_first texts t more body text e = ap (λ (o : Option Item). option_or (text_found o) (text_before texts body)) (find-append (brings body) t more) ∙ by (find (brings body) t) e
  where
    by : (o : Option Item) → text_found o ≡ Some text → option_or (text_found (option_or o (find (brings body) more))) (text_before texts body) ≡ Some text
    by None e = cc
    by (Some i) e = ap (λ (o : Option (List ℕ)). option_or o (text_before texts body)) e

-- so is one that comes with the base, where none of the others brings it
pub base_last : (texts : BaseTexts) (t more : List Item) (body : Body) (text : List ℕ) → find (brings body) t ≡ None → find (brings body) more ≡ None → text_before texts body ≡ Some text → text_with texts (t ++ more) body ≡ Some text
base_last texts t more body text none others e =
    ap (λ (o : Option Item). option_or (text_found o) (text_before texts body)) (find-append (brings body) t more ∙ ap (λ (o : Option Item). option_or o (find (brings body) more)) none ∙ others) ∙ e

-- where a text comes from: an item brings it, or none does and it comes with the base
pub comes_from : (texts : BaseTexts) (t : List Item) (body : Body) (text : List ℕ) → text_with texts t body ≡ Some text
    → (text_of t body ≡ Some text) ⊎ ((find (brings body) t ≡ None) × (text_before texts body ≡ Some text))
comes_from texts t body text e = by (find (brings body) t) refl e
  where
    brought : (i : Item) → brings body i ≡ true → is_some (text_in i.deed) ≡ true
    brought i here = second_so ((i.number == body.origin) && (i.rev == body.rev)) (is_some (text_in i.deed)) here

    told : (o : Option (List ℕ)) → is_some o ≡ true → option_or o (text_before texts body) ≡ Some text → o ≡ Some text
    told None some e = cc
    told (Some own) some e = e

    by : (o : Option Item) → find (brings body) t ≡ o → option_or (text_found o) (text_before texts body) ≡ Some text → (text_of t body ≡ Some text) ⊎ ((find (brings body) t ≡ None) × (text_before texts body ≡ Some text))
    by None none e = inr (none, e)
    by (Some i) here e = inl (ap text_found here ∙ told (text_in i.deed) (brought i (found_passes (brings body) t i here)) e)

-- nor does what can come back bring one that comes with the base
behind_new : (origin : Origin) (timeline : List Item) (next : ℕ) (o : Option UndoneBehind) (body : Body) (text : List ℕ) → ComesIf origin timeline next o → text_before origin.texts body ≡ Some text
    → find (brings body) (items_behind o) ≡ None
behind_new origin timeline next None body text comes is = refl
behind_new origin timeline next (Some last) body text comes is = none_new origin last.later body text comes.new is

-- a text that comes with the base is kept, and is at hand
pub base_kept : (kept : Kept) (body : Body) (text : List ℕ) → HasBase kept → text_before kept.texts body ≡ Some text → text_kept kept body ≡ Some text
base_kept kept body text base is =
    ap (λ (o : Option Item). option_or (text_found o) (text_before kept.texts body)) (none_new (origin_of kept) kept.timeline body text base.new is) ∙ is

pub base_at_hand : (kept : Kept) (body : Body) (text : List ℕ) → HasBase kept → HasUndone kept → text_before kept.texts body ≡ Some text → text_at_hand kept body ≡ Some text
base_at_hand kept body text base comes is =
    base_last kept.texts kept.timeline (items_behind kept.undone) body text (none_new (origin_of kept) kept.timeline body text base.new is)
    (behind_new (origin_of kept) kept.timeline kept.next kept.undone body text comes is) is

pub kept_at_hand : (kept : Kept) (body : Body) (text : List ℕ) → HasUndone kept → text_kept kept body ≡ Some text → text_at_hand kept body ≡ Some text
kept_at_hand kept body text comes e = of (comes_from kept.texts kept.timeline body text e)
  where
    of : (text_of kept.timeline body ≡ Some text) ⊎ ((find (brings body) kept.timeline ≡ None) × (text_before kept.texts body ≡ Some text)) → text_at_hand kept body ≡ Some text
    of (inl own) = items_first kept.texts kept.timeline (items_behind kept.undone) body text own
    of (inr before) = base_last kept.texts kept.timeline (items_behind kept.undone) body text before.0 (behind_new (origin_of kept) kept.timeline kept.next kept.undone body text comes before.1) before.1
