-- A needle occurs in a text where the text is some bytes, then the needle, then others.
use Rattle.std.proofs.Common.{◌≡◌, ℕ, ◌+◌, Bool, true, false, ◌||◌, ◌↔◌, List, [], ◌∷◌, ◌++◌, length, take, drop, refl, sym, ap, subst, ◌∙◌, arith}
use Rattle.std.specs.Prelude.{IsTrue, nat_eq}
use Rattle.std.specs.List.{starts_with}
use Rattle.std.proofs.lemmas.Bool.Decides.{Decides-eqb}
use Rattle.std.proofs.lemmas.List.{take-append-drop, length-append, get_or-append-add, get_or_append_left}
use Rattle.std.proofs.lemmas.List.Prefix.{at_from_reads}
use Rattle.std.proofs.lemmas.Slice.Eq.{starts_is}
use Rattle.bstr.specs.Find.{OccursAt}
use Rattle.bstr.specs.Text.{Contains}
use Rattle.verb_core.specs.Filters.{occurs}

-- some bytes, then the needle, then others
record Split (text needle : List ℕ) : Type 0 where
  before : List ℕ
  after : List ℕ
  is : text ≡ before ++ (needle ++ after)

-- ---- what the search says

from_place : (text needle : List ℕ) → Contains text needle → Split text needle
from_place text needle (k, at) = record {
  before = take k text;
  after = drop (k + length needle) text;
  is = sym (take-append-drop k text) ∙ ap (λ (t : List ℕ). take k text ++ t) (at_from_reads 0 text needle k at.fits at.reads);
}

place_of : (before needle after : List ℕ) → OccursAt (before ++ (needle ++ after)) needle (length before)
place_of before needle after = record {
  fits = omega (arith, length-append before (needle ++ after), length-append needle after);
  reads = λ j h. get_or-append-add before (needle ++ after) j 0 ∙ get_or_append_left needle after 0 j h;
}

to_place : (text needle : List ℕ) → Split text needle → Contains text needle
to_place text needle s = subst (λ (t : List ℕ). Contains t needle) (sym s.is) (length s.before, place_of s.before needle s.after)

-- ---- what the definition says

starts : (s p : List ℕ) → (starts_with nat_eq s p ≡ true → s ≡ p ++ drop (length p) s) × ((rest : List ℕ) → s ≡ p ++ rest → starts_with nat_eq s p ≡ true)
starts s p = starts_is Decides-eqb s p (starts_with nat_eq s p) refl

or_right : (a b : Bool) → b ≡ true → (a || b) ≡ true
or_right true b e = refl
or_right false b e = e

at_front : (needle after : List ℕ) → occurs needle (needle ++ after) ≡ true
at_front [] [] = refl
at_front [] (b ∷ bs) = refl
at_front (n ∷ ns) after = rw ((starts (n ∷ (ns ++ after)) (n ∷ ns)).1 after refl) refl

anywhere : (before needle after : List ℕ) → occurs needle (before ++ (needle ++ after)) ≡ true
anywhere [] needle after = at_front needle after
anywhere (b ∷ before) needle after = or_right (starts_with nat_eq (b ∷ (before ++ (needle ++ after))) needle) (occurs needle (before ++ (needle ++ after))) (anywhere before needle after)

to_occurs : (text needle : List ℕ) → Split text needle → occurs needle text ≡ true
to_occurs text needle s = subst (λ (t : List ℕ). occurs needle t ≡ true) (sym s.is) (anywhere s.before needle s.after)

later : (b : ℕ) (bs needle : List ℕ) → Split bs needle → Split (b ∷ bs) needle
later b bs needle s = record { before = b ∷ s.before; after = s.after; is = ap (λ (t : List ℕ). b ∷ t) s.is }

first_or_later : (b : ℕ) (bs needle : List ℕ) (found : Bool) → starts_with nat_eq (b ∷ bs) needle ≡ found → (found || occurs needle bs) ≡ true → (occurs needle bs ≡ true → Split bs needle) → Split (b ∷ bs) needle
first_or_later b bs needle true e h others = record { before = []; after = drop (length needle) (b ∷ bs); is = (starts (b ∷ bs) needle).0 e }
first_or_later b bs needle false e h others = later b bs needle (others h)

from_occurs : (text needle : List ℕ) → occurs needle text ≡ true → Split text needle
from_occurs [] [] h = record { before = []; after = []; is = refl }
from_occurs [] (n ∷ ns) h = absurd cc
from_occurs (b ∷ bs) needle h = first_or_later b bs needle (starts_with nat_eq (b ∷ bs) needle) refl h (from_occurs bs needle)

-- ---- both say the same

both_true : (a b : Bool) → (a ≡ true → b ≡ true) → (b ≡ true → a ≡ true) → a ≡ b
both_true true b h k = sym (h refl)
both_true false true h k = k refl
both_true false false h k = refl

pub found_is_occurs : (text needle : List ℕ) (found : Bool) → (IsTrue found ↔ Contains text needle) → found ≡ occurs needle text
found_is_occurs text needle found h =
    both_true found (occurs needle text)
    (λ e. to_occurs text needle (from_place text needle (h.0 e)))
    (λ e. h.1 (to_place text needle (from_occurs text needle e)))
