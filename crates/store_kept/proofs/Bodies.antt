-- Bodies in their order, and the texts that come with a base.
use Rattle.std.proofs.Common.{◌≡◌, ◌≢◌, ℕ, Bool, true, false, ◌==◌, ◌&&◌, cond, List, [], ◌∷◌, Some, None, is_some, refl, sym, ap, ◌∙◌, subst, eqb-true, eq-eqb, is_eq, Ordering, Less, Equal, Greater}
use Rattle.std.specs.Cmp.{IsTotalOrder, both_ways, first_so, nat_cmp_total, second_so, tied_itself}
use Rattle.std.specs.List.{AllByRecursion}
use Rattle.std.specs.Ordering.{eq_by_cmp, nat_cmp}
use Rattle.std.proofs.lemmas.Cmp.{on_total, then_total}
use Rattle.std.proofs.lemmas.Map.Lookups.{CmpEqualImpliesEq, exact_pairs, exact_unsigned}
use Rattle.verb_core.specs.declared.mailbox.Body.{Body}
use Rattle.verb_core.specs.Deeds.{same_body}
use Rattle.store_kept.specs.Kept.{BaseTexts, body_cmp}
use Rattle.store_kept.specs.Texts.{text_before}

-- bodies that compare alike are one
pub exact_bodies : CmpEqualImpliesEq body_cmp
exact_bodies a b h = ap (λ (p : ℕ × ℕ). record { origin = p.0; rev = p.1 }) (exact_pairs nat_cmp nat_cmp exact_unsigned exact_unsigned (a.origin, a.rev) (b.origin, b.rev) h)

pub bodies_total : IsTotalOrder body_cmp
bodies_total = then_total (on_total (λ b. b.origin) nat_cmp_total) (on_total (λ b. b.rev) nat_cmp_total)

equal : (r : Ordering) → is_eq r ≡ true → r ≡ Equal
equal Less h = cc
equal Equal h = refl
equal Greater h = cc

-- tied bodies are one
pub tied : (a b : Body) → eq_by_cmp body_cmp a b ≡ true → a ≡ b
tied a b h = exact_bodies a b (equal (body_cmp a b) h)

-- the test of a body by its origin and its rev
pub same_is : (a b : Body) → same_body a b ≡ eq_by_cmp body_cmp a b
same_is a b = both_ways _ _
    (λ h. let is : a ≡ b = λ j. record { origin = eqb-true a.origin b.origin (first_so _ _ h) j; rev = eqb-true a.rev b.rev (second_so _ _ h) j } in
    subst (λ (q : Body). eq_by_cmp body_cmp a q ≡ true) is (ap is_eq (tied_itself bodies_total a)))
    (λ h. subst (λ (q : Body). same_body a q ≡ true) (tied a b h) (rw (eq-eqb a.origin a.origin refl, eq-eqb a.rev a.rev refl) refl))

-- the origin of a body that has a text with a base is one of these
pub named_then : (number : ℕ) (texts : BaseTexts) (body : Body) (text : List ℕ) → AllByRecursion (λ (r : Body × List ℕ). r.0.origin ≢ number) texts → text_before texts body ≡ Some text → body.origin ≢ number
named_then number [] body text none is same = cc
named_then number (r ∷ texts) body text none is same =
    elim (eq_by_cmp body_cmp body r.0) as (λ b. eq_by_cmp body_cmp body r.0 ≡ b → cond b (Some r.1) (text_before texts body) ≡ Some text → ⊥) [
      | true ↦ λ here e. none.0 (ap (λ (b : Body). b.origin) (sym (tied body r.0 here)) ∙ same)
      | false ↦ λ other e. named_then number texts body text none.1 e same
    ] refl is
