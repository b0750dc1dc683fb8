-- The order of bodies, and when two are the same.
use Rattle.std.proofs.Common.{◌≡◌, ℕ, true, false, max, refl, sym, ap, subst, ◌∙◌, arith, ◌≢◌}
use Rattle.std.specs.Ordering.{nat_cmp, ordering_then, ordering_reverse}
use Rattle.std.specs.declared.cmp.Ordering.{Ordering}
use Rattle.std.specs.declared.cmp.Ordering.TheVariants.{Less, Equal, Greater}
use Rattle.std.specs.Cmp.{IsTotalOrder}
use Rattle.std.proofs.lemmas.Cmp.{nat_cmp_total, on_total, then_total, ranked, tied_itself}
use Rattle.std.proofs.lemmas.Bool.Decides.{nat_tests}
use Rattle.verb_core.specs.declared.mailbox.Body.{Body}
use Rattle.shelf.specs.Notes.{same_body}
use Rattle.shelf.specs.Rows.{body_order}

pub body_total : IsTotalOrder body_order
unfolding body_order
body_total = then_total (then_total (on_total (λ (b : Body). max b.origin b.rev) nat_cmp_total) (on_total (λ (b : Body). b.origin) nat_cmp_total)) (on_total (λ (b : Body). b.rev) nat_cmp_total)

then_first : (o p : Ordering) → ordering_then o p ≡ Equal → o ≡ Equal
then_first Less p e = absurd (cc)
then_first Equal p e = refl
then_first Greater p e = absurd (cc)

then_second : (o p : Ordering) → ordering_then o p ≡ Equal → p ≡ Equal
then_second Less p e = absurd (cc)
then_second Equal p e = e
then_second Greater p e = absurd (cc)

equal_numbers : (x y : ℕ) → nat_cmp x y ≡ Equal → x ≡ y
equal_numbers x y e = ranked x y Equal (sym e)

-- bodies with equal numbers are the same
same_parts : (a b : Body) → a.origin ≡ b.origin → a.rev ≡ b.rev → a ≡ b
same_parts a b p q = λ j. record { origin = p j; rev = q j }

pub same_if_equal : (a b : Body) → body_order a b ≡ Equal → a ≡ b
unfolding body_order
same_if_equal a b e =
    same_parts a b
    (equal_numbers a.origin b.origin (then_second _ _ (then_first _ _ e)))
    (equal_numbers a.rev b.rev (then_second _ _ e))

pub same_if_tested : (a b : Body) → same_body a b ≡ true → a ≡ b
same_if_tested a b e =
    let origins : a.origin ≡ b.origin = grind (arith, nat_tests) in
    let revs : a.rev ≡ b.rev = grind (arith, nat_tests) in
    same_parts a b origins revs

pub tested_itself : (a : Body) → same_body a a ≡ true
tested_itself a = grind (arith, nat_tests)

pub tested_if_equal : (a b : Body) → body_order a b ≡ Equal → same_body a b ≡ true
tested_if_equal a b e = subst (λ (c : Body). same_body a c ≡ true) (same_if_equal a b e) (tested_itself a)

-- bodies that stand apart in the order are not the same
pub apart : (a b : Body) → body_order a b ≢ Equal → same_body a b ≡ false
apart a b h =
    elim (same_body a b) as (λ t. same_body a b ≡ t → t ≡ false) [
      | true ↦ λ e. absurd (h (subst (λ (c : Body). body_order a c ≡ Equal) (same_if_tested a b e) (tied_itself body_total a)))
      | false ↦ λ e. refl
    ] refl

pub turned_less : (a b : Body) → body_order a b ≡ Greater → body_order b a ≡ Less
turned_less a b e = body_total.antisymm b a ∙ ap ordering_reverse e

pub turned_greater : (a b : Body) → body_order a b ≡ Less → body_order b a ≡ Greater
turned_greater a b e = body_total.antisymm b a ∙ ap ordering_reverse e
