-- Keys in order, and keys among others.
use Rattle.std.proofs.Common.{◌≡◌, ◌∷◌, Bool, cond, true, false, rules, refl, sym, ◌||◌, ◌∙◌, ap, ap₂, List, []}
use Rattle.std.specs.List.{list_any}
use Rattle.std.specs.BTreeMap.{is_at}
use Rattle.undo_base.specs.declared.keys.Key.{Key}
use Rattle.undo_base.specs.contracts.keys.KeyOrd.TheImpl as order
use Rattle.verb_core.specs.Mailboxes.{is_among, same_key}

-- keys compare alike where they are one
pub at_key : (a b : Key) → is_at (order.cmp-value.it a) b ≡ same_key a b
at_key a b = search rules

pub at_keys : (a b : Key) → is_at (order.cmp-value.it a) b ≡ same_key b a
at_keys a b = search rules

-- a set has the keys of its list
pub has_key : (q : Key) (keys : List Key) → list_any (is_at (order.cmp-value.it q)) keys ≡ is_among keys q
has_key q [] = refl
has_key q (k ∷ keys) = ap₂ (λ a b. a || b) (at_key q k) (has_key q keys)

either : (a b : Bool) → cond a true b ≡ (a || b)
either true b = refl
either false b = refl

pub one_more : (a q : Key) (old new : List Key) → list_any (is_at (order.cmp-value.it q)) new ≡ cond (is_at (order.cmp-value.it a) q) true (list_any (is_at (order.cmp-value.it q)) old) → is_among new q ≡ is_among (a ∷ old) q
one_more a q old new h =
    sym (has_key q new) ∙ h ∙ either (is_at (order.cmp-value.it a) q) (list_any (is_at (order.cmp-value.it q)) old)
    ∙ ap₂ (λ x y. x || y) (at_keys a q) (has_key q old)

flipped : (a b : Bool) → (a || b) ≡ (b || a)
flipped true true = refl
flipped true false = refl
flipped false true = refl
flipped false false = refl

-- one more key in front is one more at the end
pub at_end : (q a : Key) (set keys : List Key) → is_among set q ≡ is_among keys q → is_among (a ∷ set) q ≡ (is_among keys q || same_key q a)
at_end q a set keys h = ap (λ b. same_key q a || b) h ∙ flipped (same_key q a) (is_among keys q)
