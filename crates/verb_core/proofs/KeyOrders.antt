-- Keys in order, and entries whose keys rise.
use Rattle.std.proofs.Common.{◌≡◌, ◌-◌, ℕ, suc, Bool, true, false, ◌&&◌, List, [], ◌∷◌, ◌++◌, length, Option, Some, None, option_map, refl, ap, ◌∙◌, arith, nat_cmp, slice_get}
use Rattle.std.specs.Cmp.{IsTotalOrder, nat_cmp_total}
use Rattle.std.proofs.lemmas.Cmp.{on_total, then_total}
use Rattle.std.proofs.lemmas.Map.Lookups.{CmpEqualImpliesEq, exact_pairs, exact_unsigned}
use Rattle.undo_base.specs.declared.keys.Key.{Key}
use Rattle.verb_core.specs.declared.mailbox.Entry.{Entry}
use Rattle.verb_core.specs.KeyOrder.{key_cmp, is_above, keys_rise_from, last_key}

-- keys that compare alike are one
pub exact_keys : CmpEqualImpliesEq key_cmp
exact_keys a b h = ap (λ (p : ℕ × ℕ). record { item = p.0; index = p.1 }) (exact_pairs nat_cmp nat_cmp exact_unsigned exact_unsigned (a.item, a.index) (b.item, b.index) h)

pub keys_total : IsTotalOrder key_cmp
keys_total = then_total (on_total (λ k. k.item) nat_cmp_total) (on_total (λ k. k.index) nat_cmp_total)

and_assoc : (a b c : Bool) → (a && (b && c)) ≡ ((a && b) && c)
and_assoc true b c = refl
and_assoc false b c = refl

-- two lists rise, one behind the other, where the second rises from the last key of the first on
pub keys_rise-append : (low : Option Key) (xs ys : List Entry) → keys_rise_from low (xs ++ ys) ≡ (keys_rise_from low xs && keys_rise_from (last_key low xs) ys)
keys_rise-append low [] ys = refl
keys_rise-append low (x ∷ xs) ys =
    ap (λ b. is_above low x.key && b) (keys_rise-append (Some x.key) xs ys)
    ∙ and_assoc (is_above low x.key) (keys_rise_from (Some x.key) xs) (keys_rise_from (last_key (Some x.key) xs) ys)

last_got : (low : Option Key) (e : Entry) (es : List Entry) → option_map (λ (x : Entry). x.key) (slice_get (e ∷ es) (length es)) ≡ last_key low (e ∷ es)
last_got low e [] = refl
last_got low e (f ∷ es) = last_got (Some e.key) f es

-- the last entry has the last key
pub last_read : (es : List Entry) → option_map (λ (x : Entry). x.key) (slice_get es (length es - 1)) ≡ last_key None es
last_read [] = refl
last_read (e ∷ es) =
    let n : suc (length es) - 1 ≡ length es = omega arith in
    ap (λ (k : ℕ). option_map (λ (x : Entry). x.key) (slice_get (e ∷ es) k)) n ∙ last_got None e es
