-- Items by their numbers.
use Rattle.std.proofs.Common.{◌≡◌, ℕ, ◌+◌, ◌<◌, ◌==◌, Bool, cond, true, false, arith, sym, ◌∙◌, ap, List, ◌∷◌, Option, Some, drop, length, get_or}
use Rattle.std.specs.List.{slice_get}
use Rattle.std.specs.BTreeMap.{is_at}
use Rattle.std.specs.Ordering.{nat_cmp}
use Rattle.std.proofs.lemmas.Bool.Decides.{nat_tests}
use Rattle.std.proofs.lemmas.List.{at_drop_more}
use Rattle.std.proofs.lemmas.Option.{slice_get-get_or}
use Rattle.verb_core.specs.declared.item.Item.{Item}
use Rattle.withdraw.specs.Lookups.{item_at}
use Rattle.withdraw.specs.Unediting.{item_of}

-- numbers compare alike where they are one
at_number : (a b : ℕ) → is_at (nat_cmp a) b ≡ (a == b)
at_number a b = grind (arith, nat_tests)

beside : (items : List Item) (place : ℕ) (x : Item) (b c : Bool) (old : Option ℕ) (found : Option Item) → slice_get items place ≡ Some x → b ≡ c → item_at items old ≡ found
    → item_at items (cond b (Some place) old) ≡ cond c (Some x) found
beside items place x true true old found here e h = here
beside items place x false false old found here e h = h
beside items place x true false old found here e h = cc
beside items place x false true old found here e h = cc

-- the place of one more item, which stands before those that were looked at
pub one_before : (items : List Item) (place n : ℕ) (x : Item) (new old : Option ℕ) → place < length items → x ≡ get_or items place x → new ≡ cond (is_at (nat_cmp x.number) n) (Some place) old
    → item_at items old ≡ item_of (drop (place + 1) items) n → item_at items new ≡ item_of (drop place items) n
one_before items place n x new old lt is h before =
    ap (item_at items) h ∙ beside items place x _ _ old _ (slice_get-get_or items place x lt ∙ ap Some (sym is)) (at_number x.number n) before
    ∙ sym (at_drop_more (λ (xs : List Item). item_of xs n) items place x lt ∙ ap (λ (y : Item). item_of (y ∷ drop (place + 1) items) n) (sym is))
