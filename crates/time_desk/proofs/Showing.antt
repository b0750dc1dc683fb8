-- What was shown is compared part by part.
use Rattle.std.proofs.Common.{◌≡◌, ℕ, Bool, true, false, ◌==◌, ◌&&◌, List, Option, None, Some, refl, ap, subst, eqb-true, eq-eqb}
use Rattle.std.specs.Cmp.{first_so, second_so}
use Rattle.std.specs.Cmp.Lexicographic.{bytes_decides, pointwise, pointwise_decides}
use Rattle.std.specs.Str.{bytes_eq}
use Rattle.undo_base.specs.declared.keys.Key.{Key}
use Rattle.undo_base.specs.contracts.keys.KeyPartialEq.TheImpl.{ghosts as keys}
use Rattle.verb_core.specs.declared.item.Sight.{Sight}
use Rattle.verb_core.specs.declared.item.Shown.{Shown}
use Rattle.verb_core.specs.declared.item.Shown.TheVariants as shows
use Rattle.verb_core.specs.declared.item.Way.{Way}
use Rattle.verb_core.specs.declared.item.Way.TheVariants.{Plain, NoSource, Merged}
use Rattle.verb_core.specs.contracts.item.SightPartialEq.TheImpl.{ghosts as sights}
use Rattle.verb_core.specs.contracts.item.ShownPartialEq.TheImpl.{ghosts}

key_then : (a b : Key) → keys.eq a b ≡ true → a ≡ b
key_then a b e =
    let parts : ((a.item == b.item) && (a.index == b.index)) ≡ true = e in
    let item : a.item ≡ b.item = eqb-true a.item b.item (first_so (a.item == b.item) (a.index == b.index) parts) in
    let index : a.index ≡ b.index = eqb-true a.index b.index (second_so (a.item == b.item) (a.index == b.index) parts) in
    λ j. record { item = item j; index = index j }

key_itself : (a : Key) → keys.eq a a ≡ true
key_itself a = rw (eq-eqb a.item a.item refl, eq-eqb a.index a.index refl) refl

sight_then : (a b : Sight) → sights.eq a b ≡ true → a ≡ b
sight_then a b e =
    let parts : (keys.eq a.key b.key && (a.rev == b.rev)) ≡ true = e in
    let key : a.key ≡ b.key = key_then a.key b.key (first_so (keys.eq a.key b.key) (a.rev == b.rev) parts) in
    let rev : a.rev ≡ b.rev = eqb-true a.rev b.rev (second_so (keys.eq a.key b.key) (a.rev == b.rev) parts) in
    λ j. record { key = key j; rev = rev j }

sight_itself : (a : Sight) → sights.eq a a ≡ true
sight_itself a = rw (eq-eqb a.key.item a.key.item refl, eq-eqb a.key.index a.key.index refl, eq-eqb a.rev a.rev refl) refl

keys_decide : (xs ys : List Key) → (pointwise keys.eq xs ys ≡ true → xs ≡ ys) × (xs ≡ ys → pointwise keys.eq xs ys ≡ true)
keys_decide = pointwise_decides (λ a b. (key_then a b, λ same. subst (λ c. keys.eq a c ≡ true) same (key_itself a)))

sights_decide : (xs ys : List Sight) → (pointwise sights.eq xs ys ≡ true → xs ≡ ys) × (xs ≡ ys → pointwise sights.eq xs ys ≡ true)
sights_decide = pointwise_decides (λ a b. (sight_then a b, λ same. subst (λ c. sights.eq a c ≡ true) same (sight_itself a)))

names_decide : (xs ys : List (List ℕ)) → (pointwise bytes_eq xs ys ≡ true → xs ≡ ys) × (xs ≡ ys → pointwise bytes_eq xs ys ≡ true)
names_decide = pointwise_decides bytes_decides

-- what passes is the same
pub same_then : (a b : Shown) → ghosts.eq a b ≡ true → a ≡ b
same_then shows.Nothing shows.Nothing e = refl
same_then (shows.Seen x) (shows.Seen y) e = ap shows.Seen ((sights_decide x y).0 e)
same_then (shows.Names x) (shows.Names y) e = ap shows.Names ((names_decide x y).0 e)
same_then (shows.Count None) (shows.Count None) e = refl
same_then (shows.Count (Some a)) (shows.Count (Some b)) e = let parts : (a == b) ≡ true = e in ap (λ (n : ℕ). shows.Count (Some n)) (eqb-true a b parts)
same_then (shows.Done x) (shows.Done y) e = ap shows.Done ((keys_decide x y).0 e)
same_then (shows.Copied x true) (shows.Copied y true) e = ap (λ (k : List Key). shows.Copied k true) ((keys_decide x y).0 (first_so (pointwise keys.eq x y) true e))
same_then (shows.Copied x false) (shows.Copied y false) e = ap (λ (k : List Key). shows.Copied k false) ((keys_decide x y).0 (first_so (pointwise keys.eq x y) true e))
same_then (shows.Copied x true) (shows.Copied y false) e = absurd (let wrong : ◌≡◌ {A = Bool} false true = second_so (pointwise keys.eq x y) false e in cc)
same_then (shows.Copied x false) (shows.Copied y true) e = absurd (let wrong : ◌≡◌ {A = Bool} false true = second_so (pointwise keys.eq x y) false e in cc)
same_then (shows.Put true) (shows.Put true) e = refl
same_then (shows.Put false) (shows.Put false) e = refl
same_then (shows.Left x) (shows.Left y) e = ap shows.Left ((keys_decide x y).0 e)
same_then (shows.Way Plain) (shows.Way Plain) e = refl
same_then (shows.Way NoSource) (shows.Way NoSource) e = refl
same_then (shows.Way Merged) (shows.Way Merged) e = refl
same_then (shows.Moved x) (shows.Moved y) e = ap shows.Moved ((keys_decide x y).0 e)
same_then _ _ e = absurd (let wrong : ◌≡◌ {A = Bool} false true = e in cc)

-- the same passes
itself : (a : Shown) → ghosts.eq a a ≡ true
itself shows.Nothing = refl
itself (shows.Seen x) = (sights_decide x x).1 refl
itself (shows.Names x) = (names_decide x x).1 refl
itself (shows.Count None) = refl
itself (shows.Count (Some a)) = eq-eqb a a refl
itself (shows.Done x) = (keys_decide x x).1 refl
itself (shows.Copied x true) = ap (λ (b : Bool). b && true) ((keys_decide x x).1 refl)
itself (shows.Copied x false) = ap (λ (b : Bool). b && true) ((keys_decide x x).1 refl)
itself (shows.Put true) = refl
itself (shows.Put false) = refl
itself (shows.Left x) = (keys_decide x x).1 refl
itself (shows.Way Plain) = refl
itself (shows.Way NoSource) = refl
itself (shows.Way Merged) = refl
itself (shows.Moved x) = (keys_decide x x).1 refl

pub passes : (a b : Shown) → a ≡ b → ghosts.eq a b ≡ true
passes a b same = subst (λ (c : Shown). ghosts.eq a c ≡ true) same (itself a)
