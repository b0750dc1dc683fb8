-- Lines and users, one after the other.
use Rattle.std.proofs.Common.{◌≡◌, ℕ, ◌+◌, ◌<◌, Bool, true, false, cond, List, [], ◌∷◌, ◌++◌, map, filter, drop, length, get_or, refl, sym, ap, ◌∙◌, append_assoc}
use Rattle.std.specs.List.{enumerate_from, flat_map}
use Rattle.std.proofs.lemmas.List.{at_drop_more}
use Rattle.undo_base.specs.declared.keys.User.{User}
use Rattle.verb_core.specs.declared.conf.Account.{Account}
use Rattle.paradox.specs.declared.reports.BrokenItem.{BrokenItem}
use Rattle.paradox.specs.Letters.{is_told}

-- what is added for one element more of those that pass
pub one_more : {X Y : Type 0} (p : X → Bool) (f : X → List Y) (out : List Y) (xs : List X) (i : ℕ) (d : X) → i < length xs
    → (out ++ cond (p (get_or xs i d)) (f (get_or xs i d)) []) ++ flat_map f (filter p (drop (i + 1) xs)) ≡ out ++ flat_map f (filter p (drop i xs))
one_more {X} {Y} p f out xs i d lt =
    append_assoc out (cond (p (get_or xs i d)) (f (get_or xs i d)) []) (flat_map f (filter p (drop (i + 1) xs)))
    ∙ ap (λ (t : List Y). out ++ t) (elim (p (get_or xs i d)) as (λ b. cond b (f (get_or xs i d)) [] ++ flat_map f (filter p (drop (i + 1) xs)) ≡ flat_map f (cond b (get_or xs i d ∷ filter p (drop (i + 1) xs)) (filter p (drop (i + 1) xs)))) [ true ↦ refl | false ↦ refl ]
    ∙ sym (at_drop_more (λ (ys : List X). flat_map f (filter p ys)) xs i d lt))

-- those who are told, of the users of these accounts, of which the first is the k-th user
abbrev pub told_from : List BrokenItem → ℕ → List Account → List User
told_from list k xs = filter (is_told list) (map (λ (a : ℕ × Account). record { 0 = a.0 }) (enumerate_from k xs))

pub told_more : (list : List BrokenItem) (done : List User) (k j : ℕ) (xs : List Account) → j < length xs
    → (done ++ cond (is_told list (record { 0 = k })) (record { 0 = k } ∷ []) []) ++ told_from list (k + 1) (drop (j + 1) xs) ≡ done ++ told_from list k (drop j xs)
told_more list done k j xs lt =
    append_assoc done (cond (is_told list (record { 0 = k })) (record { 0 = k } ∷ []) []) (told_from list (k + 1) (drop (j + 1) xs))
    ∙ ap (λ (t : List User). done ++ t) (elim (is_told list (record { 0 = k })) as (λ b. cond b (record { 0 = k } ∷ []) [] ++ told_from list (k + 1) (drop (j + 1) xs) ≡ cond b (record { 0 = k } ∷ told_from list (k + 1) (drop (j + 1) xs)) (told_from list (k + 1) (drop (j + 1) xs))) [ true ↦ refl | false ↦ refl ]
    ∙ sym (at_drop_more (told_from list k) xs j (record { name = []; password = [] }) lt))
