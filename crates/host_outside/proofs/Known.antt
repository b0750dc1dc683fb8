-- Streams of which nothing is taken, and that take nothing; and what was read of one and is kept.
use Rattle.std.proofs.Common.{◌≡◌, ℕ, List, [], ◌++◌, Option, Some, None, refl, sym, ap, subst, ◌∙◌, ◌≤◌, length, take, drop, append-nil, append_assoc, take-append-drop}
use Rattle.std.proofs.lemmas.List.{take-append-le, take-take}
use Rattle.std.specs.Io.KnownBytes.{Appends, Consumes, Keeps, prepend_known}

-- known bytes stay where nothing is done
pub kept : (u : Option (List ℕ)) → Keeps u u
kept None = tt
kept (Some xs) = refl

-- what stays has grown by nothing
pub grown_by_none : (u v : Option (List ℕ)) → Keeps u v → Appends u v []
grown_by_none None v k = tt
grown_by_none (Some xs) None k = absurd k
grown_by_none (Some xs) (Some ys) k = k ∙ sym (append-nil xs)

-- what lost nothing has stayed
pub none_lost : (u v : Option (List ℕ)) → Consumes u v [] → Keeps u v
none_lost None v c = tt
none_lost (Some xs) None c = absurd c
none_lost (Some xs) (Some ys) c = sym c

-- what is kept and what the stream has are still to come where nothing is done
pub still_to_come : (before after : List ℕ) (u v : Option (List ℕ)) → after ≡ before → Keeps u v → Keeps (prepend_known before u) (prepend_known after v)
still_to_come before after None v e k = tt
still_to_come before after (Some xs) None e k = absurd k
still_to_come before after (Some xs) (Some ys) e k = ap (λ t. t ++ ys) e ∙ ap (λ t. before ++ t) k

-- of what was kept a part is told
pub told_of_kept : (u : Option (List ℕ)) (all front rest : List ℕ) → front ++ rest ≡ all → Consumes (prepend_known all u) (prepend_known rest u) front
told_of_kept None all front rest e = tt
told_of_kept (Some xs) all front rest e = ap (λ t. t ++ xs) (sym e) ∙ append_assoc front rest xs

-- so it is where it was copied into a buffer
pub told_of_copied : (kept copied behind : List ℕ) (count told : ℕ) → copied ≡ take count kept → told ≤ count → length copied ≡ count → (u : Option (List ℕ)) → Consumes (prepend_known kept u) (prepend_known (drop told kept) u) (take told (copied ++ behind))
told_of_copied kept copied behind count told is few long u =
    let front : take told (copied ++ behind) ≡ take told kept = take-append-le told copied behind (subst (λ n. told ≤ n) (sym long) few) ∙ ap (take told) is ∙ take-take told count kept few in
    subst (λ bytes. Consumes (prepend_known kept u) (prepend_known (drop told kept) u) bytes) (sym front) (told_of_kept u kept (take told kept) (drop told kept) (take-append-drop told kept))

-- of what a stream gave a part is told, and the rest is kept
pub told_of_new : (before all front rest : List ℕ) (u v : Option (List ℕ)) → before ≡ [] → front ++ rest ≡ all → Consumes u v all → Consumes (prepend_known before u) (prepend_known rest v) front
told_of_new before all front rest None v b e c = tt
told_of_new before all front rest (Some xs) None b e c = absurd c
told_of_new before all front rest (Some xs) (Some ys) b e c = ap (λ t. t ++ xs) b ∙ c ∙ ap (λ t. t ++ ys) (sym e) ∙ append_assoc front rest ys
