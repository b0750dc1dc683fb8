-- The fixed mailboxes, made user by user.
use Rattle.std.proofs.Common.{◌≡◌, ℕ, ◌+◌, ◌<◌, List, [], ◌∷◌, ◌++◌, map, flat_map, drop, length, refl, ap}
use Rattle.std.specs.List.{enumerate_from}
use Rattle.std.proofs.lemmas.List.{at_drop_more}
use Rattle.verb_core.specs.declared.conf.Account.{Account}
use Rattle.verb_core.specs.declared.mailbox.BoxId.{BoxId}
use Rattle.verb_core.specs.declared.mailbox.Mailbox.{Mailbox}
use Rattle.mail_rows.specs.Fixed.{fixed_of, fixed_from}

pub fixed_more : (k j : ℕ) (xs : List Account) → j < length xs → fixed_from k (drop j xs) ≡ fixed_of (record { 0 = k }) ++ fixed_from (k + 1) (drop (j + 1) xs)
fixed_more k j xs lt = at_drop_more (fixed_from k) xs j (record { name = []; password = [] }) lt

pub fixed_all : (k : ℕ) (xs : List Account) → fixed_from k xs ≡ flat_map fixed_of (map (λ (a : ℕ × Account). record { 0 = a.0 }) (enumerate_from k xs))
fixed_all k [] = refl
fixed_all k (x ∷ xs) = ap (λ (t : List (BoxId × Mailbox)). fixed_of (record { 0 = k }) ++ t) (fixed_all (k + 1) xs)

pub fixed_end : (k : ℕ) (xs : List Account) → fixed_from k (drop (length xs) xs) ≡ []
fixed_end k [] = refl
fixed_end k (x ∷ xs) = fixed_end k xs
