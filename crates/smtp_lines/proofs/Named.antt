-- What is made a name of a command is one.
use Rattle.std.proofs.Common.{◌≡◌, ◌⊎◌, ℕ, ◌+◌, ◌-◌, ◌≤◌, Bool, true, false, cond, not, ◌&&◌, ◌==◌, List, [], ◌∷◌, length, map, take, drop, Option, Some, None, refl, ap, sym, subst, ◌∙◌, inl, inr, arith, codes, nat_le, zero, suc}
use Rattle.std.specs.Char.{to_ascii_lowercase}
use Rattle.std.specs.List.{list_all, list_any, position_or_len, suffix_len, after_first}
use Rattle.std.proofs.lemmas.Bool.{leb-true, le-leb}
use Rattle.std.proofs.lemmas.List.{length-map}
use Rattle.std.proofs.lemmas.Option.{same_Some}
use Rattle.undo_base.specs.Name.{is_name, is_printable}
use Rattle.smtp_lines.specs.Parts.{is_short, is_spelled, is_visible}
use Rattle.smtp_lines.specs.Path.{begins_with, inside, is_path, is_path_byte, unrouted, path_of, is_recipient, has_domain, local_of, domain_of}
use Rattle.smtp_lines.specs.Command.{is_client, if_recipient, recipient_path}
use Rattle.smtp_lines.proofs.Parting.{both, and_true}
use Rattle.smtp_lines.proofs.Wording.{lower_of}

-- ---- bytes that show

-- a part of them
all_rest : (n : ℕ) (bytes : List ℕ) → list_all is_visible bytes ≡ true → list_all is_visible (drop n bytes) ≡ true
all_rest zero bytes e = e
all_rest (suc n) [] e = refl
all_rest (suc n) (b ∷ bytes) e = all_rest n bytes (both (is_visible b) (list_all is_visible bytes) e).1

all_front : (n : ℕ) (bytes : List ℕ) → list_all is_visible bytes ≡ true → list_all is_visible (take n bytes) ≡ true
all_front zero bytes e = refl
all_front (suc n) [] e = refl
all_front (suc n) (b ∷ bytes) e =
    let p = both (is_visible b) (list_all is_visible bytes) e in
    and_true (is_visible b) (list_all is_visible (take n bytes)) p.0 (all_front n bytes p.1)

-- bytes that show print
prints : (bytes : List ℕ) → list_all is_visible bytes ≡ true → list_all is_printable bytes ≡ true
prints [] e = refl
prints (b ∷ bytes) e =
    let p = both (is_visible b) (list_all is_visible bytes) e in
    let ends = both (nat_le 33 b) (nat_le b 126) p.0 in
    let low : 33 ≤ b = leb-true 33 b ends.0 in
    rw (le-leb 32 b (omega arith), ends.1, prints bytes p.1) refl

-- as many as a name may have are one
shown_name : (bytes : List ℕ) → is_short bytes ≡ true → list_all is_visible bytes ≡ true → is_name bytes ≡ true
shown_name bytes short all = and_true (is_short bytes) (list_all is_printable bytes) short (prints bytes all)

pub client_name : (bytes : List ℕ) → is_client bytes ≡ true → is_name bytes ≡ true
client_name bytes e =
    let p = both (is_short bytes) (list_all is_visible bytes) e in
    shown_name bytes p.0 p.1

-- ---- the path of a recipient

pub postmaster_name : (path : List ℕ) → list_any (λ b. b == 64) path ≡ false → is_recipient path ≡ true → list_all is_visible path ≡ true → is_name path ≡ true
postmaster_name path none is all =
    let word : is_spelled (codes "postmaster") path ≡ true = rw none at is in
    let size : length path ≡ 10 = sym (length-map path to_ascii_lowercase) ∙ ap length (lower_of (codes "postmaster") path word) in
    shown_name path (rw size refl) all

short_parts : (path : List ℕ) → list_any (λ b. b == 64) path ≡ true → is_recipient path ≡ true → (is_short (local_of path) ≡ true) × (is_short (domain_of path) ≡ true)
short_parts path some is =
    let parts : (is_short (local_of path) && is_short (domain_of path)) ≡ true = rw some at is in
    both (is_short (local_of path)) (is_short (domain_of path)) parts

pub local_name : (path : List ℕ) → list_any (λ b. b == 64) path ≡ true → is_recipient path ≡ true → list_all is_visible path ≡ true → is_name (local_of path) ≡ true
local_name path some is all =
    shown_name (local_of path) (short_parts path some is).0 (all_front (length path - suffix_len (λ b. not (b == 64)) path - 1) path all)

pub domain_name : (path : List ℕ) → list_any (λ b. b == 64) path ≡ true → is_recipient path ≡ true → list_all is_visible path ≡ true → is_name (domain_of path) ≡ true
domain_name path some is all =
    shown_name (domain_of path) (short_parts path some is).1 (all_rest (length path - suffix_len (λ b. not (b == 64)) path) path all)

shown_some : (path found : List ℕ) → list_all is_visible path ≡ true → Some path ≡ Some found → list_all is_visible found ≡ true
shown_some path found all e = subst (λ p. list_all is_visible p ≡ true) (same_Some path found e) all

shown_if : (t : Bool) (path found : List ℕ) → list_all is_visible path ≡ true → cond t (Some path) None ≡ Some found → list_all is_visible found ≡ true
shown_if true path found all e = shown_some path found all e
shown_if false path found all e = absurd (let wrong : None ≡ Some found = e in cc)

shown_unrouted : (t : Bool) (path found : List ℕ) → list_all is_visible path ≡ true
    → cond t (Some path) (cond (list_any (λ b. b == 58) path) (Some (after_first (λ b. b == 58) path)) None) ≡ Some found → list_all is_visible found ≡ true
shown_unrouted true path found all e = shown_some path found all e
shown_unrouted false path found all e =
    shown_if (list_any (λ b. b == 58) path) (after_first (λ b. b == 58) path) found (all_rest (position_or_len (λ b. b == 58) path + 1) path all) e

-- the bytes of a path show
path_shows : (bytes : List ℕ) → list_all is_path_byte bytes ≡ true → list_all is_visible bytes ≡ true
path_shows [] e = refl
path_shows (b ∷ bytes) e =
    let p = both (is_path_byte b) (list_all is_path_byte bytes) e in
    and_true (is_visible b) (list_all is_visible bytes) (both (is_visible b) (not (b == 60)) p.0).0 (path_shows bytes p.1)

shown_path : (t : Bool) (rest found : List ℕ) → is_path rest ≡ t → cond t (unrouted (inside rest)) None ≡ Some found → list_all is_visible found ≡ true
shown_path false rest found is e = absurd (let wrong : None ≡ Some found = e in cc)
shown_path true rest found is e =
    let p = both (begins_with 60 rest && list_any (λ b. b == 62) rest && nat_le (length (inside rest)) 254) (list_all is_path_byte (inside rest)) is in
    shown_unrouted (not (begins_with 64 (inside rest))) (inside rest) found (path_shows (inside rest) p.1) e

recipient_if : (t : Bool) (path found : List ℕ) → is_recipient path ≡ t → cond t (Some path) None ≡ Some found → is_recipient found ≡ true
recipient_if true path found is e = subst (λ p. is_recipient p ≡ true) (same_Some path found e) is
recipient_if false path found is e = absurd (let wrong : None ≡ Some found = e in cc)

found_if : (t : Bool) (path found : List ℕ) → cond t (Some path) None ≡ Some found → path ≡ found
found_if true path found e = same_Some path found e
found_if false path found e = absurd (let wrong : None ≡ Some found = e in cc)

found_by : (o : Option (List ℕ)) (found : List ℕ) → ((path : List ℕ) → o ≡ Some path → list_all is_visible path ≡ true) → if_recipient o ≡ Some found
    → (is_recipient found ≡ true) × (list_all is_visible found ≡ true)
found_by None found shows e = absurd (let wrong : None ≡ Some found = e in cc)
found_by (Some path) found shows e = (
  recipient_if (is_recipient path) path found refl e,
  subst (λ p. list_all is_visible p ≡ true) (found_if (is_recipient path) path found e) (shows path refl),
)

-- a recipient's path that is found is one, and shows
pub recipient_found : (rest found : List ℕ) → recipient_path rest ≡ Some found → (is_recipient found ≡ true) × (list_all is_visible found ≡ true)
recipient_found rest found e = found_by (path_of rest) found (λ path is. shown_path (is_path rest) rest path refl is) e
