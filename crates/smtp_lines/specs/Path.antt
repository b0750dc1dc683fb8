-- Paths in angle brackets (RFC 5321, 4.1.2).
use Rattle.std.specs.Prelude.{ℕ, Bool, false, not, ◌==◌, ◌&&◌, List, [], ◌∷◌, length, drop, nat_le, codes, Option, None, Some, if◌then◌else◌}
use Rattle.std.specs.List.{list_any, list_all, before_first, after_first, before_last, after_last}
use Rattle.smtp_lines.specs.Parts.{is_visible, is_spelled, is_short, starts_as, unspaced}

-- what follows the word before a path, and the spaces behind it; nothing where the word isn't there
abbrev pub path_at : List ℕ → List ℕ → List ℕ
path_at word argument = if starts_as word argument then unspaced (drop (length word) argument) else []

abbrev pub begins_with : ℕ → List ℕ → Bool
begins_with c [] = false
begins_with c (b ∷ bytes) = b == c

-- what stands between '<' and the first '>'
abbrev pub inside : List ℕ → List ℕ
inside bytes = before_first (λ b. b == 62) (drop 1 bytes)

-- what follows the first '>'
abbrev pub outside : List ℕ → List ℕ
outside bytes = after_first (λ b. b == 62) bytes

-- a byte that shows, other than '<'
abbrev pub is_path_byte : ℕ → Bool
is_path_byte b = is_visible b && not (b == 60)

-- bytes begin with '<', at most 254 bytes (RFC 5321, 4.5.3.1.3) and '>'
abbrev pub is_path : List ℕ → Bool
is_path bytes =
    begins_with 60 bytes && list_any (λ b. b == 62) bytes && nat_le (length (inside bytes)) 254 && list_all is_path_byte (inside bytes)

-- a path without its route, which is all through the first ':' where it begins with '@'
abbrev pub unrouted : List ℕ → Option (List ℕ)
unrouted path =
    if not (begins_with 64 path) then Some path
    else (if list_any (λ b. b == 58) path then Some (after_first (λ b. b == 58) path) else None)

-- the path that bytes begin with, without its brackets and its route
abbrev pub path_of : List ℕ → Option (List ℕ)
path_of bytes = if is_path bytes then unrouted (inside bytes) else None

abbrev pub local_of : List ℕ → List ℕ
local_of path = before_last (λ b. b == 64) path

abbrev pub domain_of : List ℕ → List ℕ
domain_of path = after_last (λ b. b == 64) path

abbrev pub has_domain : List ℕ → Bool
has_domain path = list_any (λ b. b == 64) path

-- a local part, the last '@' and a domain, or 'postmaster' alone (RFC 5321, 4.1.1.3)
abbrev pub is_recipient : List ℕ → Bool
is_recipient path =
    if has_domain path then is_short (local_of path) && is_short (domain_of path) else is_spelled (codes "postmaster") path
