-- What the texts of a configuration may be.
use Rattle.std.specs.Prelude.{ℕ, Bool, ◌==◌, ◌&&◌, ◌||◌, not, true, List, [], ◌∷◌, length, nat_le, bytes_eq, codes}
use Rattle.std.specs.List.{list_all, list_any}
use Rattle.undo_base.specs.Name.{is_printable}

abbrev pub is_sized : ℕ → List ℕ → Bool
is_sized most text = nat_le 1 (length text) && nat_le (length text) most

abbrev pub is_visible : ℕ → Bool
is_visible b = nat_le 33 b && nat_le b 126

-- a host or a domain: 1 to 200 bytes from 0x21 to 0x7e
abbrev pub is_host : List ℕ → Bool
is_host text = is_sized 200 text && list_all is_visible text

-- a password: 1 to 200 printable bytes
abbrev pub is_password : List ℕ → Bool
is_password text = is_sized 200 text && list_all is_printable text

-- a to z, 0 to 9, '.', '-' and '_'
abbrev pub is_local_byte : ℕ → Bool
is_local_byte b = (nat_le 97 b && nat_le b 122) || (nat_le 48 b && nat_le b 57) || (b == 46) || (b == 45) || (b == 95)

-- a local part: 1 to 64 of these
abbrev pub is_local : List ℕ → Bool
is_local text = is_sized 64 text && list_all is_local_byte text

abbrev pub is_postmaster : List ℕ → Bool
is_postmaster text = bytes_eq text (codes "postmaster")

-- a user's name: a local part other than `postmaster`
abbrev pub is_user_name : List ℕ → Bool
is_user_name text = is_local text && not (is_postmaster text)

-- whether no text stands twice
abbrev pub are_distinct : List (List ℕ) → Bool
are_distinct [] = true
are_distinct (text ∷ texts) = not (list_any (bytes_eq text) texts) && are_distinct texts
