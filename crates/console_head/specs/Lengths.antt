-- How many octets of a body the headers announce (RFC 9112, 6).
use Rattle.std.specs.Prelude.{ℕ, Bool, not, ◌==◌, ◌&&◌, ◌||◌, List, [], length, drop, find, position, codes, nat_le, Option, Some, None, if◌then◌else◌}
use Rattle.std.specs.List.{list_all, list_any}
use Rattle.std.specs.Char.{is_ascii_digit}
use Rattle.std.specs.Str.{bytes_eq, str_to_ascii_lowercase}
use Rattle.undo_base.specs.Digits.{number_of}

-- a header is its name, and its value without the white space around it
abbrev pub Header : Type 0
Header = List ℕ × List ℕ

-- names ignore case (RFC 9110, 5.1)
abbrev pub is_named : List ℕ → Header → Bool
is_named name header = bytes_eq (str_to_ascii_lowercase header.0) name

abbrev pub is_coding : Header → Bool
is_coding header = is_named (codes "transfer-encoding") header

abbrev pub is_length : Header → Bool
is_length header = is_named (codes "content-length") header

-- one digit or more (RFC 9110, 8.6)
abbrev pub is_number : List ℕ → Bool
is_number text = nat_le 1 (length text) && list_all is_ascii_digit text

abbrev pub from_place : List ℕ → Option ℕ → List ℕ
from_place digits None = []
from_place digits (Some place) = drop place digits

-- digits without the zeros in front: two numbers are the same where these are
abbrev pub significant : List ℕ → List ℕ
significant digits = from_place digits (position (λ d. not (d == 48)) digits)

-- a header that is no length, or is the same number as the first one
abbrev pub agrees : List ℕ → Header → Bool
agrees first header = not (is_length header) || (is_number header.1 && bytes_eq (significant header.1) (significant first))

-- the length, if all agree
abbrev pub agreed : List Header → Option Header → Option ℕ
agreed headers None = Some 0
agreed headers (Some first) = if list_all (agrees first.1) headers then Some (number_of first.1) else None

-- how many octets the body has; none where there is a transfer coding, a length that is not digits, or two that differ
abbrev pub body_length : List Header → Option ℕ
body_length headers = if list_any is_coding headers then None else agreed headers (find is_length headers)
