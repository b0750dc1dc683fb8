-- How bytes are written in scripts and transcripts: a byte from 0x20 to 0x7d stands for itself, and `~` begins the others.
use Rattle.std.specs.Prelude.{ℕ, ◌+◌, ◌-◌, ◌*◌, ◌/◌, ◌%◌, Bool, ◌==◌, ◌&&◌, ◌||◌, List, [], ◌∷◌, nat_le, nat_lt, Option, None, Some, option_map, if◌then◌else◌}

-- a byte that stands for itself
abbrev pub is_plain : ℕ → Bool
is_plain b = nat_le 32 b && nat_le b 125

-- a digit to base 16, in lower case
abbrev pub is_hex : ℕ → Bool
is_hex d = (nat_le 48 d && nat_le d 57) || (nat_le 97 d && nat_le d 102)

abbrev pub hex_value : ℕ → ℕ
hex_value d = if nat_le d 57 then d - 48 else d - 87

abbrev pub hex_digit : ℕ → ℕ
hex_digit n = if nat_lt n 10 then 48 + n else 87 + n

-- ---- reading

-- a plain byte, before what follows
abbrev pub plain : ℕ → Option (List ℕ) → Option (List ℕ)
plain b more = if is_plain b then option_map (λ bytes. b ∷ bytes) more else None

-- what `~` and one more byte stand for, before what follows: `~~` is `~`, `~r` is CR, `~n` is LF
abbrev pub named : ℕ → Option (List ℕ) → Option (List ℕ)
named c more =
    if c == 126 then option_map (λ bytes. 126 ∷ bytes) more
    else (if c == 114 then option_map (λ bytes. 13 ∷ bytes) more
    else (if c == 110 then option_map (λ bytes. 10 ∷ bytes) more
    else None))

-- what `~x` and two digits stand for, before what follows
abbrev pub numbered : ℕ → ℕ → Option (List ℕ) → Option (List ℕ)
numbered h l more = if is_hex h && is_hex l then option_map (λ bytes. (16 * hex_value h + hex_value l) ∷ bytes) more else None

-- the bytes that a text stands for
abbrev pub unspelled : List ℕ → Option (List ℕ)
unspelled [] = Some []
unspelled (b ∷ []) = plain b (Some [])
unspelled (b ∷ c ∷ []) = if b == 126 then named c (Some []) else plain b (unspelled (c ∷ []))
unspelled (b ∷ c ∷ h ∷ []) = if b == 126 then named c (unspelled (h ∷ [])) else plain b (unspelled (c ∷ h ∷ []))
unspelled (b ∷ c ∷ h ∷ l ∷ text) =
    if b == 126 then (if c == 120 then numbered h l (unspelled text) else named c (unspelled (h ∷ l ∷ text)))
    else plain b (unspelled (c ∷ h ∷ l ∷ text))

-- ---- writing

-- how a byte is written
abbrev pub spelled : ℕ → List ℕ
spelled b =
    if is_plain b then b ∷ []
    else (if b == 126 then 126 ∷ 126 ∷ []
    else (if b == 13 then 126 ∷ 114 ∷ []
    else (if b == 10 then 126 ∷ 110 ∷ []
    else 126 ∷ 120 ∷ hex_digit (b / 16) ∷ hex_digit (b % 16) ∷ [])))
