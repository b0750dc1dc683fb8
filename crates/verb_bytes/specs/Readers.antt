-- Reading from left to right, up to the first field that is cut or out of its range.
use Rattle.std.specs.Prelude.{◌≡◌, ℕ, zero, suc, ◌-◌, ◌/◌, ◌%◌, Bool, true, false, ◌&&◌, ◌==◌, nat_lt, nat_le, if◌then◌else◌, List, [], ◌∷◌, length, take, drop, Option, Some, None, option_and_then, Result, Ok, Err}
use Rattle.std.specs.Int.{Width, w16, w32, w64, byte_len, from_be_bytes}
use Rattle.undo_base.specs.declared.keys.User.{User}
use Rattle.undo_base.specs.declared.keys.Key.{Key}
use Rattle.undo_base.specs.declared.keys.Flags.{Flags}
use Rattle.verb_bytes.specs.declared.cursor.Stop.{Stop}
use Rattle.verb_bytes.specs.declared.cursor.Stop.TheVariants.{At, NoMemory}
use Rattle.undo_base.specs.declared.limits.TheConstants.{LAST_MOMENT}
use Rattle.verb_bytes.specs.declared.kinds.TheConstants.{LAST_RECORD, LAST_ACT}
use Rattle.verb_bytes.specs.declared.write.TheConstants.{ALL_FLAGS, LAST_USER, NOBODY}
use Rattle.header_fields.specs.Values.{is_field_name}
use Rattle.verb_bytes.specs.Fields.{is_name, most_of_four}

-- what is read at the front and the bytes behind it; or how many bytes are left from the first field on that is cut or
-- out of its range
abbrev pub Reader : Type 0 → Type 0
Reader A = List ℕ → Result (A × List ℕ) ℕ

-- ---- one field

-- a field whose value is found at the front, or that is refused where it begins
abbrev pub field_or : {A : Type 0} → ℕ → Option (A × List ℕ) → Result (A × List ℕ) ℕ
field_or left None = Err left
field_or left (Some found) = Ok found

abbrev pub field_at : {A : Type 0} → (List ℕ → Option (A × List ℕ)) → Reader A
field_at find bytes = field_or (length bytes) (find bytes)

-- so many bytes, and those behind them
abbrev pub cut : ℕ → List ℕ → Option (List ℕ × List ℕ)
cut count bytes = if nat_lt (length bytes) count then None else Some (take count bytes, drop count bytes)

abbrev pub when : {A : Type 0} → Bool → A → Option A
when holds x = if holds then Some x else None

abbrev pub find_byte : ℕ → ℕ → List ℕ → Option (ℕ × List ℕ)
find_byte least most [] = None
find_byte least most (n ∷ rest) = when (nat_le least n && nat_le n most) (n, rest)

abbrev pub find_number : Width → ℕ → List ℕ → Option (ℕ × List ℕ)
find_number w most bytes = option_and_then (λ (p : List ℕ × List ℕ). when (nat_le (from_be_bytes w p.0) most) (from_be_bytes w p.0, p.1)) (cut (byte_len w) bytes)

-- bytes behind their length in one byte, where they pass the test
abbrev pub find_short : (List ℕ → Bool) → List ℕ → Option (List ℕ × List ℕ)
find_short test [] = None
find_short test (n ∷ rest) = option_and_then (λ (p : List ℕ × List ℕ). when (test p.0) p) (cut n rest)

abbrev pub find_text : ℕ → List ℕ → Option (List ℕ × List ℕ)
find_text most bytes = option_and_then (λ (n : ℕ × List ℕ). cut n.0 n.1) (find_number w32 most bytes)

abbrev pub find_key : List ℕ → Option (Key × List ℕ)
find_key bytes = option_and_then (λ (p : List ℕ × List ℕ). Some (record { item = from_be_bytes w32 (take 4 p.0); index = from_be_bytes w16 (drop 4 p.0) }, p.1)) (cut 6 bytes)

abbrev pub user_of : ℕ → User
user_of n = record { 0 = n }

-- 255 for nobody
abbrev pub actor_of : ℕ → Option (Option User)
actor_of n = if n == NOBODY then Some None else when (nat_le n LAST_USER) (Some (user_of n))

abbrev pub find_actor : List ℕ → Option (Option User × List ℕ)
find_actor [] = None
find_actor (n ∷ rest) = option_and_then (λ (a : Option User). Some (a, rest)) (actor_of n)

unfoldable pub byte_at : ℕ → ℕ → Reader ℕ
byte_at least most = field_at (find_byte least most)

unfoldable pub number_at : Width → ℕ → Reader ℕ
number_at w most = field_at (find_number w most)

unfoldable pub name_at : Reader (List ℕ)
name_at = field_at (find_short is_name)

unfoldable pub field_name_at : Reader (List ℕ)
field_name_at = field_at (find_short is_field_name)

unfoldable pub text_at : ℕ → Reader (List ℕ)
text_at most = field_at (find_text most)

unfoldable pub key_at : Reader Key
key_at = field_at find_key

unfoldable pub actor_at : Reader (Option User)
actor_at = field_at find_actor

-- ---- fields that follow one another

abbrev pub and_then : {A B : Type 0} → Result (A × List ℕ) ℕ → (A → Reader B) → Result (B × List ℕ) ℕ
and_then (Err left) next = Err left
and_then (Ok x) next = next x.0 x.1

infixl 10 ◌>>=◌
abbrev pub ◌>>=◌ : {A B : Type 0} → Reader A → (A → Reader B) → Reader B
first >>= next = λ bytes. and_then (first bytes) next

-- a value that no byte stands for
abbrev pub done : {A : Type 0} → A → Reader A
done x = λ bytes. Ok (x, bytes)

-- what was read, where the test passes at it; else it is refused where it begins, with so many bytes left
abbrev pub kept_if : {A : Type 0} → (A → Bool) → ℕ → Result (A × List ℕ) ℕ → Result (A × List ℕ) ℕ
kept_if test left (Err at) = Err at
kept_if test left (Ok x) = if test x.0 then Ok x else Err left

abbrev pub such_that : {A : Type 0} → (A → Bool) → Reader A → Reader A
such_that test one = λ bytes. kept_if test (length bytes) (one bytes)

-- nothing can be read here
abbrev pub refused : {A : Type 0} → Reader A
refused = λ bytes. Err (length bytes)

abbrev pub read1 : {A C : Type 0} → (A → C) → Reader A → Reader C
read1 make a = a >>= λ x. done (make x)

abbrev pub read2 : {A B C : Type 0} → (A → B → C) → Reader A → Reader B → Reader C
read2 make a b = a >>= λ x. read1 (make x) b

abbrev pub read3 : {A B D C : Type 0} → (A → B → D → C) → Reader A → Reader B → Reader D → Reader C
read3 make a b d = a >>= λ x. read2 (make x) b d

abbrev pub read4 : {A B D E C : Type 0} → (A → B → D → E → C) → Reader A → Reader B → Reader D → Reader E → Reader C
read4 make a b d e = a >>= λ x. read3 (make x) b d e

abbrev pub read5 : {A B D E F C : Type 0} → (A → B → D → E → F → C) → Reader A → Reader B → Reader D → Reader E → Reader F → Reader C
read5 make a b d e f = a >>= λ x. read4 (make x) b d e f

abbrev pub read6 : {A B D E F G C : Type 0} → (A → B → D → E → F → G → C) → Reader A → Reader B → Reader D → Reader E → Reader F → Reader G → Reader C
read6 make a b d e f g = a >>= λ x. read5 (make x) b d e f g

abbrev pub read7 : {A B D E F G H C : Type 0} → (A → B → D → E → F → G → H → C) → Reader A → Reader B → Reader D → Reader E → Reader F → Reader G → Reader H → Reader C
read7 make a b d e f g h = a >>= λ x. read6 (make x) b d e f g h

-- ---- lists and choices

-- one after the other
unfoldable pub times : {A : Type 0} → ℕ → Reader A → Reader (List A)
times zero one = done []
times (suc n) one = one >>= λ x. times n one >>= λ xs. done (x ∷ xs)

-- a count of at most this many, and so many elements
abbrev pub list_at : {A : Type 0} → ℕ → Reader A → Reader (List A)
list_at most one = number_at w32 most >>= λ n. times n one

-- the case of this number
abbrev pub nth_case : {A : Type 0} → ℕ → List (Reader A) → Reader A
nth_case n [] = refused
nth_case zero (c ∷ cs) = c
nth_case (suc n) (c ∷ cs) = nth_case n cs

-- a byte from the least to the most says which of the cases follows, the first of which is the least's
abbrev pub choice_at : {A : Type 0} → ℕ → ℕ → List (Reader A) → Reader A
choice_at least most cases = byte_at least most >>= λ n. nth_case (n - least) cases

abbrev pub record_kind_at : Reader ℕ
record_kind_at = byte_at 0 LAST_RECORD

abbrev pub act_kind_at : Reader ℕ
act_kind_at = byte_at 1 LAST_ACT

abbrev pub deed_kind_at : ℕ → Reader ℕ
deed_kind_at last = byte_at 1 last

abbrev pub option_at : {A : Type 0} → Reader A → Reader (Option A)
option_at one = choice_at 0 1 (done None ∷ read1 Some one ∷ [])

abbrev pub bool_at : Reader Bool
bool_at = choice_at 0 1 (done false ∷ done true ∷ [])

-- ---- numbers that mean something

abbrev pub u32_at : Reader ℕ
u32_at = number_at w32 most_of_four

abbrev pub moment_at : Reader ℕ
moment_at = number_at w64 LAST_MOMENT

-- whether a byte has the bit that is worth this much
abbrev pub has_bit : ℕ → ℕ → Bool
has_bit n worth = (n / worth) % 2 == 1

abbrev pub flags_of : ℕ → Flags
flags_of n = record { answered = has_bit n 1; flagged = has_bit n 2; deleted = has_bit n 4; seen = has_bit n 8; draft = has_bit n 16 }

abbrev pub flags_at : Reader Flags
flags_at = read1 flags_of (byte_at 0 ALL_FLAGS)

abbrev pub user_at : Reader User
user_at = read1 user_of (byte_at 0 LAST_USER)

-- ---- the code

-- what a call that moved a cursor returned is what this reader reads, unless no memory was found
abbrev pub Gives : {A : Type 0} → Reader A → List ℕ → List ℕ → Result A Stop → Type 0
Gives reader old new (Ok x) = reader old ≡ Ok (x, new)
Gives reader old new (Err (At left)) = reader old ≡ Err left
Gives reader old new (Err NoMemory) = Unit {0}
