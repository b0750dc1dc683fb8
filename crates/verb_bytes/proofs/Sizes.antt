-- How many bytes fields take.
use Rattle.std.proofs.Common.{◌≡◌, ℕ, ◌+◌, ◌*◌, List, [], ◌∷◌, ◌++◌, length, Option, None, Some, refl, ap, ◌∙◌, arith}
use Rattle.std.specs.List.{flat_map}
use Rattle.std.specs.Int.{w32, w64}
use Rattle.std.proofs.lemmas.List.{length-append, append-nil}
use Rattle.std.proofs.lemmas.List.Concat.{flat_map-append}
use Rattle.undo_base.specs.declared.keys.Key.{Key}
use Rattle.undo_base.specs.declared.keys.User.{User}
use Rattle.verb_core.specs.declared.mailbox.Body.{Body}
use Rattle.verb_bytes.specs.declared.write.TheConstants.{LAST_USER}
use Rattle.verb_bytes.specs.Fields.{Field, most_of_four, bytes_of, byte_field, number_field, name_field, field_name_field, text_field, key_field, user_field, u32_field}
use Rattle.verb_bytes.specs.Places.{size_of, before_deed, before_kept_deed, before_act, before_ask, before_text}
use Rattle.verb_bytes.specs.declared.places.TextPlace.{TextPlace}

pub size_both : (a b : List Field) → size_of (a ++ b) ≡ size_of a + size_of b
unfolding size_of bytes_of
size_both a b = ap length (flat_map-append (λ (f : Field). f.bytes) a b) ∙ length-append (bytes_of a) (bytes_of b)

pub size_none : size_of [] ≡ 0
unfolding size_of bytes_of
size_none = refl

pub size_byte : (least most n : ℕ) → size_of (byte_field least most n) ≡ 1
unfolding size_of bytes_of byte_field
size_byte least most n = refl

pub size_u32 : (most n : ℕ) → size_of (number_field w32 most n) ≡ 4
unfolding size_of bytes_of number_field
size_u32 most n = refl

pub size_u64 : (most n : ℕ) → size_of (number_field w64 most n) ≡ 8
unfolding size_of bytes_of number_field
size_u64 most n = refl

pub size_name : (bytes : List ℕ) → size_of (name_field bytes) ≡ 1 + length bytes
unfolding size_of bytes_of name_field
size_name bytes = omega (arith, length-append bytes [])

pub size_field_name : (bytes : List ℕ) → size_of (field_name_field bytes) ≡ 1 + length bytes
unfolding size_of bytes_of field_name_field
size_field_name bytes = omega (arith, length-append bytes [])

pub size_text : (most : ℕ) (bytes : List ℕ) → size_of (text_field most bytes) ≡ 4 + length bytes
unfolding size_of bytes_of text_field
size_text most bytes = omega (arith, length-append bytes [])

pub size_key : (k : Key) → size_of (key_field k) ≡ 6
unfolding size_of bytes_of key_field
size_key k = refl

pub size_users : (us : List User) → size_of (flat_map user_field us) ≡ length us
size_users [] = size_none
size_users (u ∷ us) = omega (arith, size_both (user_field u) (flat_map user_field us), size_byte 0 LAST_USER u.0, size_users us)

pub size_numbers : (ns : List ℕ) → size_of (flat_map u32_field ns) ≡ 4 * length ns
size_numbers [] = size_none
size_numbers (n ∷ ns) = omega (arith, size_both (u32_field n) (flat_map u32_field ns), size_u32 most_of_four n, size_numbers ns)

pub ruleset sizes = (size_both, size_none, size_byte, size_u32, size_u64, size_name, size_field_name, size_text, size_key, size_users, size_numbers)

-- no text
pub no_place : (places : List TextPlace) → places ++ [] ≡ places
no_place places = append-nil places

pub ruleset act_sizes = (size_both, size_none, size_byte, size_u32, size_u64, size_name, size_field_name, size_text, size_key, size_users, size_numbers, no_place)

-- ---- before a text

pub before_deed_is : (number at : ℕ) (by : Option User) → before_deed number at by ≡ 14
unfolding size_of bytes_of byte_field number_field
before_deed_is number at None = refl
before_deed_is number at (Some u) = refl

pub before_act_is : (number at : ℕ) → before_act number at ≡ 13
unfolding size_of bytes_of byte_field number_field
before_act_is number at = refl

pub before_ask_is : (number at : ℕ) → before_ask number at ≡ 13
unfolding size_of bytes_of byte_field number_field
before_ask_is number at = refl

pub before_kept_deed_is : (number at : ℕ) (by : Option User) (rev : ℕ) → before_kept_deed number at by rev ≡ 18
unfolding size_of bytes_of byte_field number_field
before_kept_deed_is number at None rev = refl
before_kept_deed_is number at (Some u) rev = refl

pub before_text_is : (body : Body) → before_text body ≡ 9
unfolding size_of bytes_of byte_field number_field
before_text_is body = refl

-- behind the kind of a deed
pub ruleset kind_sizes = (size_both, size_byte)
