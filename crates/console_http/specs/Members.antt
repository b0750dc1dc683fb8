-- The members of a JSON object.
use Rattle.std.specs.Prelude.{ℕ, Bool, false, ◌==◌, nat_le, List, [], ◌∷◌, length, codes, Option, Some, None, is_some, Ok, Err, Result, option_and_then, option_map, if◌then◌else◌}
use Rattle.std.specs.Str.{is_utf8}
use Rattle.base64.specs.Engines.{standard}
use Rattle.base64.specs.GeneralPurpose.{decode_of}
use Rattle.base64.specs.declared.decode.DecodeError.{DecodeError}
use Rattle.serde_json.specs.Data.{Data, null, boolean, number, string, array, object, Items, no_items, item}
use Rattle.serde_json.specs.Events.{members_len}
use Rattle.serde_json.specs.Find.{get, as_number, as_u64, as_str, as_array, as_object}
use Rattle.serde_json.specs.Read.{read}
use Rattle.undo_base.specs.declared.keys.User.{User}
use Rattle.verb_core.specs.declared.conf.House.{House}
use Rattle.verb_core.specs.Recipients.{user_named}
use Rattle.console_http.specs.Parts.{name_of, box_name, local_of, field_of}

-- the JSON value that a body is
abbrev pub value_of : List ℕ → Option Data
value_of body = if is_utf8 body then read body else None

abbrev pub is_count : ℕ → Option ℕ → Bool
is_count n None = false
is_count n (Some m) = m == n

-- an object with so many members
abbrev pub has_members : ℕ → Data → Bool
has_members n d = is_count n (option_map members_len (as_object d))

-- 1 where there is such a member, else 0
abbrev pub one_at : List ℕ → Data → ℕ
one_at key d = if is_some (get key d) then 1 else 0

abbrev pub text_at : List ℕ → Data → Option (List ℕ)
text_at key d = option_and_then as_str (get key d)

-- a whole number up to a greatest
abbrev pub at_most : ℕ → ℕ → Option ℕ
at_most most n = if nat_le n most then Some n else None

abbrev pub whole_number : ℕ → Data → Option ℕ
whole_number most d = option_and_then (at_most most) (option_and_then as_u64 (as_number d))

abbrev pub number_at : List ℕ → ℕ → Data → Option ℕ
number_at key most d = option_and_then (whole_number most) (get key d)

abbrev pub name_at : List ℕ → Data → Option (List ℕ)
name_at key d = option_and_then name_of (text_at key d)

abbrev pub box_at : List ℕ → Data → Option (List ℕ)
box_at key d = option_and_then box_name (text_at key d)

abbrev pub local_at : Data → Option (List ℕ)
local_at d = option_and_then local_of (text_at (codes "local") d)

-- the member 'field', where it names a header field
abbrev pub field_at : Data → Option (List ℕ)
field_at d = option_and_then field_of (text_at (codes "field") d)

abbrev pub user_at : House → Data → Option User
user_at house d = option_and_then (user_named house) (text_at (codes "user") d)

-- the items of a list, each as it is read
abbrev pub each_of : {A : Type 0} → (Data → Option A) → Items → Option (List A)
each_of f no_items = Some []
each_of f (item d ds) = option_and_then (λ x. option_map (λ xs. x ∷ xs) (each_of f ds)) (f d)

-- the items of a list that may be missing
abbrev pub list_in : Option Data → Option Items
list_in None = Some no_items
list_in (Some d) = as_array d

abbrev pub list_at : List ℕ → Data → Option Items
list_at key d = list_in (get key d)

-- a user by name
abbrev pub user_in : House → Data → Option User
user_in house d = option_and_then (user_named house) (as_str d)

abbrev pub users_in : House → Items → Option (List User)
users_in house ds = each_of (user_in house) ds

-- at least one
abbrev pub some_users : List User → Option (List User)
some_users [] = None
some_users (user ∷ users) = Some (user ∷ users)

abbrev pub users_at : House → Data → Option (List User)
users_at house d = option_and_then some_users (option_and_then (users_in house) (option_and_then as_array (get (codes "users") d)))

-- the name of a mailbox, or null
abbrev pub file_in : Data → Option (Option (List ℕ))
file_in null = Some None
file_in (boolean b) = None
file_in (number n) = None
file_in (string s) = option_map Some (box_name s)
file_in (array ds) = None
file_in (object ms) = None

abbrev pub file_at : Data → Option (Option (List ℕ))
file_at d = option_and_then file_in (get (codes "file") d)

-- what strict standard base64 stands for (RFC 4648, 4)
abbrev pub told_bytes : Result (List ℕ) DecodeError → Option (List ℕ)
told_bytes (Ok bytes) = Some bytes
told_bytes (Err e) = None

-- a text of at most 1,052,672 bytes
abbrev pub short_text : List ℕ → Option (List ℕ)
short_text bytes = if nat_le (length bytes) 1052672 then Some bytes else None

abbrev pub text_in : List ℕ → Option (List ℕ)
text_in encoded = option_and_then short_text (told_bytes (decode_of standard encoded))

abbrev pub body_at : Data → Option (List ℕ)
body_at d = option_and_then text_in (text_at (codes "body") d)
