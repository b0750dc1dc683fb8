-- What is read as a name is one.
use Rattle.std.proofs.Common.{◌≡◌, ℕ, ◌≤◌, Bool, true, ◌&&◌, List, [], ◌∷◌, length, refl, arith}
use Rattle.std.specs.Prelude.{nat_le, codes}
use Rattle.std.specs.List.{list_all}
use Rattle.std.specs.Str.{bytes_eq, str_to_ascii_lowercase}
use Rattle.std.proofs.lemmas.Bool.{and_parts, and_from, cond_both, le-leb, leb-true}
use Rattle.std.proofs.lemmas.Bool.Decides.{nat_tests}
use Rattle.undo_base.specs.Name.{IsName, is_name, is_printable}
use Rattle.undo_base.proofs.Names.{name_is}
use Rattle.verb_core.specs.Names.{inbox}
use Rattle.console_http.specs.Parts.{name_of, kept, box_name, is_local_byte, is_local, local_of}
use Rattle.console_http.proofs.Each.{Each, each_map, each_when}

pub name_named : (text : List ℕ) → Each IsName (name_of text)
name_named text = each_when IsName (is_name text) text (name_is text)

-- ---- mailboxes

kept_named : (name : List ℕ) → IsName name → IsName (kept name)
kept_named name h = cond_both (bytes_eq (str_to_ascii_lowercase name) (codes "inbox")) inbox name IsName (λ e. name_is inbox refl) (λ e. h)

pub box_named : (text : List ℕ) → Each IsName (box_name text)
box_named text = each_map IsName IsName kept kept_named (name_of text) (name_named text)

-- ---- local parts

local_printable : (b : ℕ) → is_local_byte b ≡ true → is_printable b ≡ true
local_printable b e = grind (arith, nat_tests)

all_weaker : {A : Type 0} (some every : A → Bool) → ((x : A) → some x ≡ true → every x ≡ true) → (xs : List A) → list_all some xs ≡ true → list_all every xs ≡ true
all_weaker some every so [] e = refl
all_weaker some every so (x ∷ xs) e =
    let p = and_parts (some x) (list_all some xs) e in
    and_from (every x) (list_all every xs) (so x p.0) (all_weaker some every so xs p.1)

pub local_name : (text : List ℕ) → is_local text ≡ true → is_name text ≡ true
local_name text e =
    let p = and_parts (nat_le 1 (length text) && nat_le (length text) 64) (list_all is_local_byte text) e in
    let q = and_parts (nat_le 1 (length text)) (nat_le (length text) 64) p.0 in
    let most : length text ≤ 64 = leb-true (length text) 64 q.1 in
    rw (q.0, le-leb (length text) 200 (omega (arith, most)), all_weaker is_local_byte is_printable local_printable text p.1) refl

local_is : (text : List ℕ) → is_local text ≡ true → IsName text
local_is text e = name_is text (local_name text e)

pub local_named : (text : List ℕ) → Each IsName (local_of text)
local_named text = each_when IsName (is_local text) text (local_is text)
