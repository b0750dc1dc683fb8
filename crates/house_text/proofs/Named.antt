-- What is made a name of a configuration is one.
use Rattle.std.proofs.Common.{◌≡◌, ℕ, ◌≤◌, Bool, true, not, ◌==◌, ◌&&◌, ◌||◌, inl, inr, List, [], ◌∷◌, length, nat_le, refl, arith}
use Rattle.std.specs.List.{list_all}
use Rattle.std.proofs.lemmas.Bool.{and_parts, or_cases, leb-true, le-leb, eqb-true}
use Rattle.undo_base.specs.Name.{is_name, is_printable}
use Rattle.verb_core.specs.declared.conf.Account.{Account}
use Rattle.house_text.specs.Words.{is_sized, is_visible, is_host, is_password, is_local, is_local_byte, is_postmaster, is_user_name}
use Rattle.house_text.specs.Configuration.{is_alias, is_named}

-- bytes print where each passes a test that printable bytes alone pass
all_print : (test : ℕ → Bool) → ((b : ℕ) → test b ≡ true → is_printable b ≡ true) → (text : List ℕ) → list_all test text ≡ true → list_all is_printable text ≡ true
all_print test prints [] e = refl
all_print test prints (b ∷ text) e =
    let p = and_parts (test b) (list_all test text) e in
    rw (prints b p.0, all_print test prints text p.1) refl

-- between two bytes that print
between : (low high b : ℕ) → 32 ≤ low → high ≤ 126 → (nat_le low b && nat_le b high) ≡ true → is_printable b ≡ true
between low high b first last e =
    let ends = and_parts (nat_le low b) (nat_le b high) e in
    let above : low ≤ b = leb-true low b ends.0 in
    let below : b ≤ high = leb-true b high ends.1 in
    rw (le-leb 32 b (omega arith), le-leb b 126 (omega arith)) refl

visible_prints : (b : ℕ) → is_visible b ≡ true → is_printable b ≡ true
visible_prints b e = between 33 126 b (omega arith) (omega arith) e

mark_prints : (c b : ℕ) → 32 ≤ c → c ≤ 126 → (b == c) ≡ true → is_printable b ≡ true
mark_prints c b low high e =
    let same : b ≡ c = eqb-true b c e in
    rw (le-leb 32 b (omega arith), le-leb b 126 (omega arith)) refl

local_prints : (b : ℕ) → is_local_byte b ≡ true → is_printable b ≡ true
local_prints b e =
    let letter = nat_le 97 b && nat_le b 122 in
    let digit = nat_le 48 b && nat_le b 57 in
    elim (or_cases (letter || digit || b == 46 || b == 45) (b == 95) e) [
      | inr is ↦ mark_prints 95 b (omega arith) (omega arith) is
      | inl e ↦ elim (or_cases (letter || digit || b == 46) (b == 45) e) [
        | inr is ↦ mark_prints 45 b (omega arith) (omega arith) is
        | inl e ↦ elim (or_cases (letter || digit) (b == 46) e) [
          | inr is ↦ mark_prints 46 b (omega arith) (omega arith) is
          | inl e ↦ elim (or_cases letter digit e) [
            | inr is ↦ between 48 57 b (omega arith) (omega arith) is
            | inl is ↦ between 97 122 b (omega arith) (omega arith) is
          ]
        ]
      ]
    ]

-- a host or a domain
pub host_name : (text : List ℕ) → is_host text ≡ true → is_name text ≡ true
host_name text e =
    let p = and_parts (is_sized 200 text) (list_all is_visible text) e in
    rw (p.0, all_print is_visible visible_prints text p.1) refl

-- a password, by its definition
pub password_name : (text : List ℕ) → is_password text ≡ true → is_name text ≡ true
password_name text e = e

-- a user's name
pub user_name : (text : List ℕ) → is_user_name text ≡ true → is_name text ≡ true
user_name text e =
    let p = and_parts (is_local text) (not (is_postmaster text)) e in
    let q = and_parts (is_sized 64 text) (list_all is_local_byte text) p.0 in
    let ends = and_parts (nat_le 1 (length text)) (nat_le (length text) 64) q.0 in
    let most : length text ≤ 64 = leb-true (length text) 64 ends.1 in
    rw (ends.0, le-leb (length text) 200 (omega arith), all_print is_local_byte local_prints text q.1) refl

-- the local part of an alias
pub alias_name : (accounts : List Account) (local : List ℕ) → is_alias accounts local ≡ true → is_name local ≡ true
alias_name accounts local e = user_name local (and_parts (is_user_name local) (not (is_named accounts local)) e).0
