-- Fields that are written one after another.
use Rattle.std.proofs.Common.{◌≡◌, ℕ, ◌+◌, ◌<◌, ◌≤◌, Bool, true, false, ◌&&◌, List, [], ◌∷◌, ◌++◌, length, get_or, drop, Option, Some, None, Err, refl, sym, ap, subst, ◌∙◌, append_assoc, add-one, drop-cons}
use Rattle.std.specs.Prelude.{nat_le, nat_lt, if◌then◌else◌, option_and_then, unwrap_or}
use Rattle.std.specs.List.{flat_map}
use Rattle.std.specs.Int.{Width, w16, w32, to_be_bytes}
use Rattle.std.proofs.lemmas.Bool.{leb-true, lt-leb, lt-ltb, and_from}
use Rattle.std.proofs.lemmas.List.{append-nil, drop_all}
use Rattle.std.proofs.lemmas.List.Folds.{list_all-append}
use Rattle.std.proofs.lemmas.List.Concat.{flat_map-append}
use Rattle.verb_bytes.specs.declared.journal.JournalRecord.{JournalRecord}
use Rattle.verb_bytes.specs.declared.write.Unwritten.{Unwritten}
use Rattle.verb_bytes.specs.declared.write.Unwritten.TheVariants.{Unspelled, NoMemory}
use Rattle.verb_bytes.specs.Fields.{Field, field, bytes_of, are_in_range, only_if, number_field, is_name, name_field, key_field}
use Rattle.verb_bytes.specs.Spelling.{record_fields, Spells}
use Rattle.verb_bytes.specs.Writing.{written, Puts, Encodes}
use Rattle.undo_base.specs.declared.keys.Key.{Key}
use Rattle.undo_base.specs.Name.{IsName}
use Rattle.verb_bytes.proofs.Ranges.{name_fits}
use Rattle.verb_bytes.proofs.Exact.{in_range_parts, and_true}

pub first_in_range : (a b : List Field) → are_in_range (a ++ b) ≡ true → are_in_range a ≡ true
first_in_range a b h = (in_range_parts a b h).0

pub others_in_range : (a b : List Field) → are_in_range (a ++ b) ≡ true → are_in_range b ≡ true
others_in_range a b h = (in_range_parts a b h).1

pub number_in_range : (w : Width) (most n : ℕ) → are_in_range (number_field w most n) ≡ true → n ≤ most
unfolding number_field are_in_range
number_in_range w most n h = leb-true _ _ (and_true (nat_le n most) h)

-- ---- fields behind bytes

-- one field
pub one_written : (out : List ℕ) (holds : Bool) (bytes : List ℕ) → written out (field holds bytes) ≡ (if holds then Some (out ++ bytes) else None)
unfolding written bytes_of are_in_range
one_written out true bytes = ap (λ (x : List ℕ). Some (out ++ x)) (append-nil bytes)
one_written out false bytes = refl

pub both_in_range : (a b : List Field) → are_in_range (a ++ b) ≡ (are_in_range a && are_in_range b)
unfolding are_in_range
both_in_range a b = list_all-append (λ (f : Field). f.in_range) a b

both_bytes : (out : List ℕ) (a b : List Field) → out ++ bytes_of (a ++ b) ≡ (out ++ bytes_of a) ++ bytes_of b
unfolding bytes_of
both_bytes out a b = ap (λ (x : List ℕ). out ++ x) (flat_map-append (λ (f : Field). f.bytes) a b) ∙ sym (append_assoc out (bytes_of a) (bytes_of b))

-- a field of two parts
pub both_written : (out : List ℕ) (holds : Bool) (first next : List ℕ) → written out (field holds (first ++ next)) ≡ (if holds then Some ((out ++ first) ++ next) else None)
both_written out holds first next = one_written out holds (first ++ next) ∙ ap (λ (x : List ℕ). if holds then Some x else None) (sym (append_assoc out first next))

-- a number that is too large
pub none_past : (out : List ℕ) (w : Width) (most n : ℕ) → most < n → written out (number_field w most n) ≡ None
unfolding number_field
none_past out w most n lt = one_written out (nat_le n most) (to_be_bytes w n) ∙ ap (λ (t : Bool). if t then Some (out ++ to_be_bytes w n) else None) (lt-leb n most lt)

-- a name is in its range
pub name_same : (bytes : List ℕ) → IsName bytes → field true (length bytes ∷ bytes) ≡ name_field bytes
unfolding name_field are_in_range
name_same bytes name = ap (λ (t : Bool). field t (length bytes ∷ bytes)) (sym (and_true (is_name bytes) (name_fits bytes name)))

-- a key is in its range
pub key_same : (k : Key) → k.item < 4294967296 → k.index < 65536 → key_field k ≡ field true (to_be_bytes w32 k.item ++ to_be_bytes w16 k.index)
unfolding key_field
key_same k item index = ap (λ (t : Bool). field t (to_be_bytes w32 k.item ++ to_be_bytes w16 k.index)) (and_from (nat_lt k.item 4294967296) (nat_lt k.index 65536) (lt-ltb _ _ item) (lt-ltb _ _ index))

-- first these, and then those
pub written_joined : (out : List ℕ) (a b : List Field) → written out (a ++ b) ≡ option_and_then (λ (now : List ℕ). written now b) (written out a)
unfolding written
written_joined out a b =
    ap (λ (t : Bool). if t then Some (out ++ bytes_of (a ++ b)) else None) (both_in_range a b)
    ∙ ap (λ (x : List ℕ). if are_in_range a && are_in_range b then Some x else None) (both_bytes out a b)
    ∙ parts (are_in_range a) (are_in_range b) (out ++ bytes_of a) (bytes_of b)
  where
    parts : (s t : Bool) (x y : List ℕ) → (if s && t then Some (x ++ y) else None) ≡ option_and_then (λ (now : List ℕ). if t then Some (now ++ y) else None) (if s then Some x else None)
    parts false t x y = refl
    parts true t x y = refl

pub written_nothing : (out : List ℕ) → written out [] ≡ Some out
unfolding written bytes_of are_in_range
written_nothing out = ap (λ (x : List ℕ). Some x) (append-nil out)

-- what has no spelling
pub none_written : (out : List ℕ) → written out (only_if false) ≡ None
unfolding only_if
none_written out = one_written out false []

pub ruleset list_steps = (written_joined, written_nothing, none_written)

-- ---- the loop over a list's elements

split : {A : Type 0} (F : A → List Field) (xs : List A) (i : ℕ) (now : List ℕ) (d : A) → i < length xs → written now (flat_map F (drop i xs)) ≡ option_and_then (λ (o : List ℕ). written o (flat_map F (drop (i + 1) xs))) (written now (F (get_or xs i d)))
split F xs i now d lt =
    let k : drop i xs ≡ get_or xs i d ∷ drop (i + 1) xs = rw (add-one) (drop-cons xs i d lt) in
    ap (λ (ys : List _). written now (flat_map F ys)) k ∙ written_joined now (F (get_or xs i d)) (flat_map F (drop (i + 1) xs))

-- this one is written, and the others are still to be
pub writes_next : {A : Type 0} (F : A → List Field) (xs : List A) (i : ℕ) (start now after : List ℕ) (d : A) → i < length xs → written now (F (get_or xs i d)) ≡ Some after → written now (flat_map F (drop i xs)) ≡ written start (flat_map F xs) → written after (flat_map F (drop (i + 1) xs)) ≡ written start (flat_map F xs)
writes_next F xs i start now after d lt e w = ap (option_and_then (λ (o : List ℕ). written o (flat_map F (drop (i + 1) xs)))) (sym e) ∙ sym (split F xs i now d lt) ∙ w

-- this one is not written
pub writes_none : {A : Type 0} (F : A → List Field) (xs : List A) (i : ℕ) (start now after last : List ℕ) (d : A) (why : Unwritten) → i < length xs → Puts {A = Unit {0}} (F (get_or xs i d)) now after (Err why) → written now (flat_map F (drop i xs)) ≡ written start (flat_map F xs) → Puts {A = Unit {0}} (flat_map F xs) start last (Err why)
writes_none F xs i start now after last d NoMemory lt e w = tt
writes_none F xs i start now after last d Unspelled lt e w = sym w ∙ split F xs i now d lt ∙ ap (option_and_then (λ (o : List ℕ). written o (flat_map F (drop (i + 1) xs)))) e

-- each is written
pub writes_all : {A : Type 0} (F : A → List Field) (xs : List A) (i : ℕ) (start now : List ℕ) → length xs ≤ i → written now (flat_map F (drop i xs)) ≡ written start (flat_map F xs) → written start (flat_map F xs) ≡ Some now
writes_all {A} F xs i start now le w = sym w ∙ ap (λ (ys : List A). written now (flat_map F ys)) (drop_all i xs le) ∙ written_nothing now

-- ---- fields behind nothing: the spelling of a record

whole : (t : Bool) (x text : List ℕ) → (if t then Some x else None) ≡ Some text → (t ≡ true) × (text ≡ x)
whole true x text e = (refl, sym (ap (λ (o : Option (List ℕ)). unwrap_or o []) e))
whole false x text e = absurd cc

none : (t : Bool) (x : List ℕ) → (if t then Some x else None) ≡ None → t ≡ false
none true x e = absurd cc
none false x e = refl

pub spells : (what : JournalRecord) (start text : List ℕ) → start ≡ [] → written start (record_fields what) ≡ Some text → Spells what text
unfolding written
spells what start text empty e = whole (are_in_range (record_fields what)) (bytes_of (record_fields what)) text (subst (λ (x : List ℕ). written x (record_fields what) ≡ Some text) empty e)

pub spells_none : (what : JournalRecord) (start after : List ℕ) (why : Unwritten) → start ≡ [] → Puts {A = Unit {0}} (record_fields what) start after (Err why) → Encodes what (Err why)
unfolding written
spells_none what start after NoMemory empty e = tt
spells_none what start after Unspelled empty e = none (are_in_range (record_fields what)) (bytes_of (record_fields what)) (subst (λ (x : List ℕ). written x (record_fields what) ≡ None) empty e)
