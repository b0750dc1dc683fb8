-- Reading the items of a list one after another.
use Rattle.std.proofs.Common.{◌≡◌, ℕ, ◌+◌, ◌<◌, List, [], ◌∷◌, ◌++◌, Option, Some, None, length, drop, get_or, refl, sym, ap, ◌∙◌, append_assoc, add-one, drop-cons}
use Rattle.std.specs.Prelude.{option_map}
use Rattle.serde_json.specs.Data.{Data}
use Rattle.serde_json.specs.declared.value.Value.{Value}
use Rattle.serde_json.specs.View.{view, items_view}
use Rattle.undo_base.specs.declared.keys.User.{User}
use Rattle.verb_core.specs.declared.conf.House.{House}
use Rattle.verb_core.specs.declared.item.Act.{Act}
use Rattle.console_http.specs.Members.{each_of, user_in, whole_number}
use Rattle.console_http.specs.Acts.{act_of}
use Rattle.console_http.specs.Cycles.{replace_of}

-- the items that were read, and those of the rest
abbrev pub IsReadSoFar : {A : Type 0} → (Data → Option A) → List A → List Value → List Value → Type 0
IsReadSoFar f done rest all = option_map (λ xs. done ++ xs) (each_of f (items_view rest)) ≡ each_of f (items_view all)

-- ---- whatever each item is read as

map-cons : {A : Type 0} (done : List A) (x : A) (o : Option (List A)) → option_map (λ xs. done ++ xs) (option_map (λ xs. x ∷ xs) o) ≡ option_map (λ xs. (done ++ x ∷ []) ++ xs) o
map-cons done x None = refl
map-cons done x (Some o) = ap Some (sym (append_assoc done (x ∷ []) o))

map-id : {A : Type 0} (o : Option (List A)) → option_map (λ xs. [] ++ xs) o ≡ o
map-id None = refl
map-id (Some o) = refl

none : {A : Type 0} (f : Data → Option A) (all : List Value) → IsReadSoFar f [] all all
none f all = map-id (each_of f (items_view all))

more : {A : Type 0} (f : Data → Option A) (done : List A) (all : List Value) (i : ℕ) (x : A) (v : Value) → i < length all → Some x ≡ f (view (get_or all i v))
    → IsReadSoFar f done (drop i all) all → IsReadSoFar f (done ++ x ∷ []) (drop (i + 1) all) all
more f done all i x v h e far =
    let cut : drop i all ≡ get_or all i v ∷ drop (i + 1) all = rw add-one (drop-cons all i v h) in
    let far2 = rw (cut, sym e) at far in
    sym (map-cons done x (each_of f (items_view (drop (i + 1) all)))) ∙ far2

bad : {A : Type 0} (f : Data → Option A) (done : List A) (all : List Value) (i : ℕ) (v : Value) → i < length all → None ≡ f (view (get_or all i v))
    → IsReadSoFar f done (drop i all) all → None ≡ each_of f (items_view all)
bad f done all i v h e far =
    let cut : drop i all ≡ get_or all i v ∷ drop (i + 1) all = rw add-one (drop-cons all i v h) in
    rw (cut, sym e) at far

-- ---- users

pub users_none : (house : House) (all : List Value) → IsReadSoFar (user_in house) [] all all
users_none house all = none (user_in house) all

pub users_more : (house : House) (done : List User) (all : List Value) (i : ℕ) (u : User) (v : Value) → i < length all → Some u ≡ user_in house (view (get_or all i v))
    → IsReadSoFar (user_in house) done (drop i all) all → IsReadSoFar (user_in house) (done ++ u ∷ []) (drop (i + 1) all) all
users_more house = more (user_in house)

pub users_bad : (house : House) (done : List User) (all : List Value) (i : ℕ) (v : Value) → i < length all → None ≡ user_in house (view (get_or all i v))
    → IsReadSoFar (user_in house) done (drop i all) all → None ≡ each_of (user_in house) (items_view all)
users_bad house = bad (user_in house)

-- ---- numbers

pub numbers_none : (most : ℕ) (all : List Value) → IsReadSoFar (whole_number most) [] all all
numbers_none most all = none (whole_number most) all

pub numbers_more : (most : ℕ) (done : List ℕ) (all : List Value) (i n : ℕ) (v : Value) → i < length all → Some n ≡ whole_number most (view (get_or all i v))
    → IsReadSoFar (whole_number most) done (drop i all) all → IsReadSoFar (whole_number most) (done ++ n ∷ []) (drop (i + 1) all) all
numbers_more most = more (whole_number most)

pub numbers_bad : (most : ℕ) (done : List ℕ) (all : List Value) (i : ℕ) (v : Value) → i < length all → None ≡ whole_number most (view (get_or all i v))
    → IsReadSoFar (whole_number most) done (drop i all) all → None ≡ each_of (whole_number most) (items_view all)
numbers_bad most = bad (whole_number most)

-- ---- texts that items are to get

pub replaces_none : (all : List Value) → IsReadSoFar replace_of [] all all
replaces_none all = none replace_of all

pub replaces_more : (done : List (ℕ × List ℕ)) (all : List Value) (i : ℕ) (r : ℕ × List ℕ) (v : Value) → i < length all → Some r ≡ replace_of (view (get_or all i v))
    → IsReadSoFar replace_of done (drop i all) all → IsReadSoFar replace_of (done ++ r ∷ []) (drop (i + 1) all) all
replaces_more = more replace_of

pub replaces_bad : (done : List (ℕ × List ℕ)) (all : List Value) (i : ℕ) (v : Value) → i < length all → None ≡ replace_of (view (get_or all i v))
    → IsReadSoFar replace_of done (drop i all) all → None ≡ each_of replace_of (items_view all)
replaces_bad = bad replace_of

-- ---- acts

pub acts_none : (house : House) (all : List Value) → IsReadSoFar (act_of house) [] all all
acts_none house all = none (act_of house) all

pub acts_more : (house : House) (done : List Act) (all : List Value) (i : ℕ) (act : Act) (v : Value) → i < length all → Some act ≡ act_of house (view (get_or all i v))
    → IsReadSoFar (act_of house) done (drop i all) all → IsReadSoFar (act_of house) (done ++ act ∷ []) (drop (i + 1) all) all
acts_more house = more (act_of house)

pub acts_bad : (house : House) (done : List Act) (all : List Value) (i : ℕ) (v : Value) → i < length all → None ≡ act_of house (view (get_or all i v))
    → IsReadSoFar (act_of house) done (drop i all) all → None ≡ each_of (act_of house) (items_view all)
acts_bad house = bad (act_of house)
