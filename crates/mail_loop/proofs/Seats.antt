-- The table of connections.
use Rattle.std.proofs.Common.{◌≡◌, ℕ, Bool, true, false, cond, List, [], ◌∷◌, suc, ◌<◌, ◌≤◌, ◌-◌, length, take, drop, get_or, arith, refl, ap, sym, ◌∙◌}
use Rattle.std.proofs.lemmas.List.{take_all}
use Rattle.std.proofs.lemmas.List.Elements.{All-nil}
use Rattle.std.proofs.lemmas.Map.Views.{All-map-remove_entry}
use Rattle.std.specs.BTreeMap.{is_at}
use Rattle.std.specs.Ordering.{nat_cmp}
use Rattle.std.specs.Map.{remove_entry, set_value}
use Rattle.verb_core.specs.declared.conf.House.{House}
use Rattle.mail_loop.specs.State.{Seats}
use Rattle.mail_loop.specs.Machine.{after_reply}
use Rattle.mail_loop.specs.Stands.{AreHome, IsHome}

-- what is set and then removed was removed
pub remove_set : {X : Type 0} → (test : ℕ → Bool) (es : List (ℕ × X)) (w : X) → remove_entry test (set_value test es w) ≡ remove_entry test es
remove_set test [] w = refl
remove_set {X} test (e ∷ es) w = by_test (test e.0) refl (remove_set test es w)
  where
    by_test : (b : Bool) → test e.0 ≡ b → remove_entry test (set_value test es w) ≡ remove_entry test es
        → remove_entry test (cond b ((e.0, w) ∷ es) (e ∷ set_value test es w)) ≡ cond b es (e ∷ remove_entry test es)
    by_test true is more = ap (λ c. cond c es ((e.0, w) ∷ remove_entry test es)) is
    by_test false is more = ap (λ c. cond c (set_value test es w) (e ∷ remove_entry test (set_value test es w))) is ∙ ap (λ l. e ∷ l) more

-- no more are left where one is removed
pub fewer_left : {X : Type 0} → (test : ℕ → Bool) (es : List (ℕ × X)) → length (remove_entry test es) ≤ length es
fewer_left test [] = omega arith
fewer_left {X} test (e ∷ es) = by_test (test e.0) (fewer_left test es)
  where
    by_test : (b : Bool) → length (remove_entry test es) ≤ length es → length (cond b es (e ∷ remove_entry test es)) ≤ length (e ∷ es)
    by_test true less = let more : length (e ∷ es) ≡ suc (length es) = refl in omega (arith, more)
    by_test false less =
        let more : length (e ∷ es) ≡ suc (length es) = refl in
        let left : length (e ∷ remove_entry test es) ≡ suc (length (remove_entry test es)) = refl in
        omega (arith, more, left, less)

-- a list of none
pub no_items : {X : Type 0} → (xs : List X) → length xs < 1 → xs ≡ []
no_items [] h = refl
no_items (x ∷ xs) h = absurd (let more : length (x ∷ xs) ≡ suc (length xs) = refl in omega arith)

-- a list of one or more is its first and the others
pub first_and_rest : {X : Type 0} → (xs : List X) (x : X) → 1 ≤ length xs → x ≡ get_or xs 0 x → xs ≡ x ∷ take (length xs - 1) (drop 1 xs)
first_and_rest [] x h is = absurd (omega arith)
first_and_rest (y ∷ xs) x h is =
    ap (λ z. z ∷ xs) (sym is) ∙ ap (λ l. x ∷ l) (sym (take_all (length (y ∷ xs) - 1) xs (let more : length (y ∷ xs) ≡ suc (length xs) = refl in omega arith)))

-- no connection is open
pub none_home : (house : House) → AreHome house []
none_home house = All-nil (IsHome house)

-- a connection is forgotten, unless it stays open
pub home_after : (house : House) (stays : Bool) (conn : ℕ) (es : Seats) → AreHome house es → AreHome house (after_reply stays conn es)
home_after house true conn es held = held
home_after house false conn es held = All-map-remove_entry (is_at (nat_cmp conn)) (λ e. e.1) (IsHome house) es held

pub fewer_after : (stays : Bool) (conn : ℕ) (es : Seats) → length (after_reply stays conn es) ≤ length es
fewer_after true conn es = omega arith
fewer_after false conn es = fewer_left (is_at (nat_cmp conn)) es
