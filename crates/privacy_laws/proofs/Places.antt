-- The seats at a connection, behind what is done to the table of seats.
use Rattle.std.proofs.Common.{◌≡◌, ℕ, ◌==◌, eqb-true, eq-eqb, true≢false, Bool, true, false, cond, filter, [], ◌∷◌, Option, None, Some, refl, ap, sym, ◌∙◌}
use Rattle.std.specs.BTreeMap.{is_at}
use Rattle.std.specs.Cmp.{unsigned_tied}
use Rattle.std.specs.Map.{lookup, remove_entry, set_value}
use Rattle.std.specs.Ordering.{nat_cmp}
use Rattle.mail_loop.specs.Machine.{seat_at, seated}
use Rattle.mail_loop.specs.State.{Seat, Seats}
use Rattle.privacy_laws.specs.Told.{seats_at}

turned : (m n : ℕ) (a b : Bool) → (m == n) ≡ a → (n == m) ≡ b → (m == n) ≡ (n == m)
turned m n true true one other = one ∙ sym other
turned m n false false one other = one ∙ sym other
turned m n true false one other = absurd (true≢false (sym (eq-eqb n m (sym (eqb-true m n one))) ∙ other))
turned m n false true one other = absurd (true≢false (sym (eq-eqb m n (sym (eqb-true n m other))) ∙ one))

-- numbers are compared either way
pub same_turned : (m n : ℕ) → (m == n) ≡ (n == m)
same_turned m n = turned m n (m == n) (n == m) refl refl

-- the table's test of a number
pub is_same : (conn n : ℕ) → is_at (nat_cmp conn) n ≡ (n == conn)
is_same conn n = unsigned_tied conn n ∙ same_turned conn n

module _ (keep test : ℕ → Bool) where
  abbrev kept : Seats → Seats
  kept es = filter (λ (e : ℕ × Seat). keep e.0) es

  -- what the test finds is among those that are looked at
  module _ (all : (n : ℕ) → test n ≡ true → keep n ≡ true) where
    pub set_kept : (es : Seats) (w : Seat) → kept (set_value test es w) ≡ set_value test (kept es) w
    set_kept [] w = refl
    set_kept (e ∷ es) w = by_tests (test e.0) (keep e.0) refl refl (set_kept es w)
      where
        by_tests : (b c : Bool) → test e.0 ≡ b → keep e.0 ≡ c → kept (set_value test es w) ≡ set_value test (kept es) w
            → kept (cond b ((e.0, w) ∷ es) (e ∷ set_value test es w)) ≡ set_value test (cond c (e ∷ kept es) (kept es)) w
        by_tests true true is has more = ap (λ (x : Bool). cond x ((e.0, w) ∷ kept es) (kept es)) has ∙ ap (λ (x : Bool). cond x ((e.0, w) ∷ kept es) (e ∷ set_value test (kept es) w)) (sym is)
        by_tests true false is has more = absurd (true≢false (sym (all e.0 is) ∙ has))
        by_tests false true is has more =
            ap (λ (x : Bool). cond x (e ∷ kept (set_value test es w)) (kept (set_value test es w))) has ∙ ap (λ (l : Seats). e ∷ l) more
            ∙ ap (λ (x : Bool). cond x ((e.0, w) ∷ kept es) (e ∷ set_value test (kept es) w)) (sym is)
        by_tests false false is has more = ap (λ (x : Bool). cond x (e ∷ kept (set_value test es w)) (kept (set_value test es w))) has ∙ more

    pub remove_kept : (es : Seats) → kept (remove_entry test es) ≡ remove_entry test (kept es)
    remove_kept [] = refl
    remove_kept (e ∷ es) = by_tests (test e.0) (keep e.0) refl refl (remove_kept es)
      where
        by_tests : (b c : Bool) → test e.0 ≡ b → keep e.0 ≡ c → kept (remove_entry test es) ≡ remove_entry test (kept es)
            → kept (cond b es (e ∷ remove_entry test es)) ≡ remove_entry test (cond c (e ∷ kept es) (kept es))
        by_tests true true is has more = ap (λ (x : Bool). cond x (kept es) (e ∷ remove_entry test (kept es))) (sym is)
        by_tests true false is has more = absurd (true≢false (sym (all e.0 is) ∙ has))
        by_tests false true is has more =
            ap (λ (x : Bool). cond x (e ∷ kept (remove_entry test es)) (kept (remove_entry test es))) has ∙ ap (λ (l : Seats). e ∷ l) more
            ∙ ap (λ (x : Bool). cond x (kept es) (e ∷ remove_entry test (kept es))) (sym is)
        by_tests false false is has more = ap (λ (x : Bool). cond x (e ∷ kept (remove_entry test es)) (kept (remove_entry test es))) has ∙ more

    pub found_kept : (es : Seats) → lookup test (kept es) ≡ lookup test es
    found_kept [] = refl
    found_kept (e ∷ es) = by_tests (test e.0) (keep e.0) refl refl (found_kept es)
      where
        by_tests : (b c : Bool) → test e.0 ≡ b → keep e.0 ≡ c → lookup test (kept es) ≡ lookup test es → lookup test (cond c (e ∷ kept es) (kept es)) ≡ cond b (Some e.1) (lookup test es)
        by_tests true true is has more = ap (λ (x : Bool). cond x (Some e.1) (lookup test (kept es))) is
        by_tests true false is has more = absurd (true≢false (sym (all e.0 is) ∙ has))
        by_tests false true is has more = ap (λ (x : Bool). cond x (Some e.1) (lookup test (kept es))) is ∙ more
        by_tests false false is has more = more

  -- what the test finds is not among them
  module _ (apart : (n : ℕ) → test n ≡ true → keep n ≡ false) where
    pub set_apart : (es : Seats) (w : Seat) → kept (set_value test es w) ≡ kept es
    set_apart [] w = refl
    set_apart (e ∷ es) w = by_tests (test e.0) refl (set_apart es w)
      where
        by_tests : (b : Bool) → test e.0 ≡ b → kept (set_value test es w) ≡ kept es → kept (cond b ((e.0, w) ∷ es) (e ∷ set_value test es w)) ≡ cond (keep e.0) (e ∷ kept es) (kept es)
        by_tests true is more = ap (λ (x : Bool). cond x ((e.0, w) ∷ kept es) (kept es)) (apart e.0 is) ∙ ap (λ (x : Bool). cond x (e ∷ kept es) (kept es)) (sym (apart e.0 is))
        by_tests false is more = ap (λ (l : Seats). cond (keep e.0) (e ∷ l) l) more

    pub remove_apart : (es : Seats) → kept (remove_entry test es) ≡ kept es
    remove_apart [] = refl
    remove_apart (e ∷ es) = by_tests (test e.0) refl (remove_apart es)
      where
        by_tests : (b : Bool) → test e.0 ≡ b → kept (remove_entry test es) ≡ kept es → kept (cond b es (e ∷ remove_entry test es)) ≡ cond (keep e.0) (e ∷ kept es) (kept es)
        by_tests true is more = ap (λ (x : Bool). cond x (e ∷ kept es) (kept es)) (sym (apart e.0 is))
        by_tests false is more = ap (λ (l : Seats). cond (keep e.0) (e ∷ l) l) more

-- ---- at the connection itself

module _ (conn : ℕ) where
  abbrev test : ℕ → Bool
  test n = is_at (nat_cmp conn) n

  here : (n : ℕ) → test n ≡ true → (n == conn) ≡ true
  here n is = sym (is_same conn n) ∙ is

  itself : test conn ≡ true
  itself = is_same conn conn ∙ eq-eqb conn conn refl

  -- a connection that is open has its seat
  pub found_one : (seats : Seats) (seat : Seat) → seats_at conn seats ≡ (conn, seat) ∷ [] → seat_at conn seats ≡ Some seat
  found_one seats seat one =
      sym (found_kept (λ n. n == conn) test here seats) ∙ ap (lookup test) one ∙ ap (λ (x : Bool). cond x (Some seat) None) itself

  -- one that is not has none
  pub found_none : (seats : Seats) → seats_at conn seats ≡ [] → seat_at conn seats ≡ None
  found_none seats none = sym (found_kept (λ n. n == conn) test here seats) ∙ ap (lookup test) none

  -- what is there behind its turns
  abbrev pub left_at : Option Seat → Seats
  left_at None = []
  left_at (Some seat) = (conn, seat) ∷ []

  pub seated_is : (o : Option Seat) (seats : Seats) (seat : Seat) → seats_at conn seats ≡ (conn, seat) ∷ [] → seats_at conn (seated conn o seats) ≡ left_at o
  seated_is None seats seat one = remove_kept (λ n. n == conn) test here seats ∙ ap (remove_entry test) one ∙ ap (λ (x : Bool). cond x [] ((conn, seat) ∷ [])) itself
  seated_is (Some w) seats seat one = set_kept (λ n. n == conn) test here seats w ∙ ap (λ (l : Seats). set_value test l w) one ∙ ap (λ (x : Bool). cond x ((conn, w) ∷ []) ((conn, seat) ∷ [])) itself
