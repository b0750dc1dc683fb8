-- Whether a user's maildrop is in use beside a connection, where it is in use on none but the user's.
use Rattle.std.proofs.Common.{◌≡◌, ℕ, ◌==◌, eqb-true, eq-eqb, true≢false, Bool, true, false, not, ◌||◌, cond, filter, List, [], ◌∷◌, Option, None, Some, refl, ap, sym, ◌∙◌}
use Rattle.std.specs.List.{cons_option, list_any}
use Rattle.undo_base.specs.declared.keys.User.{User}
use Rattle.verb_core.specs.Boxes.{same_user}
use Rattle.mail_loop.specs.PopTurn.{in_use, user_at}
use Rattle.mail_loop.specs.State.{Seat, Seats, State, beside}
use Rattle.verb_core.specs.declared.conf.House.{House}
use Rattle.privacy_laws.specs.Runs.{AgreeFor, has_in_use}
use Rattle.privacy_laws.specs.Told.{seats_at}

module _ (u : User) where
  abbrev users : Option User → List User → Bool
  users o rest = list_any (same_user u) (cons_option o rest)

  -- one that has it in use is found, or is among the rest
  more : (o : Option User) (rest : List User) → list_any (same_user u) rest ≡ true → users o rest ≡ true
  more None rest is = is
  more (Some v) rest is = elim (same_user u v) as (λ b. (b || list_any (same_user u) rest) ≡ true) [ true ↦ refl | false ↦ is ]

  more_seats : (b : Bool) (e : ℕ × Seat) (seats : Seats) → has_in_use u seats ≡ true → has_in_use u (cond b (e ∷ seats) seats) ≡ true
  more_seats true e seats is = more (user_at e.1) (in_use seats) is
  more_seats false e seats is = is

  -- who uses it stays so among other seats
  first_uses : (o : Option User) (rest rest' : List User) → list_any (same_user u) rest ≡ false → users o rest ≡ true → users o rest' ≡ true
  first_uses None rest rest' none is = absurd (true≢false (sym is ∙ none))
  first_uses (Some v) rest rest' none is = by_test (same_user u v) is
    where
      by_test : (b : Bool) → (b || list_any (same_user u) rest) ≡ true → (b || list_any (same_user u) rest') ≡ true
      by_test true is = refl
      by_test false is = absurd (true≢false (sym is ∙ none))

  module _ (keep : ℕ → Bool) where
    abbrev kept : Seats → Seats
    kept seats = filter (λ (e : ℕ × Seat). keep e.0) seats

    abbrev Found : Seats → Type 0
    Found seats = (c : ℕ) × (keep c ≡ true) × (has_in_use u (seats_at c seats) ≡ true)

    later : (e : ℕ × Seat) (seats : Seats) → Found seats → Found (e ∷ seats)
    later e seats (c, here, is) = (c, here, more_seats (e.0 == c) e (seats_at c seats) is)

    -- where one that is kept uses it, that is at its connection
    pub found : (seats : Seats) → has_in_use u (kept seats) ≡ true → Found seats
    found [] is = absurd (true≢false (sym is))
    found (e ∷ seats) is = by_kept (keep e.0) refl is (found seats)
      where
        at_once : keep e.0 ≡ true → has_in_use u (kept seats) ≡ false → users (user_at e.1) (in_use (kept seats)) ≡ true → Found (e ∷ seats)
        at_once here none is = (e.0, here, ap (λ (b : Bool). has_in_use u (cond b (e ∷ seats_at e.0 seats) (seats_at e.0 seats))) (eq-eqb e.0 e.0 refl) ∙ first_uses (user_at e.1) (in_use (kept seats)) (in_use (seats_at e.0 seats)) none is)

        by_rest : (b : Bool) → has_in_use u (kept seats) ≡ b → keep e.0 ≡ true → users (user_at e.1) (in_use (kept seats)) ≡ true → (has_in_use u (kept seats) ≡ true → Found seats) → Found (e ∷ seats)
        by_rest true rest here is up = later e seats (up rest)
        by_rest false rest here is up = at_once here rest is

        by_kept : (b : Bool) → keep e.0 ≡ b → has_in_use u (cond b (e ∷ kept seats) (kept seats)) ≡ true → (has_in_use u (kept seats) ≡ true → Found seats) → Found (e ∷ seats)
        by_kept true here is up = by_rest (has_in_use u (kept seats)) refl here is up
        by_kept false here is up = later e seats (up is)

    -- and the other way
    pub among : (c : ℕ) → keep c ≡ true → (seats : Seats) → has_in_use u (seats_at c seats) ≡ true → has_in_use u (kept seats) ≡ true
    among c here [] is = absurd (true≢false (sym is))
    among c here (e ∷ seats) is = by_number (e.0 == c) refl is (among c here seats)
      where
        by_rest : (b : Bool) → has_in_use u (seats_at c seats) ≡ b → users (user_at e.1) (in_use (seats_at c seats)) ≡ true → (has_in_use u (seats_at c seats) ≡ true → has_in_use u (kept seats) ≡ true)
            → users (user_at e.1) (in_use (kept seats)) ≡ true
        by_rest true rest is up = more (user_at e.1) (in_use (kept seats)) (up rest)
        by_rest false rest is up = first_uses (user_at e.1) (in_use (seats_at c seats)) (in_use (kept seats)) rest is

        by_number : (b : Bool) → (e.0 == c) ≡ b → has_in_use u (cond b (e ∷ seats_at c seats) (seats_at c seats)) ≡ true → (has_in_use u (seats_at c seats) ≡ true → has_in_use u (kept seats) ≡ true)
            → has_in_use u (cond (keep e.0) (e ∷ kept seats) (kept seats)) ≡ true
        by_number true same is up =
            ap (λ (b : Bool). has_in_use u (cond b (e ∷ kept seats) (kept seats))) (ap keep (eqb-true e.0 c same) ∙ here) ∙ by_rest (has_in_use u (seats_at c seats)) refl is up
        by_number false same is up = more_seats (keep e.0) e (kept seats) (up is)

  -- both ways it is the same
  both_ways : (a b : Bool) → (a ≡ true → b ≡ true) → (b ≡ true → a ≡ true) → a ≡ b
  both_ways true b to back = sym (to refl)
  both_ways false true to back = back refl
  both_ways false false to back = refl

  module _ (house : House) (own : ℕ → Bool) (s t : State) (agree : AgreeFor house u own s t) (conn : ℕ) where
    abbrev others : ℕ → Bool
    others n = not (n == conn)

    one_way : Found others s.seats → has_in_use u (beside conn t.seats) ≡ true
    one_way (c, here, is) = by_owner (own c) refl
      where
        by_owner : (b : Bool) → own c ≡ b → has_in_use u (beside conn t.seats) ≡ true
        by_owner true mine = among others c here t.seats (ap (has_in_use u) (sym (agree.seats c mine)) ∙ is)
        by_owner false none = absurd (true≢false (sym is ∙ agree.one c none))

    other_way : Found others t.seats → has_in_use u (beside conn s.seats) ≡ true
    other_way (c, here, is) = by_owner (own c) refl
      where
        by_owner : (b : Bool) → own c ≡ b → has_in_use u (beside conn s.seats) ≡ true
        by_owner true mine = among others c here s.seats (ap (has_in_use u) (agree.seats c mine) ∙ is)
        by_owner false none = absurd (true≢false (sym is ∙ agree.other c none))

    pub use_same : has_in_use u (beside conn s.seats) ≡ has_in_use u (beside conn t.seats)
    use_same = both_ways (has_in_use u (beside conn s.seats)) (has_in_use u (beside conn t.seats)) (λ is. one_way (found others s.seats is)) (λ is. other_way (found others t.seats is))
