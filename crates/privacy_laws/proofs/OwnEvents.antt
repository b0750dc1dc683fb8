-- An event on one of a user's connections, in two states that agree for that user.
use Rattle.std.proofs.Common.{◌≡◌, inr, ℕ, ◌==◌, eqb-true, eq-eqb, true≢false, Bool, true, false, cond, nat_lt, List, [], ◌∷◌, Option, None, Some, option_map, refl, ap, sym, subst, ◌∙◌}
use Rattle.std.specs.BTreeMap.{is_at}
use Rattle.std.specs.Cmp.{first_so}
use Rattle.std.specs.List.{cons_option}
use Rattle.std.specs.Ordering.{is_eq, match_ordering, nat_cmp}
use Rattle.std.specs.declared.cmp.Ordering.{Ordering}
use Rattle.std.specs.declared.cmp.Ordering.TheVariants.{Less, Equal, Greater}
use Rattle.std.specs.Prelude.{IfSome, is_none}
use Rattle.undo_base.specs.declared.keys.User.{User}
use Rattle.undo_outside.specs.declared.event.Role.{Role}
use Rattle.undo_outside.specs.declared.event.Role.TheVariants as role
use Rattle.undo_outside.specs.declared.event.What.{What}
use Rattle.undo_outside.specs.declared.event.What.TheVariants.{Joined, Bytes, Left, Idle, End}
use Rattle.console_head.specs.Request.{Stage}
use Rattle.imap_session.specs.Words.{greeting_text}
use Rattle.verb_core.specs.declared.conf.House.{House}
use Rattle.mail_loop.specs.declared.aftermath.Aftermath.{Aftermath}
use Rattle.mail_loop.specs.declared.aftermath.Aftermath.TheVariants.{Quiet}
use Rattle.mail_loop.specs.Afterwards.{last_words}
use Rattle.mail_loop.specs.ConsoleTurn.{no_consoles}
use Rattle.mail_loop.specs.Hindrance.{Hindrance}
use Rattle.mail_loop.specs.Machine.{Answered, Reply, admits, admitted, answers, heard, hears, hears_at, ignored, joins, parting, seat_at, seated, told_other, told_others, with_new_seat, with_reply}
use Rattle.mail_loop.specs.Roles.{row_of}
use Rattle.mail_loop.specs.State.{Http, Imap, Pop, Seat, Seats, Smtp, State, without_seat}
use Rattle.mail_loop.specs.TurnCounts.{none_counted}
use Rattle.mail_loop.specs.Turns.{Heard, hears_seat}
use Rattle.privacy_laws.specs.Agreeing.{Agree}
use Rattle.privacy_laws.specs.Clients.{IsSeatOf, SameUse, bytes_are_of}
use Rattle.privacy_laws.specs.Runs.{AgreeFor, IsOpenTo, has_in_use, is_by_login, what_is_of}
use Rattle.privacy_laws.specs.Told.{replies_to, seats_at}
use Rattle.privacy_laws.proofs.Speaking.{seat_same}
use Rattle.privacy_laws.proofs.Delivering.{open_less}
use Rattle.privacy_laws.proofs.Following.{AlikeHeard}
use Rattle.privacy_laws.proofs.Places.{found_none, found_one, is_same, left_at, remove_apart, remove_kept, seated_is, set_apart}
use Rattle.privacy_laws.proofs.Replies.{hears_seats, replied}
use Rattle.privacy_laws.proofs.Uses.{use_same}

-- what two events leave: the states agree for the user, and each of the user's connections has the same replies
pub record SameLeft (house : House) (u : User) (own : ℕ → Bool) (a b : Answered) : Type 0 where
  pub agree : AgreeFor house u own a.state b.state
  pub told : (c : ℕ) → own c ≡ true → replies_to c a.replies ≡ replies_to c b.replies

-- ---- the replies to one connection

module _ (c : ℕ) where
  abbrev mine : List Reply → List Reply
  mine rs = replies_to c rs

  -- a reply to another connection
  pub reply_apart : (r : Reply) (qs : List Reply) → (r.conn == c) ≡ false → mine (with_reply r qs) ≡ mine qs
  reply_apart r [] other = ap (λ (b : Bool). cond b (r ∷ []) []) other
  reply_apart r (q ∷ qs) other = elim (nat_lt r.conn q.conn) as (λ b. mine (cond b (r ∷ q ∷ qs) (q ∷ with_reply r qs)) ≡ mine (q ∷ qs)) [
    | true ↦ ap (λ (b : Bool). cond b (r ∷ mine (q ∷ qs)) (mine (q ∷ qs))) other
    | false ↦ ap (λ (l : List Reply). cond (q.conn == c) (q ∷ l) l) (reply_apart r qs other)
  ]

  abbrev told_as : ℕ → Aftermath → ℕ × Seat → List Reply → List Reply
  told_as conn aftermath e rest = cons_option (told_other conn aftermath e) rest

  own_words : (n : ℕ) (o : Option (List ℕ)) (b : Bool) (rest : List Reply) → (n == c) ≡ true → mine (cons_option (cond b None (option_map (parting n) o)) rest) ≡ cons_option (cond b None (option_map (parting n) o)) (mine rest)
  own_words n None true rest is = refl
  own_words n (Some said) true rest is = refl
  own_words n None false rest is = refl
  own_words n (Some said) false rest is = ap (λ (b : Bool). cond b (parting n said ∷ mine rest) (mine rest)) is

  other_words : (n : ℕ) (o : Option (List ℕ)) (b : Bool) (rest : List Reply) → (n == c) ≡ false → mine (cons_option (cond b None (option_map (parting n) o)) rest) ≡ mine rest
  other_words n None true rest is = refl
  other_words n (Some said) true rest is = refl
  other_words n None false rest is = refl
  other_words n (Some said) false rest is = ap (λ (b : Bool). cond b (parting n said ∷ mine rest) (mine rest)) is

  -- what is told to it comes of its own seats
  pub told_at : (conn : ℕ) (aftermath : Aftermath) (seats : Seats) → mine (told_others conn aftermath seats) ≡ told_others conn aftermath (seats_at c seats)
  told_at conn aftermath [] = refl
  told_at conn aftermath (e ∷ seats) = by_number (e.0 == c) refl (told_at conn aftermath seats)
    where
      by_number : (b : Bool) → (e.0 == c) ≡ b → mine (told_others conn aftermath seats) ≡ told_others conn aftermath (seats_at c seats)
          → mine (cons_option (told_other conn aftermath e) (told_others conn aftermath seats)) ≡ told_others conn aftermath (cond b (e ∷ seats_at c seats) (seats_at c seats))
      by_number true is more = own_words e.0 (last_words aftermath e.1) (e.0 == conn) (told_others conn aftermath seats) is ∙ ap (cons_option (told_other conn aftermath e)) more
      by_number false is more = other_words e.0 (last_words aftermath e.1) (e.0 == conn) (told_others conn aftermath seats) is ∙ more

-- ---- the seats at other connections

module _ (conn c : ℕ) (apart : (conn == c) ≡ false) where
  pub other_number : (n : ℕ) → is_at (nat_cmp conn) n ≡ true → (n == c) ≡ false
  other_number n at = ap (λ (x : ℕ). x == c) (eqb-true n conn (sym (is_same conn n) ∙ at)) ∙ apart

  pub seated_apart : (o : Option Seat) (seats : Seats) → seats_at c (seated conn o seats) ≡ seats_at c seats
  seated_apart None seats = remove_apart (λ n. n == c) (λ n. is_at (nat_cmp conn) n) other_number seats
  seated_apart (Some w) seats = set_apart (λ n. n == c) (λ n. is_at (nat_cmp conn) n) other_number seats w

  pub gone_apart : (seats : Seats) → seats_at c (without_seat conn seats) ≡ seats_at c seats
  gone_apart seats = remove_apart (λ n. n == c) (λ n. is_at (nat_cmp conn) n) other_number seats

  pub new_apart : (seat : Seat) (seats : Seats) → seats_at c (with_new_seat conn seat seats) ≡ seats_at c seats
  new_apart seat [] = ap (λ (b : Bool). cond b ((conn, seat) ∷ []) []) apart
  new_apart seat (e ∷ seats) = by_order (nat_cmp conn e.0) refl (new_apart seat seats)
    where
      equal : nat_cmp conn e.0 ≡ Equal → (e.0 == c) ≡ false
      equal is = other_number e.0 (ap is_eq is)

      by_order : (o : Ordering) → nat_cmp conn e.0 ≡ o → seats_at c (with_new_seat conn seat seats) ≡ seats_at c seats
          → seats_at c (match_ordering o ((conn, seat) ∷ e ∷ seats) ((e.0, seat) ∷ seats) (e ∷ with_new_seat conn seat seats)) ≡ seats_at c (e ∷ seats)
      by_order Less is more = ap (λ (b : Bool). cond b ((conn, seat) ∷ seats_at c (e ∷ seats)) (seats_at c (e ∷ seats))) apart
      by_order Equal is more =
          ap (λ (b : Bool). cond b ((e.0, seat) ∷ seats_at c seats) (seats_at c seats)) (equal is) ∙ ap (λ (b : Bool). cond b (e ∷ seats_at c seats) (seats_at c seats)) (sym (equal is))
      by_order Greater is more = ap (λ (l : Seats). cond (e.0 == c) (e ∷ l) l) more

-- ---- the seat at the connection itself

module _ (conn : ℕ) where
  itself : (n : ℕ) → is_at (nat_cmp conn) n ≡ true → (n == conn) ≡ true
  itself n at = sym (is_same conn n) ∙ at

  first_apart : (b : Bool) (e : ℕ × Seat) (rest : Seats) → cond b (e ∷ rest) rest ≡ [] → (b ≡ false) × (rest ≡ [])
  first_apart true e rest none = cc
  first_apart false e rest none = (refl, none)

  -- a connection is opened
  new_here : (seat : Seat) (seats : Seats) → seats_at conn seats ≡ [] → seats_at conn (with_new_seat conn seat seats) ≡ (conn, seat) ∷ []
  new_here seat [] none = ap (λ (b : Bool). cond b ((conn, seat) ∷ []) []) (eq-eqb conn conn refl)
  new_here seat (e ∷ seats) none =
      let first = first_apart (e.0 == conn) e (seats_at conn seats) none in
      by_order (nat_cmp conn e.0) refl first.0 first.1 (new_here seat seats first.1)
    where
      by_order : (o : Ordering) → nat_cmp conn e.0 ≡ o → (e.0 == conn) ≡ false → seats_at conn seats ≡ [] → seats_at conn (with_new_seat conn seat seats) ≡ (conn, seat) ∷ []
          → seats_at conn (match_ordering o ((conn, seat) ∷ e ∷ seats) ((e.0, seat) ∷ seats) (e ∷ with_new_seat conn seat seats)) ≡ (conn, seat) ∷ []
      by_order Less is other rest more =
          ap (λ (b : Bool). cond b ((conn, seat) ∷ seats_at conn (e ∷ seats)) (seats_at conn (e ∷ seats))) (eq-eqb conn conn refl)
          ∙ ap (λ (b : Bool). (conn, seat) ∷ cond b (e ∷ seats_at conn seats) (seats_at conn seats)) other ∙ ap (λ (l : Seats). (conn, seat) ∷ l) rest
      by_order Equal is other rest more = absurd (true≢false (sym (itself e.0 (ap is_eq is)) ∙ other))
      by_order Greater is other rest more = ap (λ (b : Bool). cond b (e ∷ seats_at conn (with_new_seat conn seat seats)) (seats_at conn (with_new_seat conn seat seats))) other ∙ more

  gone_here : (seats : Seats) → seats_at conn (without_seat conn seats) ≡ without_seat conn (seats_at conn seats)
  gone_here seats = remove_kept (λ n. n == conn) (λ n. is_at (nat_cmp conn) n) itself seats

-- ---- an event

module _ (house : House) (u : User) (own : ℕ → Bool) (s t : State) (agree : AgreeFor house u own s t) (conn : ℕ) (mine : own conn ≡ true) where
  -- of a connection that is not the user's this is another
  not_it : (c : ℕ) → own c ≡ false → (conn == c) ≡ false
  not_it c none = by_test (conn == c) refl
    where
      by_test : (b : Bool) → (conn == c) ≡ b → b ≡ false
      by_test true same = absurd (true≢false (sym mine ∙ ap own (eqb-true conn c same) ∙ none))
      by_test false other = refl

  -- the states agree where only the seat at this connection has changed, and alike
  module _ (k l : State) (kept : Agree house u k.kept l.kept) (now : Seats) (here : seats_at conn k.seats ≡ now) (there : seats_at conn l.seats ≡ now) (shown : IsOpenTo u conn now)
      (one : (c : ℕ) → (conn == c) ≡ false → seats_at c k.seats ≡ seats_at c s.seats) (other : (c : ℕ) → (conn == c) ≡ false → seats_at c l.seats ≡ seats_at c t.seats) where
    seats_by : (c : ℕ) (b : Bool) → (conn == c) ≡ b → own c ≡ true → seats_at c k.seats ≡ seats_at c l.seats
    seats_by c true same its = subst (λ (x : ℕ). seats_at x k.seats ≡ seats_at x l.seats) (eqb-true conn c same) (here ∙ sym there)
    seats_by c false apart its = one c apart ∙ agree.seats c its ∙ sym (other c apart)

    mine_by : (c : ℕ) (b : Bool) → (conn == c) ≡ b → own c ≡ true → IsOpenTo u c (seats_at c k.seats)
    mine_by c true same its = subst (λ (x : ℕ). IsOpenTo u x (seats_at x k.seats)) (eqb-true conn c same) (subst (IsOpenTo u conn) (sym here) shown)
    mine_by c false apart its = subst (IsOpenTo u c) (sym (one c apart)) (agree.mine c its)

    changed : AgreeFor house u own k l
    changed = record {
      kept = kept;
      seats = λ c its. seats_by c (conn == c) refl its;
      mine = λ c its. mine_by c (conn == c) refl its;
      one = λ c none. ap (has_in_use u) (one c (not_it c none)) ∙ agree.one c none;
      other = λ c none. ap (has_in_use u) (other c (not_it c none)) ∙ agree.other c none;
    }

  -- nothing is done
  still : SameLeft house u own (ignored s) (ignored t)
  still = record { agree = record { kept = agree.kept; seats = agree.seats; mine = agree.mine; one = agree.one; other = agree.other }; told = λ c its. refl }

  open_left : (o : Option Seat) → IfSome o (IsSeatOf u) → IsOpenTo u conn (left_at conn o)
  open_left None its = tt
  open_left (Some seat) its = (refl, its)

  -- its turns are heard
  module _ (seat : Seat) (g h : Heard) (same : AlikeHeard (IsSeatOf u) (Agree house u) g h) (ours : g.state.seats ≡ s.seats) (theirs : h.state.seats ≡ t.seats)
      (here : seats_at conn s.seats ≡ (conn, seat) ∷ []) (there : seats_at conn t.seats ≡ (conn, seat) ∷ []) where
    heard_agree : AgreeFor house u own (heard conn g).state (heard conn h).state
    heard_agree =
        changed (heard conn g).state (heard conn h).state same.same.kept (left_at conn g.seat)
        (seated_is conn g.seat g.state.seats seat (ap (seats_at conn) ours ∙ here))
        (seated_is conn h.seat h.state.seats seat (ap (seats_at conn) theirs ∙ there) ∙ ap (left_at conn) (sym same.same.seat))
        (open_left g.seat same.mine)
        (λ c apart. seated_apart conn c apart g.seat g.state.seats ∙ ap (seats_at c) ours)
        (λ c apart. seated_apart conn c apart h.seat h.state.seats ∙ ap (seats_at c) theirs)

    abbrev reply : Heard → Reply
    reply x = record { conn = conn; said = x.said; closes = is_none x.seat }

    abbrev now : Heard → Seats
    now x = seated conn x.seat x.state.seats

    told_by : (c : ℕ) (b : Bool) → (conn == c) ≡ b → own c ≡ true → replies_to c (heard conn g).replies ≡ replies_to c (heard conn h).replies
    told_by c true it its =
        subst (λ (x : ℕ). replies_to x (heard conn g).replies ≡ replies_to x (heard conn h).replies) (eqb-true conn c it)
        (replied conn g ∙ (λ j. record { conn = conn; said = same.same.said j; closes = is_none (same.same.seat j) } ∷ []) ∙ sym (replied conn h))
    told_by c false apart its =
        reply_apart c (reply g) (told_others conn g.aftermath (now g)) apart ∙ told_at c conn g.aftermath (now g)
        ∙ (λ j. told_others conn (same.same.aftermath j) (heard_agree.seats c its j))
        ∙ sym (reply_apart c (reply h) (told_others conn h.aftermath (now h)) apart ∙ told_at c conn h.aftermath (now h))

    heard_left : SameLeft house u own (heard conn g) (heard conn h)
    heard_left = record { agree = heard_agree; told = λ c its. told_by c (conn == c) refl its }

  -- ---- bytes come

  use_for : (seat : Seat) → SameUse u conn seat s.seats t.seats
  use_for (Smtp unserved d) = tt
  use_for (Imap stream d) = tt
  use_for (Http came) = tt
  use_for (Pop unserved d) = use_same u house own s t agree conn

  abbrev unheard : State → Heard
  unheard x = record { said = []; state = x; seat = None; aftermath = Quiet; unsealed = []; counts = none_counted; consoles = no_consoles }

  module _ (hs : List Hindrance) (stage : Stage) (at : ℕ) where
    fed : (no_memory : Bool) (bytes : List ℕ) (seat : Seat) → seats_at conn s.seats ≡ (conn, seat) ∷ [] → seats_at conn t.seats ≡ (conn, seat) ∷ [] → IsSeatOf u seat → bytes_are_of house u seat bytes ≡ true
        → SameLeft house u own (hears no_memory hs stage at s conn seat bytes) (hears no_memory hs stage at t conn seat bytes)
    fed true bytes seat here there its only =
        heard_left seat (unheard s) (unheard t) (record { same = record { said = refl; seat = refl; aftermath = refl; unsealed = refl; counts = refl; kept = agree.kept }; mine = tt }) refl refl here there
    fed false bytes seat here there its only =
        heard_left seat (hears_seat hs stage at s conn seat bytes) (hears_seat hs stage at t conn seat bytes)
        (seat_same house u hs stage at s t conn seat bytes agree.kept its only (use_for seat))
        (hears_seats conn hs stage at s seat bytes) (hears_seats conn hs stage at t seat bytes) here there

    abbrev heard_at : Bool → List ℕ → Option Seat → Option Seat → Type 0
    heard_at no_memory bytes o p = SameLeft house u own (hears_at o no_memory hs stage at s conn bytes) (hears_at p no_memory hs stage at t conn bytes)

    come : (no_memory : Bool) (bytes : List ℕ) (shown : Seats) → seats_at conn s.seats ≡ shown → IsOpenTo u conn shown → what_is_of house u shown (Bytes bytes) ≡ true
        → heard_at no_memory bytes (seat_at conn s.seats) (seat_at conn t.seats)
    come no_memory bytes [] none its only =
        subst (λ (o : Option Seat). heard_at no_memory bytes o (seat_at conn t.seats)) (sym (found_none conn s.seats none))
        (subst (λ (o : Option Seat). heard_at no_memory bytes None o) (sym (found_none conn t.seats (sym (agree.seats conn mine) ∙ none))) still)
    come no_memory bytes (e ∷ []) one its only =
        let here : seats_at conn s.seats ≡ (conn, e.1) ∷ [] = one ∙ (λ j. (its.0 j, e.1) ∷ []) in
        let there : seats_at conn t.seats ≡ (conn, e.1) ∷ [] = sym (agree.seats conn mine) ∙ here in
        subst (λ (o : Option Seat). heard_at no_memory bytes o (seat_at conn t.seats)) (sym (found_one conn s.seats e.1 here))
        (subst (λ (o : Option Seat). heard_at no_memory bytes (Some e.1) o) (sym (found_one conn t.seats e.1 there))
        (fed no_memory bytes e.1 here there its.1 (first_so (bytes_are_of house u e.1 bytes) true only)))
    come no_memory bytes (e ∷ f ∷ es) one its only = absurd its

    -- ---- a client joins

    greeted_left : (no_memory : Bool) (seat : Seat) → IsSeatOf u seat → seats_at conn s.seats ≡ [] → seats_at conn t.seats ≡ [] → (greeting greeting' : List ℕ) → greeting ≡ greeting'
        → SameLeft house u own (admitted no_memory s conn seat (Some greeting)) (admitted no_memory t conn seat (Some greeting'))
    greeted_left true seat its none none' greeting greeting' same =
        record { agree = record { kept = agree.kept; seats = agree.seats; mine = agree.mine; one = agree.one; other = agree.other }; told = λ c its. refl }
    greeted_left false seat its none none' greeting greeting' same = record {
      agree = changed (record { kept = s.kept; seats = with_new_seat conn seat s.seats }) (record { kept = t.kept; seats = with_new_seat conn seat t.seats }) agree.kept ((conn, seat) ∷ [])
          (new_here conn seat s.seats none) (new_here conn seat t.seats none') (refl, its)
          (λ c apart. new_apart conn c apart seat s.seats) (λ c apart. new_apart conn c apart seat t.seats);
      told = λ c its. λ j. replies_to c (record { conn = conn; said = same j; closes = false } ∷ []);
    }

    same_house : s.kept.house ≡ t.kept.house
    same_house = agree.kept.one_house ∙ sym agree.kept.other_house

    admits_left : (no_memory : Bool) (r : Role) → is_by_login r ≡ true → seats_at conn s.seats ≡ [] → seats_at conn t.seats ≡ [] → SameLeft house u own (admits no_memory r s conn) (admits no_memory r t conn)
    admits_left no_memory role.Smtp wrong none none' = absurd (true≢false (sym wrong))
    admits_left no_memory role.Imap is none none' = greeted_left no_memory (row_of role.Imap).fresh (inr (refl, refl)) none none' _ _ (ap greeting_text same_house)
    admits_left no_memory role.Http wrong none none' = absurd (true≢false (sym wrong))
    admits_left no_memory role.Pop is none none' = greeted_left no_memory (row_of role.Pop).fresh tt none none' _ _ refl

    abbrev joined_at : Bool → Role → Option Seat → Option Seat → Type 0
    joined_at no_memory r o p = SameLeft house u own (joins o no_memory r s conn) (joins p no_memory r t conn)

    join : (no_memory : Bool) (r : Role) → is_by_login r ≡ true → (shown : Seats) → seats_at conn s.seats ≡ shown → IsOpenTo u conn shown → joined_at no_memory r (seat_at conn s.seats) (seat_at conn t.seats)
    join no_memory r is [] none its =
        let none' : seats_at conn t.seats ≡ [] = sym (agree.seats conn mine) ∙ none in
        subst (λ (o : Option Seat). joined_at no_memory r o (seat_at conn t.seats)) (sym (found_none conn s.seats none))
        (subst (λ (o : Option Seat). joined_at no_memory r None o) (sym (found_none conn t.seats none')) (admits_left no_memory r is none none'))
    join no_memory r is (e ∷ []) one its =
        let here : seats_at conn s.seats ≡ (conn, e.1) ∷ [] = one ∙ (λ j. (its.0 j, e.1) ∷ []) in
        subst (λ (o : Option Seat). joined_at no_memory r o (seat_at conn t.seats)) (sym (found_one conn s.seats e.1 here))
        (subst (λ (o : Option Seat). joined_at no_memory r (Some e.1) o) (sym (found_one conn t.seats e.1 (sym (agree.seats conn mine) ∙ here))) still)
    join no_memory r is (e ∷ f ∷ es) one its = absurd its

    -- ---- any of them

    left : SameLeft house u own (ignored (record { kept = s.kept; seats = without_seat conn s.seats })) (ignored (record { kept = t.kept; seats = without_seat conn t.seats }))
    left = record {
      agree = changed (record { kept = s.kept; seats = without_seat conn s.seats }) (record { kept = t.kept; seats = without_seat conn t.seats }) agree.kept (without_seat conn (seats_at conn s.seats))
          (gone_here conn s.seats) (gone_here conn t.seats ∙ ap (without_seat conn) (sym (agree.seats conn mine))) (open_less u conn conn false (seats_at conn s.seats) (agree.mine conn mine))
          (λ c apart. gone_apart conn c apart s.seats) (λ c apart. gone_apart conn c apart t.seats);
      told = λ c its. refl;
    }

    pub event_left : (no_memory : Bool) (what : What) → what_is_of house u (seats_at conn s.seats) what ≡ true → SameLeft house u own (answers what no_memory hs stage at s conn) (answers what no_memory hs stage at t conn)
    event_left no_memory (Joined r) only = join no_memory r only (seats_at conn s.seats) refl (agree.mine conn mine)
    event_left no_memory (Bytes bytes) only = come no_memory bytes (seats_at conn s.seats) refl (agree.mine conn mine) only
    event_left no_memory Left only = left
    event_left no_memory Idle only = still
    event_left no_memory End only = still
