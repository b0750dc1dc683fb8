-- The replies of an event to the connection on which it happens.
use Rattle.std.proofs.Common.{◌≡◌, ℕ, ◌==◌, eq-eqb, Bool, true, false, cond, List, [], ◌∷◌, ◌++◌, filter, Option, None, Some, option_map, nat_lt, refl, ap, ap₂, sym, subst, ◌∙◌}
use Rattle.std.specs.List.{cons_option}
use Rattle.std.specs.Prelude.{is_none}
use Rattle.smtp_lines.specs.Line.{smtp_lines_of}
use Rattle.imap_stream.specs.Commands as imap_stream
use Rattle.imap_stream.specs.declared.next.Next.TheVariants.{NotYet}
use Rattle.console_head.specs.Request.{Stage}
use Rattle.store_kept.specs.Kept.{Kept}
use Rattle.mail_loop.specs.declared.aftermath.Aftermath.{Aftermath}
use Rattle.mail_loop.specs.declared.aftermath.Aftermath.TheVariants.{Quiet}
use Rattle.mail_loop.specs.Afterwards.{last_words}
use Rattle.mail_loop.specs.ConsoleTurn.{no_consoles}
use Rattle.mail_loop.specs.Hindrance.{Hindrance}
use Rattle.mail_loop.specs.Machine.{Reply, heard, hears, hears_at, parting, seat_at, seated, told_others, with_reply}
use Rattle.mail_loop.specs.ImapTurn.{imap_session}
use Rattle.mail_loop.specs.PopTurn.{pop_session}
use Rattle.mail_loop.specs.SmtpTurn.{smtp_session}
use Rattle.mail_loop.specs.State.{Http, Imap, Pop, Seat, Seats, Smtp, State}
use Rattle.mail_loop.specs.TurnCounts.{none_counted}
use Rattle.mail_loop.specs.Turns.{Heard, hears_seat}
use Rattle.privacy_laws.specs.Told.{SameAnswered, SameHeard, replies_to, seats_at}
use Rattle.privacy_laws.proofs.Following.{turns_seats}
use Rattle.privacy_laws.proofs.Places.{found_one, left_at, seated_is}

module _ (conn : ℕ) where
  abbrev is_for : Reply → Bool
  is_for r = r.conn == conn

  one_other : (e : ℕ × Seat) (rest : List Reply) (b : Bool) (o : Option (List ℕ)) → (e.0 == conn) ≡ b
      → filter is_for (cons_option (cond b None (option_map (parting e.0) o)) rest) ≡ filter is_for rest
  one_other e rest true o is = refl
  one_other e rest false None is = refl
  one_other e rest false (Some said) is = ap (λ (b : Bool). cond b (parting e.0 said ∷ filter is_for rest) (filter is_for rest)) is

  -- no other connection's words are for it
  none_told : (aftermath : Aftermath) (seats : Seats) → filter is_for (told_others conn aftermath seats) ≡ []
  none_told aftermath [] = refl
  none_told aftermath (e ∷ seats) = one_other e (told_others conn aftermath seats) (e.0 == conn) (last_words aftermath e.1) refl ∙ none_told aftermath seats

  first_is : (b : Bool) (q : Reply) (rest : List Reply) → cond b (q ∷ rest) rest ≡ [] → (b ≡ false) × (rest ≡ [])
  first_is true q rest none = cc
  first_is false q rest none = (refl, none)

  -- its own reply is the only one
  own_alone : (r : Reply) (qs : List Reply) → (r.conn == conn) ≡ true → filter is_for qs ≡ [] → filter is_for (with_reply r qs) ≡ r ∷ []
  own_alone r [] own none = ap (λ (b : Bool). cond b (r ∷ []) []) own
  own_alone r (q ∷ qs) own none =
      let head = first_is (q.conn == conn) q (filter is_for qs) none in
      elim (nat_lt r.conn q.conn) as (λ b. filter is_for (cond b (r ∷ q ∷ qs) (q ∷ with_reply r qs)) ≡ r ∷ []) [
        | true ↦ ap₂ (λ (b : Bool) (rest : List Reply). cond b (r ∷ rest) rest) own none
        | false ↦ ap (λ (b : Bool). cond b (q ∷ filter is_for (with_reply r qs)) (filter is_for (with_reply r qs))) head.0 ∙ own_alone r qs own head.1
      ]

  abbrev own_reply : Heard → Reply
  own_reply h = record { conn = conn; said = h.said; closes = is_none h.seat }

  pub replied : (h : Heard) → replies_to conn (heard conn h).replies ≡ own_reply h ∷ []
  replied h =
      let seats : Seats = seated conn h.seat h.state.seats in
      own_alone (own_reply h) (told_others conn h.aftermath seats) (eq-eqb conn conn refl) (none_told h.aftermath seats)

  -- ---- what two events leave

  abbrev Here : Seat → Seats → Type 0
  Here seat seats = seats_at conn seats ≡ (conn, seat) ∷ []

  pub answered_same : (R : Kept → Kept → Type 0) (seat : Seat) (g h : Heard) → Here seat g.state.seats → Here seat h.state.seats → SameHeard R g h → SameAnswered R conn (heard conn g) (heard conn h)
  answered_same R seat g h here there same = record {
    told = replied g ∙ (λ j. record { conn = conn; said = same.said j; closes = is_none (same.seat j) } ∷ []) ∙ sym (replied h);
    seat = seated_is conn g.seat g.state.seats seat here ∙ ap (left_at conn) same.seat ∙ sym (seated_is conn h.seat h.state.seats seat there);
    unsealed = same.unsealed;
    counts = same.counts;
    kept = same.kept;
  }

  -- turns touch no seat
  pub hears_seats : (hs : List Hindrance) (stage : Stage) (at : ℕ) (s : State) (seat : Seat) (bytes : List ℕ) → (hears_seat hs stage at s conn seat bytes).state.seats ≡ s.seats
  hears_seats hs stage at s (Smtp unserved d) bytes = turns_seats smtp_session at conn (smtp_lines_of (unserved ++ bytes)) hs s.seats s d refl
  hears_seats hs stage at s (Imap stream d) bytes = turns_seats imap_session at conn ((imap_stream.heard stream bytes).said ++ NotYet ∷ []) hs s.seats s d refl
  hears_seats hs stage at s (Http came) bytes = refl
  hears_seats hs stage at s (Pop unserved d) bytes = turns_seats pop_session at conn (smtp_lines_of (unserved ++ bytes)) hs s.seats s d refl

  -- what is heard of bytes for which no memory is found
  abbrev unheard : State → Heard
  unheard s = record { said = []; state = s; seat = None; aftermath = Quiet; unsealed = []; counts = none_counted; consoles = no_consoles }

  module _ (R : Kept → Kept → Type 0) (hs : List Hindrance) (stage : Stage) (at : ℕ) (s t : State) (seat : Seat) (bytes : List ℕ) (here : Here seat s.seats) (there : Here seat t.seats) (agree : R s.kept t.kept)
      (same : SameHeard R (hears_seat hs stage at s conn seat bytes) (hears_seat hs stage at t conn seat bytes)) where
    -- bytes of it, for which memory is found or none
    fed_same : (no_memory : Bool) → SameAnswered R conn (hears no_memory hs stage at s conn seat bytes) (hears no_memory hs stage at t conn seat bytes)
    fed_same true = answered_same R seat (unheard s) (unheard t) here there (record { said = refl; seat = refl; aftermath = refl; unsealed = refl; counts = refl; kept = agree })
    fed_same false =
        answered_same R seat (hears_seat hs stage at s conn seat bytes) (hears_seat hs stage at t conn seat bytes)
        (ap (seats_at conn) (hears_seats hs stage at s seat bytes) ∙ here) (ap (seats_at conn) (hears_seats hs stage at t seat bytes) ∙ there) same

    pub bytes_same : (no_memory : Bool) → SameAnswered R conn (hears_at (seat_at conn s.seats) no_memory hs stage at s conn bytes) (hears_at (seat_at conn t.seats) no_memory hs stage at t conn bytes)
    bytes_same no_memory =
        subst (λ (o : Option Seat). SameAnswered R conn (hears_at o no_memory hs stage at s conn bytes) (hears_at (seat_at conn t.seats) no_memory hs stage at t conn bytes)) (sym (found_one conn s.seats seat here))
        (subst (λ (o : Option Seat). SameAnswered R conn (hears no_memory hs stage at s conn seat bytes) (hears_at o no_memory hs stage at t conn bytes)) (sym (found_one conn t.seats seat there))
        (fed_same no_memory))
