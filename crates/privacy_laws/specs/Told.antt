-- What two turns, two streams and two events have in common, and what they leave: R holds of what is kept after them.
use Rattle.std.specs.Prelude.{◌≡◌, ◌==◌, ℕ, filter, List, [], ◌∷◌}
use Rattle.store_kept.specs.Kept.{Kept}
use Rattle.mail_loop.specs.Machine.{Answered, Reply}
use Rattle.mail_loop.specs.State.{Seat, Seats, State}
use Rattle.mail_loop.specs.Turn.{Turn}
use Rattle.mail_loop.specs.Turns.{Heard}

-- Two turns say the same, leave the same dialog, take the same mailboxes away, count the same and fail to seal the same.
pub record SameTurn {D : Type 0} (R : Kept → Kept → Type 0) (s t : Turn D) : Type 0 where
  pub said : s.said ≡ t.said
  pub dialog : s.dialog ≡ t.dialog
  pub gone : s.gone ≡ t.gone
  pub unsealed : s.unsealed ≡ t.unsealed
  pub counts : s.counts ≡ t.counts
  pub kept : R s.kept t.kept

-- What comes of two streams: the connection is told the same and has the same seat, or is closed after both; and the same follows for the others.
pub record SameHeard (R : Kept → Kept → Type 0) (s t : Heard) : Type 0 where
  pub said : s.said ≡ t.said
  pub seat : s.seat ≡ t.seat
  pub aftermath : s.aftermath ≡ t.aftermath
  pub unsealed : s.unsealed ≡ t.unsealed
  pub counts : s.counts ≡ t.counts
  pub kept : R s.state.kept t.state.kept

-- the replies to a connection
abbrev pub replies_to : ℕ → List Reply → List Reply
replies_to conn replies = filter (λ (r : Reply). r.conn == conn) replies

-- what is open at a connection
abbrev pub seats_at : ℕ → Seats → Seats
seats_at conn seats = filter (λ (e : ℕ × Seat). e.0 == conn) seats

-- a connection is open, and this is its seat
abbrev pub HasSeat : ℕ → Seat → State → Type 0
HasSeat conn seat s = seats_at conn s.seats ≡ (conn, seat) ∷ []

-- What two events leave: the connection has the same replies, each with the same string, and has the same seat, or is closed after both.
pub record SameAnswered (R : Kept → Kept → Type 0) (conn : ℕ) (a b : Answered) : Type 0 where
  pub told : replies_to conn a.replies ≡ replies_to conn b.replies
  pub seat : seats_at conn a.state.seats ≡ seats_at conn b.state.seats
  pub unsealed : a.unsealed ≡ b.unsealed
  pub counts : a.counts ≡ b.counts
  pub kept : R a.state.kept b.state.kept
