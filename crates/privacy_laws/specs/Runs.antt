-- Two runs of the machine in which the same comes over a user's connections.
use Rattle.std.specs.Prelude.{◌≡◌, ◌==◌, ℕ, Bool, true, false, filter, if◌then◌else◌, List, [], ◌∷◌, ◌++◌}
use Rattle.std.specs.List.{list_all, list_any}
use Rattle.undo_base.specs.declared.keys.User.{User}
use Rattle.undo_outside.specs.declared.event.LinkNote.{LinkNote}
use Rattle.undo_outside.specs.declared.event.LinkNote.TheVariants.{Came, Sent, Missed, Closed}
use Rattle.undo_outside.specs.declared.event.Role.{Role}
use Rattle.undo_outside.specs.declared.event.Role.TheVariants as role
use Rattle.undo_outside.specs.declared.event.What.{What}
use Rattle.undo_outside.specs.declared.event.What.TheVariants.{Joined, Bytes, Left, Idle, End}
use Rattle.verb_core.specs.declared.conf.House.{House}
use Rattle.verb_core.specs.Boxes.{same_user}
use Rattle.mail_loop.specs.Machine.{Answered, Delivery, Reply, answered, first_delivery, happens, other_deliveries}
use Rattle.mail_loop.specs.PopTurn.{in_use}
use Rattle.mail_loop.specs.Serving.{Step, run}
use Rattle.mail_loop.specs.State.{Seat, Seats, State}
use Rattle.privacy_laws.specs.Agreeing.{Agree}
use Rattle.privacy_laws.specs.Clients.{IsSeatOf, bytes_are_of}
use Rattle.privacy_laws.specs.Told.{seats_at}

-- ---- two states

-- nothing is open at a connection, or one seat is, and it is the user's
abbrev pub IsOpenTo : User → ℕ → Seats → Type 0
IsOpenTo u conn [] = Unit {0}
IsOpenTo u conn (e ∷ []) = (e.0 ≡ conn) × IsSeatOf u e.1
IsOpenTo u conn (e ∷ f ∷ es) = ⊥

-- one of some seats has the user's maildrop in use
abbrev pub has_in_use : User → Seats → Bool
has_in_use u seats = list_any (same_user u) (in_use seats)

-- Two states agree for a user, whose connections these are. The stores agree on the user. Each of these connections has the same seat in both, of a
-- client of that user's, or is open in neither. On no other one the user's maildrop is in use.
pub record AgreeFor (house : House) (u : User) (own : ℕ → Bool) (s t : State) : Type 0 where
  pub kept : Agree house u s.kept t.kept
  pub seats : (conn : ℕ) → own conn ≡ true → seats_at conn s.seats ≡ seats_at conn t.seats
  pub mine : (conn : ℕ) → own conn ≡ true → IsOpenTo u conn (seats_at conn s.seats)
  pub one : (conn : ℕ) → own conn ≡ false → has_in_use u (seats_at conn s.seats) ≡ false
  pub other : (conn : ℕ) → own conn ≡ false → has_in_use u (seats_at conn t.seats) ≡ false

-- ---- an event on one of the user's connections

-- the roles of such a connection
abbrev pub is_by_login : Role → Bool
is_by_login role.Smtp = false
is_by_login role.Imap = true
is_by_login role.Http = false
is_by_login role.Pop = true

-- what happens there is a user's: a client joins by IMAP or POP3, bytes come that log in nobody else, or it leaves
abbrev pub what_is_of : House → User → Seats → What → Bool
what_is_of house u found (Joined role) = is_by_login role
what_is_of house u found (Bytes bytes) = list_all (λ (e : ℕ × Seat). bytes_are_of house u e.1 bytes) found
what_is_of house u found Left = true
what_is_of house u found Idle = true
what_is_of house u found End = true

-- how the strings of a connection go
abbrev pub deliveries_to : ℕ → List Delivery → List Reply → List Delivery
deliveries_to conn ds [] = []
deliveries_to conn ds (r ∷ rs) = if r.conn == conn then first_delivery ds ∷ deliveries_to conn (other_deliveries ds) rs else deliveries_to conn (other_deliveries ds) rs

-- what a step leaves before its strings are sent
abbrev pub answered_in : Step → State → Answered
answered_in step s = answered step.hindrances.unfed step.hindrances.turns step.hindrances.stage s step.event

-- the state behind a step
abbrev pub behind : Step → State → State
behind step s = (happens step.hindrances s step.event).state

-- A step of each run: the same event at the same moment, on one of the user's connections. It has the same want of memory and the same faults in its turns,
-- and its strings to the user's connections go alike. How other strings go and whether a snapshot is taken may differ.
pub record IsSameStep (house : House) (u : User) (own : ℕ → Bool) (s t : State) (i j : Step) : Type 0 where
  pub event : i.event ≡ j.event
  pub owned : own i.event.conn ≡ true
  pub only : what_is_of house u (seats_at i.event.conn s.seats) i.event.what ≡ true
  pub unfed : i.hindrances.unfed ≡ j.hindrances.unfed
  pub turns : i.hindrances.turns ≡ j.hindrances.turns
  pub stage : i.hindrances.stage ≡ j.hindrances.stage
  pub deliveries : (conn : ℕ) → own conn ≡ true →
      deliveries_to conn i.hindrances.deliveries (answered_in i s).replies ≡ deliveries_to conn j.hindrances.deliveries (answered_in j t).replies

-- ---- two runs

-- what the link does for a connection: each string that it sent or missed, and the close
abbrev pub is_for : ℕ → LinkNote → Bool
is_for conn (Came event) = false
is_for conn (Sent to bytes) = to == conn
is_for conn (Missed to bytes) = to == conn
is_for conn (Closed to) = to == conn

abbrev pub notes_for : ℕ → List LinkNote → List LinkNote
notes_for conn notes = filter (is_for conn) notes

-- Steps of each run, such as those of others, leave the agreement, and tell the user's connections the same: mostly nothing, or that the store was
-- rewound or upgraded.
pub record LeaveAgreement (house : House) (u : User) (own : ℕ → Bool) (s t : State) (is js : List Step) : Type 0 where
  pub agree : AgreeFor house u own (run is s).state (run js t).state
  pub told : (conn : ℕ) → own conn ≡ true → notes_for conn (run is s).notes ≡ notes_for conn (run js t).notes

-- a part of two runs: a step of each on a user's connection, or steps of others, of which one run may have more
pub data Part : Type 0 where
  Own : Step → Step → Part
  Others : List Step → List Step → Part

-- the steps of the one run, and of the other
abbrev pub first_run : List Part → List Step
first_run [] = []
first_run (Own i j ∷ parts) = i ∷ first_run parts
first_run (Others is js ∷ parts) = is ++ first_run parts

abbrev pub second_run : List Part → List Step
second_run [] = []
second_run (Own i j ∷ parts) = j ∷ second_run parts
second_run (Others is js ∷ parts) = js ++ second_run parts

-- Two runs are alike for a user: on the user's connections the same happens in both, and what others do between leaves the agreement.
abbrev pub AreAlikeFor : House → User → (ℕ → Bool) → State → State → List Part → Type 0
AreAlikeFor house u own s t [] = Unit {0}
AreAlikeFor house u own s t (Own i j ∷ parts) = IsSameStep house u own s t i j × AreAlikeFor house u own (behind i s) (behind j t) parts
AreAlikeFor house u own s t (Others is js ∷ parts) = LeaveAgreement house u own s t is js × AreAlikeFor house u own (run is s).state (run js t).state parts
