-- What a whole run of serving costs, event by event.
use Rattle.std.specs.Prelude.{◌≡◌, ℕ, ◌+◌, ◌*◌, ◌≤◌, min, if◌then◌else◌, List, [], ◌∷◌, ◌++◌, length, Option, None, Some}
use Rattle.std.specs.List.{AllByRecursion}
use Rattle.undo_base.specs.declared.limits.TheConstants.{LAST_MOMENT}
use Rattle.undo_outside.specs.declared.event.What.{What}
use Rattle.undo_outside.specs.declared.event.What.TheVariants.{Joined, Bytes, Left, Idle, End}
use Rattle.mail_loop.specs.Acknowledged.{Stretch, behind, sealed_in, steps_of}
use Rattle.mail_loop.specs.Machine.{seat_at}
use Rattle.mail_loop.specs.Serving.{Step}
use Rattle.mail_loop.specs.State.{Seat, Smtp, Imap, Http, Pop, Seats, State}
use Rattle.cost_laws.specs.Reads.{IsSmall, ReadsFew, TextRead, read_at}
use Rattle.cost_laws.specs.Units.{IsServed}

-- of each open connection's stream each unit that is whole was served
abbrev pub AreServed : Seats → Type 0
AreServed seats = AllByRecursion (λ (e : ℕ × Seat). IsServed e.1) seats

-- ---- an event

-- the bytes that an event brings, if it does
abbrev pub bytes_of : What → List ℕ
bytes_of (Joined role) = []
bytes_of (Bytes bytes) = bytes
bytes_of Left = []
bytes_of Idle = []
bytes_of End = []

-- the seat that hears the bytes of an event: none where it brings none, or where its connection is not open
abbrev pub hearer : Seats → ℕ → What → Option Seat
hearer seats conn (Joined role) = None
hearer seats conn (Bytes bytes) = seat_at conn seats
hearer seats conn Left = None
hearer seats conn Idle = None
hearer seats conn End = None

-- So many records may be sealed for an event of n octets: half of n + 1 at most, of a POP3 client n + 1, of a console one, and none where no seat hears
-- it.
abbrev pub SealsFew : Option Seat → List ℕ → ℕ → Type 0
SealsFew None bytes sealed = sealed ≡ 0
SealsFew (Some (Smtp unserved d)) bytes sealed = 2 * sealed ≤ length bytes + 1
SealsFew (Some (Imap stream d)) bytes sealed = 2 * sealed ≤ length bytes + 1
SealsFew (Some (Http came)) bytes sealed = sealed ≤ 1
SealsFew (Some (Pop unserved d)) bytes sealed = sealed ≤ length bytes + 1

-- what is wanted for bytes that a seat hears in a step: nothing, where they found no memory; what a console's request reads is not told
abbrev pub read_by : Option Seat → State → Step → List ℕ → List TextRead
read_by None s step bytes = []
read_by (Some seat) s step bytes =
    if step.hindrances.unfed then [] else read_at step.hindrances.turns (min step.event.at LAST_MOMENT) s step.event.conn seat bytes

-- what is wanted in a step
abbrev pub read_in_step : State → Step → List TextRead
read_in_step s step = read_by (hearer s.seats step.event.conn step.event.what) s step (bytes_of step.event.what)

-- An event costs little: so few records are sealed for it before its strings, and one snapshot at most behind them. And a mail program wants texts no
-- more often than half of n + 1 times, each time one or no more than 268,435,456 octets.
pub record CostsLittle {D : Type 0} (s : State) (w : Stretch D) : Type 0 where
  pub records : SealsFew (hearer s.seats w.step.event.conn w.step.event.what) (bytes_of w.step.event.what) (length w.sealed)
  pub snapshot : length w.snapshot ≤ 1
  pub reads : ReadsFew (bytes_of w.step.event.what) (read_in_step s w.step)

-- ---- a run

-- each event of a course costs little, in the state that the machine has then
abbrev pub EachCostsLittle : {D : Type 0} → State → List (Stretch D) → Type 0
EachCostsLittle s [] = Unit {0}
EachCostsLittle s (w ∷ more) = CostsLittle s w × EachCostsLittle (behind s w.step) more

-- how many octets come in these steps
abbrev pub octets_in : List Step → ℕ
octets_in [] = 0
octets_in (step ∷ steps) = length (bytes_of step.event.what) + octets_in steps

-- what is wanted in these steps
abbrev pub read_in_steps : State → List Step → List TextRead
read_in_steps s [] = []
read_in_steps s (step ∷ steps) = read_in_step s step ++ read_in_steps (behind s step) steps

-- A course costs little: no more records are sealed in all, snapshots among them, than octets come, and two for each event. And its mail programs
-- want texts no more often than half as many times as octets and events come, each time one or no more than 268,435,456 octets.
pub record CostLittle {D : Type 0} (s : State) (course : List (Stretch D)) : Type 0 where
  pub records : length (sealed_in course) ≤ octets_in (steps_of course) + 2 * length course
  pub reads : 2 * length (read_in_steps s (steps_of course)) ≤ octets_in (steps_of course) + length course
  pub each : AllByRecursion IsSmall (read_in_steps s (steps_of course))
