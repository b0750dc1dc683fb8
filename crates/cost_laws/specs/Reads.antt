-- Which texts an event of a mail program wants, as its session asks for them by the machine's definition. How often a disk is read no disk tells.
use Rattle.std.specs.Prelude.{◌⊎◌, ℕ, ◌≤◌, List, [], ◌∷◌, ◌++◌, length, unwrap_or, Option, None, Some}
use Rattle.std.specs.List.{AllByRecursion, sum_by}
use Rattle.smtp_lines.specs.Line.{smtp_lines_of}
use Rattle.imap_stream.specs.Commands.{heard}
use Rattle.imap_stream.specs.declared.next.Next.TheVariants.{NotYet}
use Rattle.imap_session.specs.declared.dialog.Selected.{Selected}
use Rattle.verb_core.specs.declared.mailbox.Body.{Body}
use Rattle.store_kept.specs.Kept.{Kept}
use Rattle.mail_loop.specs.declared.out.Out.{Out}
use Rattle.mail_loop.specs.declared.out.Out.TheVariants.{Say, Read, Submit, Bye}
use Rattle.mail_loop.specs.Hindrance.{Hindrance, first_hindrance, other_hindrances}
use Rattle.mail_loop.specs.ImapTurn.{imap_session}
use Rattle.mail_loop.specs.PopTurn.{pop_session}
use Rattle.mail_loop.specs.Session.{Session, size_in}
use Rattle.mail_loop.specs.SmtpTurn.{smtp_session}
use Rattle.mail_loop.specs.State.{Seat, Smtp, Imap, Http, Pop, State, beside}
use Rattle.mail_loop.specs.Turns.{turn_of}
use Rattle.cost_laws.specs.Units.{EndIn}

-- the bodies whose texts a unit wants, with what is kept then
pub record TextRead : Type 0 where
  pub kept : Kept
  pub bodies : List Body

-- what is wanted for what a session gives of a unit: once, or nothing
abbrev pub read_for : Kept → Out → List TextRead
read_for kept (Say said) = []
read_for kept (Read bodies) = record { kept = kept; bodies = bodies } ∷ []
read_for kept (Submit asked) = []
read_for kept (Bye said) = []

-- what is wanted after a unit, while the connection is open
abbrev pub goes_on : {D : Type 0} → Option D → (D → List TextRead) → List TextRead
goes_on None more = []
goes_on (Some d) more = more d

-- what is wanted for units, one after the other, each hindered or not
abbrev pub read_in : {D U : Type 0} → Session D U → ℕ → ℕ → List Hindrance → State → D → List U → List TextRead
read_in session at conn hs s d [] = []
read_in session at conn hs s d (u ∷ us) =
    let o = turn_of session at conn (first_hindrance hs) s d u in
    read_for s.kept (session.takes at s.kept (beside conn s.seats) d u).out ++ goes_on o.dialog (λ e. read_in session at conn (other_hindrances hs) o.state e us)

-- what is wanted for an event of a mail program; of a console nothing is told here
abbrev pub read_at : List Hindrance → ℕ → State → ℕ → Seat → List ℕ → List TextRead
read_at hs at s conn (Smtp unserved d) bytes = read_in smtp_session at conn hs s d (smtp_lines_of (unserved ++ bytes))
read_at hs at s conn (Imap stream d) bytes = read_in imap_session at conn hs s d ((heard stream bytes).said ++ NotYet ∷ [])
read_at hs at s conn (Http came) bytes = []
read_at hs at s conn (Pop unserved d) bytes = read_in pop_session at conn hs s d (smtp_lines_of (unserved ++ bytes))

-- how many octets texts have together, by their lengths
abbrev pub octets_read : (Body → Option ℕ) → List Body → ℕ
octets_read sizes bodies = sum_by (λ (body : Body). unwrap_or (sizes body) 0) bodies

-- how many messages the view of an IMAP client's selected mailbox has
abbrev pub in_view : Option Selected → ℕ
in_view None = 0
in_view (Some selected) = length selected.view

-- So few texts are wanted, which have no more octets together than one command may ask for.
pub record IsFewTexts (sizes : Body → Option ℕ) (most : ℕ) (bodies : List Body) : Type 0 where
  pub texts : length bodies ≤ most
  pub octets : octets_read sizes bodies ≤ 268435456

-- one text is wanted, or these have no more octets together than one command may ask for
abbrev pub IsSmall : TextRead → Type 0
IsSmall read = (length read.bodies ≤ 1) ⊎ (octets_read (size_in read.kept) read.bodies ≤ 268435456)

-- an event of these octets wants texts no more often than it may end units, and each time few
pub record ReadsFew (bytes : List ℕ) (reads : List TextRead) : Type 0 where
  pub few : EndIn (length reads) bytes
  pub each : AllByRecursion IsSmall reads
