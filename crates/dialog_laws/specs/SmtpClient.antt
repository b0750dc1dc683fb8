-- The whole dialog with an SMTP client, and what is asked in it.
use Rattle.std.specs.Prelude.{ℕ, ◌≤◌, List, [], ◌∷◌, ◌++◌, Result}
use Rattle.std.specs.List.{AllByRecursion}
use Rattle.undo_base.specs.declared.limits.TheConstants.{LAST_MOMENT}
use Rattle.undo_base.specs.Name.{IsName}
use Rattle.smtp_lines.specs.declared.line.SmtpLine.{SmtpLine}
use Rattle.verb_core.specs.declared.ask.Ask.{Ask}
use Rattle.verb_core.specs.declared.ask.Ask.TheVariants.{Deliver}
use Rattle.verb_core.specs.declared.ask.SubmitFault.{SubmitFault}
use Rattle.verb_core.specs.declared.conf.Conf.{Conf}
use Rattle.verb_core.specs.declared.conf.House.{House}
use Rattle.verb_core.specs.declared.item.Item.{Item}
use Rattle.smtp_session.specs.declared.answer.SmtpOut.{SmtpOut}
use Rattle.smtp_session.specs.declared.answer.SmtpOut.TheVariants.{Nothing, Say, Mail as Asks, Bye}
use Rattle.smtp_session.specs.declared.dialog.Dialog.{Dialog}
use Rattle.smtp_session.specs.declared.dialog.Transaction.{Transaction}
use Rattle.smtp_session.specs.declared.dialog.Transaction.TheVariants.{Idle, Begun, Writing, Due}
use Rattle.smtp_session.specs.Dialog.{DialogTurn, settle, turn}
use Rattle.smtp_session.specs.Limits.{IsSmall}
use Rattle.verb_bytes.specs.Limits.{IsMail}

-- ---- one turn

-- the recipients of a transaction are names
abbrev pub HasNames : Transaction → Type 0
HasNames Idle = Unit {0}
HasNames (Begun path to) = AllByRecursion IsName to
HasNames (Writing path to text) = AllByRecursion IsName to
HasNames (Due host) = Unit {0}

-- a dialog within the limits, whose recipients are names
pub record IsMailing (d : Dialog) : Type 0 where
  pub small : IsSmall d
  pub names : HasNames d.transaction

-- the delivery of mail that can be stored
abbrev pub IsDelivery : Ask → Type 0
IsDelivery (Deliver from to text) = IsMail from to text
IsDelivery _ = ⊥

-- what a turn asks, if it asks
abbrev pub asked_by : SmtpOut → List Ask
asked_by (Asks ask) = ask ∷ []
asked_by Nothing = []
asked_by (Say text) = []
asked_by (Bye text) = []

-- ---- a whole dialog

-- what a dialog takes: a line at a moment, under the configuration that is in force then; or what became of what was asked
pub data Taken : Type 0 where
  Line : Conf → ℕ → SmtpLine → Taken
  Outcome : Result Item SubmitFault → Taken

-- the moment of a line lies within the years that dates can say
abbrev pub IsTimely : Taken → Type 0
IsTimely (Line conf at line) = at ≤ LAST_MOMENT
IsTimely (Outcome outcome) = Unit {0}

abbrev pub turn_of : House → Dialog → Taken → DialogTurn
turn_of house d (Line conf at line) = turn house conf at d line
turn_of house d (Outcome outcome) = settle d outcome

-- all that a dialog asks from here on, in order
abbrev pub asked_in : House → Dialog → List Taken → List Ask
asked_in house d [] = []
asked_in house d (taken ∷ more) = asked_by (turn_of house d taken).out ++ asked_in house (turn_of house d taken).dialog more
