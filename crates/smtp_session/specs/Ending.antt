-- How the end of a text ends a transaction, for the code that does it.
use Rattle.std.specs.Prelude.{◌≡◌, ℕ, List, Option, None, Some}
use Rattle.verb_core.specs.declared.ask.Ask.TheVariants.{Deliver}
use Rattle.smtp_session.specs.declared.answer.Answer.TheVariants.{TextTooLarge}
use Rattle.smtp_session.specs.declared.answer.SmtpOut.{SmtpOut}
use Rattle.smtp_session.specs.declared.answer.SmtpOut.TheVariants.{Say, Mail as Asks}
use Rattle.smtp_session.specs.declared.dialog.Transaction.{Transaction}
use Rattle.smtp_session.specs.declared.dialog.Transaction.TheVariants.{Idle, Due}
use Rattle.smtp_session.specs.Answer.{answer_text}

-- a text ends with its body, or with none where it was too large: what is said or asked, and the transaction behind it
abbrev pub EndsText : List ℕ → List ℕ → List (List ℕ) → Option (List ℕ) → SmtpOut → Transaction → Type 0
EndsText host path to None out new = (out ≡ Say (answer_text host TextTooLarge)) × (new ≡ Idle)
EndsText host path to (Some body) out new = (out ≡ Asks (Deliver path to body)) × (new ≡ Due host)
