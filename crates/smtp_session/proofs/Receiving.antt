-- RCPT in a transaction that has begun.
use Rattle.std.proofs.Common.{◌≡◌, ℕ, Bool, List, sym, subst}
use Rattle.verb_core.specs.declared.conf.House.{House}
use Rattle.smtp_session.specs.declared.dialog.Dialog.{Dialog}
use Rattle.smtp_session.specs.declared.dialog.Transaction.{Transaction}
use Rattle.smtp_session.specs.declared.dialog.Transaction.TheVariants.{Begun}
use Rattle.smtp_session.specs.Dialog.{DialogTurn, receive}

pub received : (house : House) (d : Dialog) (path : List ℕ) (to : List (List ℕ)) (local : List ℕ) (known : Bool) (turn : DialogTurn)
    → d.transaction ≡ Begun path to
    → receive house (record { client = d.client; transaction = Begun path to }) (Begun path to) local known ≡ turn
    → receive house d d.transaction local known ≡ turn
received house d path to local known turn e h =
    subst (λ (t : Transaction). receive house (record { client = d.client; transaction = t }) t local known ≡ turn) (sym e) h
