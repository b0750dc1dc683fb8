use Rattle.std.proofs.Common.{ap, sym, ◌∙◌}
use Rattle.mail_loop.specs.Serving.{at_first}
use Rattle.privacy_laws.specs.Runs.{notes_for}
use Rattle.privacy_laws.proofs.Alongside.{at_first_agree, runs_same}
use Rattle.privacy_laws.proofs.OthersSteps.{brought}
use Rattle.privacy_laws.proofs.others_steps.users_are_served_their_own_mail.Goals as goal

pub returns : goal.returns
returns c house u own k l new newer parts done doing conn agree same its one other =
    let first = at_first_agree house u own k l agree in
    ap (notes_for conn) one.notes_are
    ∙ (runs_same house u own parts (at_first k) (at_first l) first (brought house u own parts (at_first k) (at_first l) first same)).told conn its
    ∙ sym (ap (notes_for conn) other.notes_are)
