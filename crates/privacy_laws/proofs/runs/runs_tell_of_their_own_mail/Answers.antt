use Rattle.std.proofs.Common.{ap, sym, ◌∙◌}
use Rattle.mail_loop.specs.Serving.{at_first}
use Rattle.privacy_laws.specs.Runs.{notes_for}
use Rattle.privacy_laws.proofs.Alongside.{at_first_agree, runs_same}
use Rattle.privacy_laws.proofs.runs.runs_tell_of_their_own_mail.Goals as goal

pub returns-clause-told : goal.returns-clause-told
returns-clause-told c house u own s t parts conn agree alike its = (runs_same house u own parts s t agree alike).told conn its

pub returns-clause-agree : goal.returns-clause-agree
returns-clause-agree c house u own s t parts agree alike = (runs_same house u own parts s t agree alike).agree

pub returns-clause-served : goal.returns-clause-served
returns-clause-served c house u own k l new newer parts done doing conn agree alike its one other =
    ap (notes_for conn) one.notes_are ∙ (runs_same house u own parts (at_first k) (at_first l) (at_first_agree house u own k l agree) alike).told conn its ∙ sym (ap (notes_for conn) other.notes_are)
