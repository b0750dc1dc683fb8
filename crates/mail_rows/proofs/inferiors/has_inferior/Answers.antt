use Rattle.std.proofs.Common.{◌∙◌, Bool, not, ap}
use Rattle.verb_core.specs.Names.{is_empty}
use Rattle.mail_rows.proofs.Runs.{some_row, empty_is}
use Rattle.mail_rows.proofs.inferiors.has_inferior.Goals as goal

pub returns : goal.returns
returns c =
    ap (λ (b : Bool). not b) (empty_is c.inferiors_of.result.now c.is_empty.result c.is_empty.ensures ∙ ap is_empty c.inferiors_of.ensures)
    ∙ some_row c.args.user c.args.name.now c.args.rows.now
