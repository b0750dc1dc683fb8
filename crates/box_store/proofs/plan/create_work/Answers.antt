use Rattle.std.proofs.Common.{◌∙◌, ℕ, List, ap}
use Rattle.verb_core.specs.Step.{all_created}
use Rattle.verb_core.specs.Boxes.{box_of}
use Rattle.box_store.proofs.Renames.{creates}
use Rattle.box_store.proofs.plan.create_work.Goals as goal

pub returns : goal.returns
returns c = λ boxes rising whole same.
    ap (λ (names : List (List ℕ)). all_created c.args.user names boxes) c.in_ok-mailboxes.ensures
    ∙ creates c.args.user c.args.rows.now c.args.mailbox.now boxes (λ n h. same (box_of c.args.user n) h)
