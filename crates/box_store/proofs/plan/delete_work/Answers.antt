use Rattle.std.proofs.Common.{◌∙◌, ℕ, List, ap₂}
use Rattle.undo_base.specs.declared.keys.Key.{Key}
use Rattle.verb_core.specs.Step.{deleted}
use Rattle.box_store.proofs.Plans.{deletes}
use Rattle.box_store.proofs.plan.delete_work.Goals as goal

pub returns : goal.returns
returns c = λ boxes.
    deletes c.in_ok-keys.keys c.as_slice.result.now c.in_ok-keys.ensures c.args.user c.in_ok-mailbox.mailbox boxes
    ∙ ap₂ (λ (name : List ℕ) (keys : List Key). deleted c.args.user name keys boxes) c.in_ok-mailbox.ensures c.as_slice.ensures
