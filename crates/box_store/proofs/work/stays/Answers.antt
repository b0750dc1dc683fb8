use Rattle.std.proofs.Common.{◌∙◌, ◌||◌, Bool, ap}
use Rattle.verb_core.specs.Boxes.{has_inferior}
use Rattle.box_store.proofs.work.stays.Goals as goal

pub returns-then-is_inbox : goal.returns-then-is_inbox
returns-then-is_inbox c = c.if-is_inbox.true ∙ ap (λ (b : Bool). b || has_inferior c.args.user c.args.source.now c.args.rows.now) c.if-is_inbox.ensures

pub returns-else-is_inbox : goal.returns-else-is_inbox
returns-else-is_inbox c = c.has_inferior.ensures ∙ ap (λ (b : Bool). b || has_inferior c.args.user c.args.source.now c.args.rows.now) c.if-is_inbox.ensures
