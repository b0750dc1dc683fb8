use Rattle.verb_core.specs.declared.item.Way.TheVariants.{Merged}
use Rattle.verb_core.specs.Step.{after_rename}
use Rattle.box_store.proofs.plan.merging_rename.Goals as goal

pub returns : goal.returns
returns c = λ boxes j. after_rename Merged c.args.user (c.in_ok-source.ensures j) (c.in_ok-target.ensures j) boxes
