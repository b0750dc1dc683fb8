use Rattle.std.proofs.Common.{◌∙◌}
use Rattle.verb_core.specs.Names.{superiors}
use Rattle.box_store.specs.Plans.{missing_of}
use Rattle.verb_core.specs.Step.{all_created}
use Rattle.box_store.specs.Effects.{renamed_by}
use Rattle.box_store.proofs.plan.plain_rename.Goals as goal

pub returns : goal.returns
returns c = λ boxes. (λ j. renamed_by c.args.user (c.in_ok-source.ensures j) (c.in_ok-target.ensures j) c.in_ok-moves.moves (all_created c.args.user (c.in_ok-made.ensures j) boxes)) ∙ c.in_ok-moves.ensures (all_created c.args.user (missing_of c.args.user (superiors c.args.target.now) c.args.rows.now) boxes)
