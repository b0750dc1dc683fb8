use Rattle.std.proofs.Common.{◌∙◌, List, ap, refl, take, sym}
use Rattle.std.proofs.Math.Seq.{take-length}
use Rattle.verb_core.specs.declared.item.Item.{Item}
use Rattle.verb_core.specs.Step.{run}
use Rattle.time_desk.proofs.cut.parts_now.Goals as goal

-- the store at hand is that of all items
pub returns-in-Ok-clause-parts : goal.returns-in-Ok-clause-parts
returns-in-Ok-clause-parts c = λ runs.
    let kept = c.args.desk.now.kept in
    c.in-Ok.ensures.parts (c.store.ensures.value ∙ runs
    ∙ ap (run kept.base) (sym (take-length kept.timeline) ∙ ap (λ n. take n kept.timeline) (sym c.requires.last)))
