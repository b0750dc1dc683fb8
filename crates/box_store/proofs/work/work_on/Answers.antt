use Rattle.std.proofs.Common.{◌∙◌, List, ℕ, sym, ap}
use Rattle.verb_core.specs.Step.{deleted}
use Rattle.box_store.specs.declared.effect.Work.{Work}
use Rattle.box_store.specs.Effects.{worked}
use Rattle.box_store.proofs.work.work_on.Goals as goal

pub returns-in-Delete : goal.returns-in-Delete
returns-in-Delete c =
    c.delete.ensures
    ∙ ap (λ (n : List ℕ). deleted c.in-Delete.user n c.in-Delete.keys c.args.rows.now.items) c.bytes.ensures.value
    ∙ ap (λ (w : Work). worked w c.args.rows.now.items) (sym c.in-Delete.is)
