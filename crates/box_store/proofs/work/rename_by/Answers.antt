use Rattle.std.proofs.Common.{◌∙◌, List, ℕ, sym, ap, ap₂}
use Rattle.verb_core.specs.declared.item.Way.{Way}
use Rattle.verb_core.specs.declared.item.Way.TheVariants.{Merged}
use Rattle.verb_core.specs.Step.{after_rename}
use Rattle.box_store.specs.declared.effect.Work.TheVariants.{Rename}
use Rattle.box_store.specs.Effects.{worked}
use Rattle.box_store.proofs.work.rename_by.Goals as goal

pub returns : goal.returns
returns c =
    c.merge.ensures
    ∙ ap₂ (λ (s t : List ℕ). after_rename Merged c.args.user s t c.args.rows.now.items) c.bytes.ensures.value c.bytes-in-Merged.ensures.value
    ∙ ap (λ (way : Way). worked (Rename way c.args.user c.args.source c.args.target c.args.made c.args.moves) c.args.rows.now.items) (sym c.in-Merged.is)
