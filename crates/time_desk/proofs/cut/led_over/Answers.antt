use Rattle.std.proofs.Common.{◌∙◌, List, ap}
use Rattle.verb_core.specs.declared.item.Item.{Item}
use Rattle.verb_core.specs.Step.{run}
use Rattle.box_store.specs.Kept.{Kept}
use Rattle.time_desk.proofs.cut.led_over.Goals as goal

pub returns-in-Ok-clause-heard : goal.returns-in-Ok-clause-heard
returns-in-Ok-clause-heard g c = (c.in-Ok.made.items, c.in-Ok.ensures.heard, ap (λ (s : Kept). s.store) c.store_of.ensures ∙ c.in-Ok.ensures.store)

-- the items, as they were read, are as they were
pub returns-in-Ok-clause-store : goal.returns-in-Ok-clause-store
returns-in-Ok-clause-store g c = λ honest stored.
    ap (λ (s : Kept). s.store) c.store_of.ensures ∙ c.in-Ok.ensures.store
    ∙ ap (λ (items : List Item). run c.args.store.store items) (c.in-Ok.ensures.same honest stored)
