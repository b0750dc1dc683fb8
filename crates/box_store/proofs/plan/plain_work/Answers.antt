use Rattle.std.proofs.Common.{IfOk, subst, sym}
use Rattle.std.proofs.lemmas.Result.{IfOk-weaker}
use Rattle.verb_core.specs.declared.item.Deed.{Deed}
use Rattle.verb_core.specs.Step.{rearranged}
use Rattle.verb_core.specs.Touched.{deed_touches}
use Rattle.box_store.specs.Plans.{Does}
use Rattle.box_store.proofs.plan.plain_work.Goals as goal

pub returns-in-Delete : goal.returns-in-Delete
returns-in-Delete c =
    subst (λ (d : Deed). IfOk c.delete_work.result (λ w. Does (deed_touches c.args.user d) c.args.rows.now w (rearranged c.args.user d))) (sym c.in-Delete.is)
    (IfOk-weaker c.delete_work.result _ _ (λ w h boxes rising whole same. h boxes) c.delete_work.ensures)
