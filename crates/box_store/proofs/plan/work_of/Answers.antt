use Rattle.std.proofs.Common.{◌∙◌, sym}
use Rattle.std.proofs.lemmas.Result.{IfOk-weaker}
use Rattle.box_store.proofs.Plans.{nothing_after, copies_after}
use Rattle.box_store.proofs.plan.work_of.Goals as goal

pub returns-in-Copy : goal.returns-in-Copy
returns-in-Copy c = IfOk-weaker c.copy_work.result _ _ (λ w h boxes rising whole same.
    h boxes ∙ copies_after c.args.user c.args.item.now c.in-Copy.mailbox c.in-Copy.keys c.in-Copy.target c.view_of.result c.args.rows.now boxes c.args.aims.now c.in-Copy.is c.view_of.ensures same) c.copy_work.ensures

pub returns-in_default : goal.returns-in_default
returns-in_default c = IfOk-weaker c.plain_work.result _ _ (λ w h boxes rising whole same.
    h boxes rising whole same ∙ nothing_after c.args.user c.args.item.now c.args.aims.now boxes (sym c.in-None.ensures) c.in_default.not-Copy) c.plain_work.ensures
