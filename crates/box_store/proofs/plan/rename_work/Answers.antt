use Rattle.std.proofs.Common.{◌≡◌, ◌∙◌, sym, ap}
use Rattle.std.proofs.lemmas.Result.{IfOk-weaker}
use Rattle.verb_core.specs.declared.item.Way.{Way}
use Rattle.verb_core.specs.Step.{after_rename}
use Rattle.box_store.proofs.Renames.{same_way, planned}
use Rattle.box_store.proofs.plan.rename_work.Goals as goal

pub returns-in-NoSource : goal.returns-in-NoSource
returns-in-NoSource c = λ boxes rising whole same.
    c.no_work.ensures boxes
    ∙ ap (λ (way : Way). after_rename way c.args.user c.args.source.now c.args.target.now boxes) (sym (sym (same_way c.args.user c.args.source.now c.args.target.now c.args.rows.now boxes c.requires rising same) ∙ sym c.way_of.ensures ∙ c.in-NoSource.is))

pub returns-in-Plain : goal.returns-in-Plain
returns-in-Plain c = IfOk-weaker c.plain_rename.result _ _ (λ w h boxes rising whole same.
    h boxes ∙ planned c.args.user c.args.source.now c.args.target.now c.args.rows.now boxes c.requires rising same whole
    (sym (same_way c.args.user c.args.source.now c.args.target.now c.args.rows.now boxes c.requires rising same) ∙ sym c.way_of.ensures ∙ c.in-Plain.is)) c.plain_rename.ensures

pub returns-in-Merged : goal.returns-in-Merged
returns-in-Merged c = IfOk-weaker c.merging_rename.result _ _ (λ w h boxes rising whole same.
    h boxes ∙ ap (λ (way : Way). after_rename way c.args.user c.args.source.now c.args.target.now boxes) (sym (sym (same_way c.args.user c.args.source.now c.args.target.now c.args.rows.now boxes c.requires rising same) ∙ sym c.way_of.ensures ∙ c.in-Merged.is))) c.merging_rename.ensures
