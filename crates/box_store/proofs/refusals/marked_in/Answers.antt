use Rattle.std.proofs.Common.{◌∙◌, List, Some, ap, sym, option_copied}
use Rattle.std.proofs.lemmas.Result.{IfOk-weaker}
use Rattle.undo_base.specs.declared.keys.Key.{Key}
use Rattle.verb_core.specs.Live.{marked_in}
use Rattle.box_store.proofs.refusals.marked_in.Goals as goal

pub returns-in-None : goal.returns-in-None
returns-in-None c = IfOk-weaker c.marked.result _ _ (λ keys is. is ∙ (λ j. marked_in (option_copied (sym c.in-None.is j)) c.args.entries.now)) c.marked.ensures

pub returns-in-Some : goal.returns-in-Some
returns-in-Some c =
    IfOk-weaker c.marked_among.result _ _ (λ keys is. is
    ∙ ap (λ (only : List Key). marked_in (Some only) c.args.entries.now) c.as_slice.ensures
    ∙ (λ j. marked_in (option_copied (sym c.in-Some.is j)) c.args.entries.now)) c.marked_among.ensures
