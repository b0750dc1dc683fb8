use Rattle.std.proofs.Common.{◌∙◌, ap}
use Rattle.std.proofs.lemmas.Result.{IfOk-weaker}
use Rattle.verb_core.specs.Boxes.{rows_of}
use Rattle.box_store.specs.Kept.{Kept}
use Rattle.box_store.proofs.KeysThere.{names_again}
use Rattle.box_store.proofs.store.Store.names.Goals as goal

pub returns : goal.returns
returns c =
    let there = c.as_slice.ensures.value ∙ ap (λ (k : Kept). k.store.boxes) c.self.view_is in
    IfOk-weaker c.names_in.result _ _
    (λ names is. is ∙ names_again c.args.user c.args.self.now.store.boxes c.rows_of.result.now (c.rows_of.ensures ∙ ap (rows_of c.args.user) there))
    c.names_in.ensures
