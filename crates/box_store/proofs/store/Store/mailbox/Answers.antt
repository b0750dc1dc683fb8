use Rattle.std.proofs.Common.{◌∙◌, ap}
use Rattle.verb_core.specs.Boxes.{box_of, row_at}
use Rattle.verb_core.specs.Step.{Boxes}
use Rattle.box_store.specs.Kept.{Kept}
use Rattle.box_store.proofs.store.Store.mailbox.Goals as goal

pub returns : goal.returns
returns c =
    let there = c.as_slice.ensures.value ∙ ap (λ (k : Kept). k.store.boxes) c.self.view_is in
    c.search_mailbox.ensures ∙ ap (λ (rows : Boxes). row_at (box_of c.args.user c.args.name.now) rows) there
