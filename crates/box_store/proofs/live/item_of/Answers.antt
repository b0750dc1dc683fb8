use Rattle.std.proofs.Common.{◌∙◌, false, refl}
use Rattle.std.proofs.lemmas.Result.{IfOk-weaker}
use Rattle.verb_core.specs.Live.{asker}
use Rattle.verb_core.specs.Step.{shown}
use Rattle.box_store.proofs.InTurn.{item-now}
use Rattle.box_store.proofs.live.item_of.Goals as goal

pub returns : goal.returns
returns c = IfOk-weaker c.with_answer.result _ _ (λ item is. is ∙
    item-now c.args.store.now.store c.args.by c.requires.valid c.args.number c.args.at c.args.ask c.args.deep c.in_ok-deed.deed (asker c.args.by) c.args.store.now.store.boxes (shown false (asker c.args.by) c.in_ok-deed.deed c.args.store.now.store.boxes)
    c.requires.names c.in_ok-deed.ensures refl refl refl) c.with_answer.ensures
