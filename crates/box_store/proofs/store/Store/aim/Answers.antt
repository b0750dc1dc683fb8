use Rattle.std.proofs.Common.{◌∙◌, ap, ap₂}
use Rattle.verb_core.specs.declared.conf.Conf.{Conf}
use Rattle.verb_core.specs.declared.item.Resolved.{Resolved}
use Rattle.verb_core.specs.Aims.{sought}
use Rattle.verb_core.specs.Step.{Boxes}
use Rattle.box_store.specs.Kept.{Kept}
use Rattle.box_store.proofs.Aimed.{aimed}
use Rattle.box_store.proofs.store.Store.aim.Goals as goal

pub returns-clause-aimed : goal.returns-clause-aimed
returns-clause-aimed c =
    let what : Resolved = record { item = c.in_ok-item.item; aims = c.in_ok-reach.reach.aims; missed = c.in_ok-reach.reach.missed } in
    let rows = ap₂ (λ (conf : Conf) (boxes : Boxes). sought (record { house = c.self.inside.house; conf = conf; boxes = boxes }) c.args.text.now c.args.item.now.by c.args.item.now.deed) c.conf.ensures c.as_slice.ensures.value in
    let here = ap (λ (k : Kept). sought k.store c.args.text.now c.args.item.now.by c.args.item.now.deed) c.self.view_is in
    aimed c.args.self.now.store c.args.item.now c.args.text.now what c.requires.valid c.requires.formed c.in_ok-item.ensures (c.in_ok-reach.ensures ∙ rows ∙ here)
