use Rattle.std.proofs.Common.{◌∙◌, Bool, ap, sym, subst}
use Rattle.verb_core.specs.Step.{shown}
use Rattle.verb_core.specs.Touched.{deed_touches}
use Rattle.box_store.specs.declared.effect.Work.{Work}
use Rattle.box_store.specs.Kept.{Kept}
use Rattle.box_store.specs.Plans.{Does, after}
use Rattle.box_store.proofs.Made.{made}
use Rattle.box_store.proofs.store.Store.effect.Goals as goal

pub returns : goal.returns
returns c =
    let there = c.as_slice-rows.ensures.value ∙ ap (λ (k : Kept). k.store.boxes) c.self.view_is in
    let shows = c.in_ok-effect.ensures.shown ∙ ap (λ (b : Bool). shown b c.actor_of-user.result c.args.what.now.item.deed c.as_slice-rows.result.now) c.missed_some.ensures in
    let works = subst (λ (w : Work). Does (deed_touches c.actor_of-user.result c.args.what.now.item.deed) c.as_slice-rows.result.now w (after c.actor_of-user.result c.args.what.now.item c.args.what.now.aims)) (sym c.in_ok-effect.ensures.work) c.in_ok-work.ensures in
    made c.in_ok-effect.effect c.args.what.now c.args.self.now.store c.actor_of-user.result c.as_slice-rows.result.now c.actor_of-user.ensures there works c.in_ok-effect.ensures.act shows
