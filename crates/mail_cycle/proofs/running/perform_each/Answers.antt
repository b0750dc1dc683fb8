use Rattle.std.proofs.Common.{◌∙◌, List, ap, arith, get_or, length}
use Rattle.std.proofs.lemmas.List.{length-drop}
use Rattle.verb_core.specs.declared.item.Item.{Item}
use Rattle.verb_core.specs.Store.{MailStore}
use Rattle.replay_crew.specs.Hearing.{StoresOf}
use Rattle.mail_cycle.proofs.Heard.{next_heard, next_later, next_same, next_shows, next_store, next_tells}
use Rattle.replay_crew.proofs.Heard.{stays_on, stores_still}
use Rattle.replay_crew.proofs.Loops.{at_err}
use Rattle.mail_cycle.proofs.running.perform_each.Goals as goal

pub loop-item-preserved : goal.loop-item-preserved
loop-item-preserved g c =
    let old = c.args.items.now.items in
    let items = c.loop-item.item-items in
    let k = c.loop-item.item-index in
    let other = c.item-item.result in
    let new = c.perform_heard.new.item in
    let done = c.in_ok-shown.ensures in
    let so_far = c.loop-item.invariant in
    let first = g.B.Bodies.told c.args.bodies.now in
    let told = g.B.Bodies.told c.loop-item.bodies in
    record {
      later = next_later old items k other new (omega arith) so_far.later;
      heard = next_heard old items k other new (omega arith) so_far.later so_far.heard done.heard;
      same = λ is stored. next_same old items k other new (omega arith) so_far.later (so_far.same is stored)
          (done.same (so_far.stays.honest is) (stores_still first told (get_or items k other) so_far.stays (next_tells old items k other new (omega arith) so_far.later (StoresOf first) stored)));
      store = next_store old items k other new (omega arith) so_far.later c.args.store.now.store c.loop-item.store.store _ so_far.store done.store;
      valid = done.valid;
      house = ap (λ (m : MailStore). m.house) done.store ∙ so_far.house;
      shows = next_shows old items k other new (omega arith) so_far.later c.args.store.now.store c.loop-item.store.store c.args.front c.loop-item.left c.loop-item.shows c.keep.new.shows
          c.in_ok-shown.shown so_far.store so_far.left so_far.shows done.shown c.in_ok-left.ensures.shows;
      left = omega (arith, c.in_ok-left.ensures.left, so_far.left);
      steps = omega (arith, done.steps, so_far.steps);
      reads = done.reads ∙ so_far.reads;
      stays = stays_on first told _ so_far.stays done.stays;
      leads = g.met.B.Bodies.leads_on _ _ _ so_far.leads done.leads;
    }

pub returns-in_err-shown-clause-most : goal.returns-in_err-shown-clause-most
returns-in_err-shown-clause-most g c =
    let so_far = c.loop-item.invariant in
    let k = c.loop-item.item-index in
    let left = ap (λ (t : List Item). length t) so_far.later in
    at_err c.from_residual.result
    (omega (arith, c.in_err-shown.ensures.no_step, so_far.steps, left, length-drop k c.loop-item.item-items, length-drop k c.args.items.now.items))

pub returns-in_err-left-clause-most : goal.returns-in_err-left-clause-most
returns-in_err-left-clause-most g c =
    let so_far = c.loop-item.invariant in
    let k = c.loop-item.item-index in
    let left = ap (λ (t : List Item). length t) so_far.later in
    at_err c.from_residual-in_err-left.result
    (omega (arith, c.in_ok-shown.ensures.steps, so_far.steps, left, length-drop k c.loop-item.item-items, length-drop k c.args.items.now.items))
