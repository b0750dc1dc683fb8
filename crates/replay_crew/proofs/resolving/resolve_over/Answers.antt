use Rattle.std.proofs.Common.{◌+◌, ◌∙◌, arith, get_or, slice_set, take}
use Rattle.replay_crew.specs.Hearing.{StoresOf}
use Rattle.replay_crew.proofs.Heard.{house_after, next_heard, next_later, next_outline, next_same, next_tells, next_turn, stays_on, stores_still}
use Rattle.replay_crew.proofs.resolving.resolve_over.Goals as goal

pub loop-item-preserved : goal.loop-item-preserved
loop-item-preserved g c =
    let old = c.args.items.now.items in
    let items = c.loop-item.item-items in
    let k = c.loop-item.item-index in
    let other = c.item-item.result in
    let new = c.resolve_next.new.item in
    let done = c.in_ok-what.ensures in
    let so_far = c.loop-item.invariant in
    let base = c.args.store.now.store in
    let first = g.B.Bodies.told c.args.bodies.now in
    let told = g.B.Bodies.told c.loop-item.bodies in
    let led = next_outline old items k other new (omega arith) so_far.later base c.loop-item.outline.store _ so_far.outline done.outline in
    record {
      later = next_later old items k other new (omega arith) so_far.later;
      heard = next_heard old items k other new (omega arith) so_far.later so_far.heard done.heard;
      same = λ honest stored. next_same old items k other new (omega arith) so_far.later (so_far.same honest stored)
          (done.same (so_far.stays.honest honest) (stores_still first told (get_or items k other) so_far.stays (next_tells old items k other new (omega arith) so_far.later (StoresOf first) stored)));
      outline = led;
      valid = done.valid;
      house = house_after base c.resolve_next.new.outline.store (take (k + 1) (slice_set items k new)) led;
      turned = next_turn old items k other new (omega arith) so_far.later base c.loop-item.outline.store c.loop-item.all c.keep.new.all c.in_ok-what.what so_far.outline so_far.turned done.turn c.in_ok-keep.ensures.all;
      reads = done.reads ∙ so_far.reads;
      stays = stays_on first told _ so_far.stays done.stays;
      leads = g.met.B.Bodies.leads_on _ _ _ so_far.leads done.leads;
    }

pub returns-in_err-keep-clause-leads : goal.returns-in_err-keep-clause-leads
returns-in_err-keep-clause-leads g c = g.met.B.Bodies.leads_on _ _ _ c.loop-item.invariant.leads c.in_ok-what.ensures.leads
