use Rattle.std.proofs.Common.{◌≡◌}
use Rattle.verb_core.specs.Step.{run}
use Rattle.stored_items.proofs.Heard.{all_heard_themselves}
use Rattle.box_store.specs.Kept.{Kept as StoreKept}
use Rattle.mail_cycle.proofs.Parted.{if_ok}
use Rattle.time_desk.specs.Cutting.{LedBy}
use Rattle.time_desk.proofs.Unfiltered.{counts_none}
use Rattle.time_desk.proofs.cut.led.Goals as goal

pub returns-then-none_looks-clause-heard : goal.returns-then-none_looks-clause-heard
returns-then-none_looks-clause-heard g c =
    let first = c.args.store.store in
    let items = c.args.items.now in
    if_ok c.led_unread.result (λ (made : StoreKept). made.store ≡ run first items) (λ (made : StoreKept). LedBy first items made.store)
    (λ made is. (items, all_heard_themselves items, is)) c.led_unread.ensures.store

pub returns-then-none_looks-clause-reads : goal.returns-then-none_looks-clause-reads
returns-then-none_looks-clause-reads g c = counts_none (g.B.Bodies.told c.args.bodies.now) c.led_unread.result c.led_unread.ensures.never
