use Rattle.std.proofs.Common.{◌≡◌, ◌∙◌}
use Rattle.std.specs.Prelude.{IfOk}
use Rattle.verb_core.specs.Step.{run}
use Rattle.box_store.specs.Kept.{Kept as StoreKept}
use Rattle.mail_cycle.proofs.Parted.{if_ok}
use Rattle.time_desk.specs.Cutting.{LedBy}
use Rattle.time_desk.proofs.Unfiltered.{all_hold, led_alike, never_fails}
use Rattle.time_desk.proofs.cut.led_unread.Goals as goal

pub led_reading-requires-clause-held : goal.led_reading-requires-clause-held
led_reading-requires-clause-held c = all_hold c.args.items.now

pub returns-clause-store : goal.returns-clause-store
returns-clause-store c =
    let first = c.args.store.store in
    let items = c.args.items.now in
    if_ok c.led_reading.result (λ (made : StoreKept). LedBy first items made.store) (λ (made : StoreKept). made.store ≡ run first items)
    (λ made led. led.2 ∙ led_alike first items led.0 c.requires.unread led.1) c.led_reading.ensures.heard

pub returns-clause-never : goal.returns-clause-never
returns-clause-never c = never_fails c.led_reading.result c.led_reading.ensures.reads
