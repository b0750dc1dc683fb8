use Rattle.std.proofs.Common.{◌∙◌, ap, sym, drop}
use Rattle.verb_core.specs.KeyOrder.{keys_rise}
use Rattle.mail_rows.proofs.KeyPlaces.{rise-flags}
use Rattle.mail_rows.proofs.mail.set_flags.Goals as goal

pub from_parts-requires : goal.from_parts-requires
from_parts-requires c = λ t.
    sym (rise-flags (drop c.loop-change.change-index c.args.changes.now) c.loop-change.list.items)
    ∙ ap keys_rise c.loop-change.invariant
    ∙ rise-flags c.args.changes.now c.into_parts-list.result.0.items
    ∙ c.into_parts-list.ensures.order t
