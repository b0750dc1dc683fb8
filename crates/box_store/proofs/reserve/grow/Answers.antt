use Rattle.std.proofs.Common.{◌≡◌, true, List, sym, subst}
use Rattle.verb_core.specs.declared.mailbox.Entry.{Entry}
use Rattle.verb_core.specs.KeyOrder.{keys_rise}
use Rattle.box_store.proofs.reserve.grow.Goals as goal

pub from_parts-requires : goal.from_parts-requires
from_parts-requires c = λ t.
    subst (λ (xs : List Entry). keys_rise xs ≡ true) (sym c.reserve-grown.ensures.items) (c.into_parts-list.ensures.order t)
