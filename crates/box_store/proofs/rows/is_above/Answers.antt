use Rattle.std.proofs.Common.{◌-◌, ◌∙◌, ap, is_lt, arith}
use Rattle.box_store.proofs.Making.{rising_above}
use Rattle.box_store.proofs.rows.is_above.Goals as goal

-- the row is above the one before it
pub returns-else-place-eq0 : goal.returns-else-place-eq0
returns-else-place-eq0 c =
    c.is_lt.ensures ∙ ap is_lt c.compare.ensures
    ∙ rising_above c.args.rows.now c.args.place (c.args.place - 1) c.index-rows-place.result c.index-rows-place-else-place-eq0.result (omega arith) c.requires.within c.requires.rising
