use Rattle.touch_rules.proofs.Orders.{swap_given}
use Rattle.touch_rules.proofs.AimsKept.{can_find, swap_anew}
use Rattle.touch_rules.proofs.laws.commuting_items_swap.Goals as goal

pub returns : goal.returns
returns c = record { given = swap_given; found = can_find; anew = swap_anew }
