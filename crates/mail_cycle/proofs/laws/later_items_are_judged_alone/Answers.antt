use Rattle.mail_cycle.proofs.Placing.{others_untold, shown_alone, told_alone, told_in_order}
use Rattle.mail_cycle.proofs.laws.later_items_are_judged_alone.Goals as goal

pub returns : goal.returns
returns c = record { told = told_alone; others = others_untold; shown = shown_alone; list = told_in_order }
