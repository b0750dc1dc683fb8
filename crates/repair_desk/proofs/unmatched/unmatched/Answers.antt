use Rattle.repair_desk.proofs.Steps.{all_missing}
use Rattle.repair_desk.proofs.unmatched.unmatched.Goals as goal

pub returns : goal.returns
returns c =
    all_missing c.args.ask.now c.args.asked.now c.args.later.now c.in_ok-dropped.dropped c.in_ok-replaced.replaced c.new-numbers.result c.push_drops.new.numbers c.push_replaces.new.numbers
    c.as_slice.result.now c.as_slice-2.result.now c.requires c.in_ok-dropped.ensures c.in_ok-replaced.ensures c.as_slice.ensures c.as_slice-2.ensures c.new-numbers.ensures c.in_ok-push_drops.ensures c.in_ok-push_replaces.ensures
