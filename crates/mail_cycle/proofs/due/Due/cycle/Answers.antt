use Rattle.std.proofs.Common.{rules, ◌≡◌, ◌+◌, nat_le, true, length}
use Rattle.mail_cycle.proofs.due.Due.cycle.Goals as goal
use Rattle.mail_cycle.proofs.Made.{cycle_task}

pub invariant_of-result : goal.invariant_of-result
invariant_of-result c =
    let left : nat_le (c.args.before.next + 1 + length c.args.ask.now.inserts + length c.args.before.house.accounts) 4194303 ≡ true = search rules in
    cycle_task c.args.before c.args.at c.args.ask.now c.in-Some.place c.stands.ensures c.requires.moment c.requires.acts left c.in-Some.ensures.within
