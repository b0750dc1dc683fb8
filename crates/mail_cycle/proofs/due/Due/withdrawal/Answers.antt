use Rattle.std.proofs.Common.{rules, ◌≡◌, ◌∙◌, ◌+◌, List, ap, arith, nat_le, subst, sym, drop, true, length}
use Rattle.verb_core.specs.declared.item.Item.{Item}
use Rattle.withdraw.specs.Unediting.{unedited_behind}
use Rattle.cycle_rules.specs.Withdrawals.{restored_items}
use Rattle.mail_cycle.specs.Tasks.{IsTask, Task}
use Rattle.mail_cycle.proofs.due.Due.withdrawal.Goals as goal
use Rattle.mail_cycle.proofs.Made.{withdrawal_can, withdrawal_is}

pub returns-clause-due : goal.returns-clause-due
returns-clause-due c =
    let before = c.args.before in
    let last = c.args.last.now in
    let are : c.in_ok-later.later ≡ drop last.position (restored_items before last) =
    c.in_ok-later.ensures ∙ ap (λ (t : List Item). drop last.position (unedited_behind t last)) c.later.ensures in
    withdrawal_is before c.args.at last c.in_ok-later.later are (c.the_front_stays.ensures.front before.timeline last (omega (arith, c.requires.back.position, c.requires.back.placed)))

pub invariant_of-result : goal.invariant_of-result
invariant_of-result c =
    let before = c.args.before in
    let last = c.args.last.now in
    let left : nat_le (before.next + 1 + 0 + length before.house.accounts) 4194303 ≡ true = search rules in
    let are : c.in_ok-later.later ≡ drop last.position (restored_items before last) =
    c.in_ok-later.ensures ∙ ap (λ (t : List Item). drop last.position (unedited_behind t last)) c.later.ensures in
    let front = c.the_front_stays.ensures.front before.timeline last in
    subst (λ (t : Task). IsTask t)
    (sym (withdrawal_is before c.args.at last c.in_ok-later.later are (front (omega (arith, c.requires.back.position, c.requires.back.placed)))))
    (withdrawal_can before c.args.at last c.stands.ensures c.requires.moment left c.requires.back front
    (c.unedited_timelines_are_timelines.ensures.timeline before.house before.timeline last c.requires.timeline c.requires.back))
