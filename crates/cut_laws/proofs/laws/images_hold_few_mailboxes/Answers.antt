use Rattle.std.proofs.Common.{◌≤◌, length, arith}
use Rattle.desk_journal.specs.Founding.{front}
use Rattle.desk_journal.proofs.Fronts.{front_alone}
use Rattle.cut_laws.proofs.Sizes.{few_items, few_mailboxes}
use Rattle.cut_laws.proofs.laws.images_hold_few_mailboxes.Goals as goal

pub returns-clause-items : goal.returns-clause-items
returns-clause-items c = λ records kept is. few_items kept (c.states_are_sound.ensures.sound records kept is) (c.journals_can_be_cut.ensures records kept is)

pub returns-clause-mailboxes : goal.returns-clause-mailboxes
returns-clause-mailboxes c = λ records kept image stands is.
    let items : length kept.timeline ≤ 4194304 = few_items kept (c.states_are_sound.ensures.sound records kept is) (c.journals_can_be_cut.ensures records kept is) in
    let mailboxes : length kept.base.boxes ≤ 2147483647 =
    few_mailboxes records kept (λ first e. c.states_are_sound.ensures.sound (front records) first (front_alone records first e)) stands.short is in
    omega (arith, items, mailboxes)
