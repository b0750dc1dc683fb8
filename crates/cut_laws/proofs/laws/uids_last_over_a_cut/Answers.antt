use Rattle.cycle_rules.specs.Cutting.{cut}
use Rattle.desk_journal.specs.Founding.{cut_records}
use Rattle.cut_laws.proofs.Lasting.{lasts_cut, messages_stay}
use Rattle.cut_laws.proofs.laws.uids_last_over_a_cut.Goals as goal

pub returns-clause-messages : goal.returns-clause-messages
returns-clause-messages c = λ s place id stamp uid sound.
    messages_stay s place (λ body named. c.cuts_keep_the_store.ensures.texts s place sound.base sound.timeline sound.runs body named) id stamp uid

pub returns-clause-lasts : goal.returns-clause-lasts
returns-clause-lasts c = λ s place sound. lasts_cut s place sound (c.uids_last.ensures.itself s)

pub returns-clause-behind : goal.returns-clause-behind
returns-clause-behind c = λ records more kept new place is spelled after.
    let here = c.cuts_of_journals_open.ensures records kept place is spelled in
    c.uids_last.ensures.followed kept (cut kept place) new
    (lasts_cut kept place (c.states_are_sound.ensures.sound records kept is) (c.uids_last.ensures.itself kept))
    (c.records_let_uids_last.ensures.lasts (cut kept place) new more
    (c.states_are_sound.ensures.sound (cut_records kept place) (cut kept place) here)
    (c.states_are_sound.ensures.revs (cut_records kept place) (cut kept place) here)
    (c.states_are_sound.ensures.back (cut_records kept place) (cut kept place) here) after)

pub returns-clause-one : goal.returns-clause-one
returns-clause-one c = λ records more kept new place id stamp uid m n is spelled after first second.
    let here = c.cuts_of_journals_open.ensures records kept place is spelled in
    let sound = c.states_are_sound.ensures.sound (cut_records kept place) (cut kept place) here in
    let lasts = c.uids_last.ensures.followed kept (cut kept place) new
    (lasts_cut kept place (c.states_are_sound.ensures.sound records kept is) (c.uids_last.ensures.itself kept))
    (c.records_let_uids_last.ensures.lasts (cut kept place) new more sound
    (c.states_are_sound.ensures.revs (cut_records kept place) (cut kept place) here)
    (c.states_are_sound.ensures.back (cut_records kept place) (cut kept place) here) after) in
    c.uids_name_one_message.ensures.kept kept new id stamp uid m n (c.states_are_sound.ensures.sound records kept is) (c.states_are_sound.ensures.revs records kept is)
    (c.records_let_uids_last.ensures.sound (cut kept place) new more sound after) lasts first second
