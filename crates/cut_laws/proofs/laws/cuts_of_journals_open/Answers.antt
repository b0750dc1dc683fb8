use Rattle.cut_laws.proofs.laws.cuts_of_journals_open.Goals as goal

pub returns : goal.returns
returns c = λ records kept place is spelled.
    c.cuts_open_as_they_are.ensures.cut kept place (c.states_are_sound.ensures.sound records kept is) (c.states_are_sound.ensures.revs records kept is) (c.journals_can_be_cut.ensures records kept is) spelled
