use Rattle.cut_laws.proofs.Openings.{refused}
use Rattle.cut_laws.proofs.laws.beginnings_of_cuts_are_refused.Goals as goal

pub returns : goal.returns
returns c = λ records kept place front back is written split some.
    refused c.cuts_stand_whole.ensures.ends kept place written
    (c.cuts_of_journals_open.ensures records kept place is (c.cuts_open.ensures.spelled records kept place is written)) front back split some
