use Rattle.kept_laws.proofs.Again.{cut_again, only_again}
use Rattle.kept_laws.proofs.laws.cuts_can_be_written.Goals as goal

pub returns-clause-when : goal.returns-clause-when
returns-clause-when c = λ records kept place is framed uids.
    cut_again kept place (c.items_can_be_kept_again.ensures records kept is) (λ small. c.bases_can_be_recorded.ensures records kept place is small uids) framed

pub returns-clause-only : goal.returns-clause-only
returns-clause-only c = λ kept place can. (can.framed, only_again kept place can)
