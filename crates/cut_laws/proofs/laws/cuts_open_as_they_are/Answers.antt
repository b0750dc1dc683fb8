use Rattle.cycle_rules.specs.Cutting.{cut}
use Rattle.cut_laws.proofs.Cut.{cut_founded}
use Rattle.cut_laws.proofs.Founded.{founded_again}
use Rattle.cut_laws.proofs.laws.cuts_open_as_they_are.Goals as goal

pub returns-clause-founded : goal.returns-clause-founded
returns-clause-founded c = founded_again

pub returns-clause-cut : goal.returns-clause-cut
returns-clause-cut c = λ s place sound revs can spelled.
    founded_again (cut s place)
    (cut_founded c.mail_is_kept.ensures (λ house conf boxes. (c.rows_make_valid_stores.ensures.valid house conf boxes).1) s place sound revs can)
    spelled
