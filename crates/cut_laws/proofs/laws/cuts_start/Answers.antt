use Rattle.cycle_rules.specs.Cutting.{cut}
use Rattle.cut_laws.specs.Cuts.{cut_journal}
use Rattle.cut_laws.proofs.Openings.{starts_as}
use Rattle.cut_laws.proofs.laws.cuts_start.Goals as goal

pub returns : goal.returns
returns g c = λ records kept place old new result is written honest content starts.
    starts_as c.one_opening.ensures (cut_journal kept place) (cut kept place) (g.D.Disk.told old) (g.D.Disk.told new) result (c.cuts_open.ensures.opens records kept place is written) honest content starts
