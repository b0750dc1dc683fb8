use Rattle.std.proofs.Common.{◌∷◌, ◌++◌, refl}
use Rattle.seal_log.specs.Journal.{frame}
use Rattle.seal_log.proofs.Readings.{agree, whole_not_cut}
use Rattle.seal_log.proofs.laws.readings_agree.Goals as goal

pub returns-clause-agree : goal.returns-clause-agree
returns-clause-agree c a b r s fit_a fit_b same = agree a b r s fit_a fit_b same

pub returns-clause-whole : goal.returns-clause-whole
returns-clause-whole c payload more fits some cut = whole_not_cut (85 ∷ (frame payload ++ more)) payload more fits some refl cut
