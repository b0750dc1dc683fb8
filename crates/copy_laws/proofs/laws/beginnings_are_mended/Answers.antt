use Rattle.copy_laws.proofs.Cutting.{cut_of}
use Rattle.copy_laws.proofs.laws.beginnings_are_mended.Goals as goal

pub returns : goal.returns
returns c = cut_of
