use Rattle.verb_bytes.proofs.AskedRanges.{snapshot_is_spelled}
use Rattle.verb_bytes.proofs.laws.snapshots_have_spellings.Goals as goal

pub returns : goal.returns
returns c = λ items conf rows n a f r. snapshot_is_spelled items conf rows n a f r
