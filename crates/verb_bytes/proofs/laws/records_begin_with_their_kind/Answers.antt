use Rattle.verb_bytes.proofs.Forms.{begins_with_kind}
use Rattle.verb_bytes.proofs.laws.records_begin_with_their_kind.Goals as goal

pub returns : goal.returns
returns c = begins_with_kind
