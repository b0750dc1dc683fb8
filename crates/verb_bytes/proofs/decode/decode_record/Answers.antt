use Rattle.std.proofs.Common.{arith}
use Rattle.verb_bytes.proofs.Refusals.{decodes, is_this}
use Rattle.verb_bytes.proofs.decode.decode_record.Goals as goal

pub returns-clause-found : goal.returns-clause-found
returns-clause-found c = decodes c.args.bytes.now c.read_all.result (λ i. omega (arith, c.type_inv.bytes i)) c.read_all.ensures

pub returns-clause-only : goal.returns-clause-only
returns-clause-only c = λ what s. is_this what c.args.bytes.now c.read_all.result s c.read_all.ensures
