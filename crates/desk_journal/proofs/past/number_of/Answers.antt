use Rattle.std.proofs.Common.{sym, arith}
use Rattle.std.proofs.lemmas.Nat.{be_bytes_4}
use Rattle.desk_journal.proofs.past.number_of.Goals as goal

pub returns : goal.returns
returns c = sym (be_bytes_4 c.args.bytes.now c.from_be_bytes.result c.requires (λ i. omega (arith, c.type_inv.bytes i)) c.from_be_bytes.ensures)
