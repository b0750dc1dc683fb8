use Rattle.std.proofs.Common.{◌∷◌, ◌++◌, List, ℕ, subst}
use Rattle.base_cut.specs.Cutting.{Writes}
use Rattle.base_cut.proofs.Writings.{first_one}
use Rattle.base_cut.proofs.framing.write_first_payload.Goals as goal

pub returns-clause-writes : goal.returns-clause-writes
returns-clause-writes g c =
    let told = g.W.Sink.told in
    let payload = c.args.payload.now in
    first_one payload (told c.args.out.now) (told c.write_pieces.new.out) c.write_pieces.result c.requires
    (subst (λ (l : List ℕ). Writes (told c.args.out.now) (told c.write_pieces.new.out) (85 ∷ (l ++ payload)) c.write_pieces.result) c.to_be_bytes.ensures c.write_pieces.ensures.writes)
