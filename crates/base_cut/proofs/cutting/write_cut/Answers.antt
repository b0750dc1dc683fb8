use Rattle.std.proofs.Common.{List, ℕ, subst}
use Rattle.base_cut.specs.Cutting.{WritesWhole}
use Rattle.base_cut.proofs.Told.{cut_exact}
use Rattle.base_cut.proofs.cutting.write_cut.Goals as goal

pub returns-clause-exact : goal.returns-clause-exact
returns-clause-exact g c honest =
    let out = g.W.Sink.told in
    let (payloads, are, wrote) = c.write_whole.ensures.written in
    subst (λ (l : List (List ℕ)). WritesWhole l (out c.args.out.now) (out c.write_whole.new.out) c.write_whole.result)
    (cut_exact (g.B.Bodies.told c.args.bodies.now) c.args.parts.now payloads are honest) wrote
