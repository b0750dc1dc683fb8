use Rattle.std.proofs.Common.{◌∙◌, ◌∷◌, [], List, ℕ, inr, refl, subst}
use Rattle.base_cut.specs.declared.fault.CutFault.TheVariants.{NoMemory}
use Rattle.base_cut.specs.Cutting.{Writes, WritesSealed}
use Rattle.base_cut.proofs.Frames.{payload_bytes}
use Rattle.base_cut.proofs.Writings.{at_exit, sealed_none, sealed_one}
use Rattle.base_cut.proofs.framing.write_payload.Goals as goal

pub returns-in_err-opened-clause-writes : goal.returns-in_err-opened-clause-writes
returns-in_err-opened-clause-writes g c =
    let here = g.W.Sink.told c.args.out.now in
    at_exit (WritesSealed (c.args.payload.now ∷ []) here here) c.from_residual.result NoMemory c.from_residual.ensures.1 (sealed_none c.args.payload.now here NoMemory (inr refl))

pub returns-clause-writes : goal.returns-clause-writes
returns-clause-writes g c =
    let told = g.W.Sink.told in
    let payload = c.args.payload.now in
    sealed_one payload (told c.args.out.now) (told c.write_pieces.new.out) c.write_pieces.result c.requires
    (subst (λ (l : List ℕ). Writes (told c.args.out.now) (told c.write_pieces.new.out) l c.write_pieces.result) (payload_bytes payload c.deref.result.now (c.deref.ensures.value ∙ c.in_ok-opened.ensures)) c.write_pieces.ensures.writes)
