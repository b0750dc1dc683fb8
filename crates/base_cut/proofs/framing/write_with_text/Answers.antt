use Rattle.std.proofs.Common.{◌∙◌, ◌+◌, ◌∷◌, [], List, ℕ, arith, inr, length, refl, subst}
use Rattle.base_cut.specs.declared.fault.CutFault.TheVariants.{NoMemory}
use Rattle.base_cut.specs.Cutting.{Writes, WritesSealed}
use Rattle.verb_bytes.specs.Holes.{parted}
use Rattle.base_cut.proofs.Frames.{parted_bytes, parted_fits}
use Rattle.base_cut.proofs.Writings.{at_exit, sealed_none, sealed_one}
use Rattle.base_cut.proofs.framing.write_with_text.Goals as goal

pub returns-in_err-opened-clause-writes : goal.returns-in_err-opened-clause-writes
returns-in_err-opened-clause-writes g c =
    let here = g.W.Sink.told c.args.out.now in
    let payload = parted c.args.front.now c.args.text.now c.args.back.now in
    at_exit (WritesSealed (payload ∷ []) here here) c.from_residual.result NoMemory c.from_residual.ensures.1 (sealed_none payload here NoMemory (inr refl))

pub returns-clause-writes : goal.returns-clause-writes
returns-clause-writes g c =
    let told = g.W.Sink.told in
    let front = c.args.front.now in
    let text = c.args.text.now in
    let back = c.args.back.now in
    let count = length front + 4 + length text + length back in
    sealed_one (parted front text back) (told c.args.out.now) (told c.write_pieces.new.out) c.write_pieces.result
    (parted_fits front text back (omega (arith, c.if-count-from.false, c.from.ensures)))
    (subst (λ (l : List ℕ). Writes (told c.args.out.now) (told c.write_pieces.new.out) l c.write_pieces.result)
    (parted_bytes front text back c.deref.result.now count refl (c.deref.ensures.value ∙ c.in_ok-opened.ensures)) c.write_pieces.ensures.writes)

pub returns-then-count-from-clause-writes : goal.returns-then-count-from-clause-writes
returns-then-count-from-clause-writes g c = sealed_none (parted c.args.front.now c.args.text.now c.args.back.now) (g.W.Sink.told c.args.out.now) NoMemory (inr refl)
