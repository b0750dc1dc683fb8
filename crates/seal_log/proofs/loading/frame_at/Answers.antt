use Rattle.std.proofs.Common.{◌≡◌, ◌∷◌, ◌+◌, [], ◌∙◌, List, ℕ, ap, subst, arith}
use Rattle.std.specs.List.{slice_range}
use Rattle.std.specs.Int.{w32, to_be_bytes}
use Rattle.seal_log.proofs.Looks.{cut, whole}
use Rattle.seal_log.proofs.loading.frame_at.Given.{Over}
use Rattle.seal_log.proofs.loading.frame_at.Goals.{In_ok-length}
use Rattle.seal_log.proofs.loading.frame_at.Goals as goal

gate_is : (g : Over) (c : In_ok-length g) → (g.D.Disk.told c.args.disk.now).honest → slice_range (g.D.Disk.told c.args.disk.now).content c.args.gate (c.args.gate + 1) ≡ 85 ∷ []
gate_is g c honest = c.in_ok-byte_at.ensures.byte honest ∙ ap (λ (n : ℕ). n ∷ []) c.if-branch-ne-OPEN.false

number_is : (g : Over) (c : In_ok-length g) → (g.D.Disk.told c.args.disk.now).honest → slice_range (g.D.Disk.told c.args.disk.now).content (c.args.gate + 1) (c.args.gate + 1 + 4) ≡ to_be_bytes w32 c.in_ok-length.length
number_is g c honest =
    subst (λ (l : List ℕ). slice_range l (c.args.gate + 1) (c.args.gate + 1 + 4) ≡ to_be_bytes w32 c.in_ok-length.length) (c.byte_at.ensures.only_reads.content honest)
    (c.in_ok-length.ensures.number (c.byte_at.ensures.only_reads.honest honest))

pub returns-then-end-gate-clause-found : goal.returns-then-end-gate-clause-found
returns-then-end-gate-clause-found g c honest =
    let found = (goal.at.returns-then-end-gate-clause-found g c).In_ok-length in
    let size = (g.met.D.Disk.tells_truth c.args.disk.now honest).size_of_content in
    cut (g.D.Disk.told c.args.disk.now).content c.args.gate c.in_ok-length.length (gate_is g found honest) (number_is g found honest) c.in_ok-length.ensures.fits (omega arith)

pub returns-clause-found : goal.returns-clause-found
returns-clause-found g c honest =
    let found = (goal.at.returns-clause-found g c).In_ok-length in
    let size = (g.met.D.Disk.tells_truth c.args.disk.now honest).size_of_content in
    whole (g.D.Disk.told c.args.disk.now).content c.args.gate c.in_ok-length.length (gate_is g found honest) (number_is g found honest) c.in_ok-length.ensures.fits (omega arith)
