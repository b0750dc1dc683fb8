use Rattle.std.proofs.Common.{◌+◌, ◌<◌, ◌∙◌, ℕ, List, drop, sym, subst, arith}
use Rattle.std.proofs.lemmas.Grind.{common_steps}
use Rattle.undo_outside.proofs.Moments.{reads_joined}
use Rattle.seal_log.specs.Loading.{BeginsWhole, FindsFrame, IsFollowed}
use Rattle.seal_log.proofs.Looks.{HasRead, read_more}
use Rattle.seal_log.proofs.loading.scan.Given.{Over}
use Rattle.seal_log.proofs.loading.scan.Goals.{After-from}
use Rattle.seal_log.proofs.loading.scan.Goals as goal

-- the gate behind the frame is within the disk
next_within : (g : Over) (c : After-from g) → c.frames.gate + 5 + c.in-Frame.length < c.args.end
next_within g c = subst (IsFollowed c.frames.gate c.args.end) c.in-Frame.is c.in_ok-length.ensures.next

-- the frame is one payload more
more_read : (g : Over) (c : After-from g) → (g.D.Disk.told c.args.disk.now).honest → HasRead (g.D.Disk.told c.args.disk.now).content (c.frames.gate + (5 + c.in-Frame.length)) c.push.new.self
more_read g c honest =
    let here = c.frames.invariant.reads.honest honest in
    let content = (g.D.Disk.told c.args.disk.now).content in
    let looked = subst (FindsFrame (drop c.frames.gate (g.D.Disk.told c.frames.disk).content)) c.in-Frame.is (c.in_ok-length.ensures.found here) in
    let whole = subst (λ (l : List ℕ). BeginsWhole (drop c.frames.gate l) c.in-Frame.length) (c.frames.invariant.reads.content honest) looked in
    subst (HasRead content (c.frames.gate + (5 + c.in-Frame.length))) (sym c.in_ok-push-in-Frame.ensures.ok)
    (read_more content c.frames.gate c.in-Frame.length c.frames.places (c.frames.invariant.read honest) whole)

pub frames-preserved : goal.frames-preserved
frames-preserved g c =
    let next = next_within g c in
    record {
      within = omega arith;
      places = λ k d below. grind (arith, common_steps);
      reads = reads_joined (g.D.Disk.told c.args.disk.now) (g.D.Disk.told c.frames.disk) (g.D.Disk.told c.frame_at.new.disk) c.frames.invariant.reads c.frame_at.ensures.only_reads;
      none_failed = c.in_ok-length.ensures.cause.ok ∙ c.frames.invariant.none_failed;
      read = λ honest. subst (λ (n : ℕ). HasRead (g.D.Disk.told c.args.disk.now).content (c.frames.gate + (5 + n)) c.push.new.self) (sym c.from.ensures) (more_read g c honest);
    }
