use Rattle.std.proofs.Common.{ℕ, ◌+◌, ◌-◌, ◌/◌, arith}
use Rattle.imap_stream.proofs.Covering.{rises_to}
use Rattle.imap_stream.proofs.picks.below.Goals as goal

pub loop-low-preserved-then-from-number : goal.loop-low-preserved-then-from-number
loop-low-preserved-then-from-number c =
    let uids = c.args.uids.now in
    let middle : ℕ = c.loop-low.low + (c.loop-low.high - c.loop-low.low) / 2 in
    record {
      order = omega arith;
      within = c.loop-low.invariant.within;
      front = λ inc k lt. let le = rises_to uids inc k middle (omega arith) (omega arith) in omega arith;
      back = c.loop-low.invariant.back;
    }

pub loop-low-preserved : goal.loop-low-preserved
loop-low-preserved c =
    let uids = c.args.uids.now in
    let middle : ℕ = c.loop-low.low + (c.loop-low.high - c.loop-low.low) / 2 in
    record {
      order = omega arith;
      within = omega arith;
      front = c.loop-low.invariant.front;
      back = λ inc k le within. let up = rises_to uids inc middle k le within in omega arith;
    }
