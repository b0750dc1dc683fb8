use Rattle.std.proofs.Common.{◌-◌, [], refl, arith}
use Rattle.undo_outside.proofs.Marks.{marked_last}
use Rattle.undo_outside.proofs.mem_disk.mark.Goals as goal

pub returns-then-count-gt0 : goal.returns-then-count-gt0
returns-then-count-gt0 c =
    marked_last [] c.args.writes.now.items (c.len-count.result - 1) c.index_mut.result.now _ (omega (arith, c.len-count.ensures, c.args.writes.now.ok)) c.index_mut.ensures.value refl
