use Rattle.std.proofs.Common.{◌==◌, ap, length, refl, sym, ◌∙◌}
use Rattle.undo_outside.specs.declared.failing.Failing.{Failing}
use Rattle.undo_outside.specs.MemDisk.{history}
use Rattle.undo_outside.proofs.Marks.{images_marked, only_marked, time_marked}
use Rattle.undo_outside.proofs.mem_disk.MemDiskDisk.sync.Goals as goal

pub returns-clause-call : goal.returns-clause-call
returns-clause-call c =
    let start = c.args.self.now.start in
    let old = history c.args.self.now.writes.items in
    let new = history c.mark.new.writes.items in
    record {
      size = refl;
      honest = λ h. h;
      content = λ _. refl;
      durable = λ _ f now. only_marked start old new c.mark.ensures f now ∙ sym c.args.self.now.kept;
      images = λ _. images_marked start old new c.mark.ensures;
      time = λ _. time_marked start old new c.mark.ensures;
      cause = record { ok = refl; ok_last = refl; failed = tt; reads = refl; reliable = ap (λ (f : Failing). length f.ordinals == 0) c.counts_a_failure.ensures.counted };
      wants = record { count = refl; last = refl };
    }
