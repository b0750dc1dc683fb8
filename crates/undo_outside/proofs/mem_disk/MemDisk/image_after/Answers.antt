use Rattle.std.proofs.Common.{rules, subst, sym}
use Rattle.std.proofs.lemmas.Result.{IfOk-weaker}
use Rattle.undo_outside.specs.History.{image_since}
use Rattle.undo_outside.specs.MemDisk.{history}
use Rattle.undo_outside.proofs.Marks.{image_was}
use Rattle.undo_outside.proofs.mem_disk.MemDisk.image_after.Goals as goal

pub returns-clause-replay : goal.returns-clause-replay
returns-clause-replay c = search rules

pub returns-clause-crash : goal.returns-clause-crash
returns-clause-crash c =
    IfOk-weaker c.of.result _ _ (λ image is. subst (image_since c.args.self.now.start (history c.args.self.now.writes.items) 0) (sym is) (image_was c.args.self.now.start c.args.self.now.writes.items c.args.count)) (returns-clause-replay c)
