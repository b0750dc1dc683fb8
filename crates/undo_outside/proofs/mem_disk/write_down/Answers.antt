use Rattle.std.proofs.Common.{◌∷◌, [], false, ◌∙◌, ap}
use Rattle.undo_outside.specs.History.{Wrote}
use Rattle.undo_outside.specs.MemDisk.{history}
use Rattle.undo_outside.proofs.Marks.{onto-push}
use Rattle.undo_outside.proofs.mem_disk.write_down.Goals as goal

pub returns-clause-ok : goal.returns-clause-ok
returns-clause-ok c =
    ap history c.in_ok-push.ensures.items
    ∙ onto-push [] c.args.writes.now.items (record { place = c.args.place; bytes = c.in_ok-bytes.bytes; done = c.args.done; synced = false })
    ∙ ap (λ bytes. Wrote c.args.place bytes c.args.done ∷ history c.args.writes.now.items) c.in_ok-bytes.ensures.items
