use Rattle.box_store.proofs.RowMoves.{swapped}
use Rattle.box_store.proofs.moving.swap_blocks.Goals as goal

pub returns : goal.returns
returns g c = λ front one other back is first second third. swapped c.args.items.now front one other back c.rotate_left.new.self c.args.from c.args.middle c.args.to c.rotate_left.ensures.after is first second third
