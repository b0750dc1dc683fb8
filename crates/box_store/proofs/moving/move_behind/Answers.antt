use Rattle.box_store.proofs.RowMoves.{renamed_behind}
use Rattle.box_store.proofs.moving.move_behind.Goals as goal

pub returns : goal.returns
returns c = λ front between back r is first wide.
    renamed_behind c.args.name c.args.rows.now c.rename_row.new.rows c.swap_blocks.new.items front between back r c.args.from c.args.to c.rename_row.ensures c.swap_blocks.ensures is first wide
