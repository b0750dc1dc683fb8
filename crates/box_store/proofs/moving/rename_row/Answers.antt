use Rattle.box_store.proofs.RowMoves.{renamed_at}
use Rattle.box_store.proofs.moving.rename_row.Goals as goal

pub returns : goal.returns
returns c = λ front back r is first. renamed_at c.args.name c.args.rows.now front back r c.index-rows-place.result c.args.place is first
