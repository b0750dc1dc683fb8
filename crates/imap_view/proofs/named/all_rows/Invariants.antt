use Rattle.std.proofs.Common.{◌≡◌, take}
use Rattle.shelf.specs.Notes.{size_of}
use Rattle.imap_view.specs.Named.{rows_at}
use Rattle.imap_view.proofs.named.all_rows.Given as goal

abbrev pub invariant-loop-place : goal.invariant-loop-place
invariant-loop-place l = l.rows ≡ rows_at (size_of l.sizes.notes) l.entries l.view (take l.place-index l.places)
