use Rattle.std.proofs.Common.{◌≡◌, ◌++◌, drop}
use Rattle.imap_session.specs.Searching.{found_from}
use Rattle.imap_session.proofs.search.matching.Given as goal

abbrev pub invariant-loop-place : goal.invariant-loop-place
invariant-loop-place l = l.found ++ found_from l.searching l.texts l.place (drop l.place l.rows) ≡ found_from l.searching l.texts 0 l.rows
