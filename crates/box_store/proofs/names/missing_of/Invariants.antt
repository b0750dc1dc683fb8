use Rattle.std.proofs.Common.{◌≡◌, take}
use Rattle.box_store.specs.Plans.{missing_of}
use Rattle.box_store.proofs.names.missing_of.Given as goal

abbrev pub invariant-loop-name : goal.invariant-loop-name
invariant-loop-name l = l.missing ≡ missing_of l.user (take l.name-index l.names) l.rows
