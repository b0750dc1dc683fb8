use Rattle.std.proofs.Common.{◌≡◌, take}
use Rattle.std.specs.List.{list_all}
use Rattle.verb_core.specs.Store.{has_fixed, users_of}
use Rattle.box_store.proofs.rows.have_fixed.Given as goal

abbrev pub invariant-loop-place : goal.invariant-loop-place
invariant-loop-place l = l.all ≡ list_all (has_fixed l.rows) (take l.place (users_of l.house))
