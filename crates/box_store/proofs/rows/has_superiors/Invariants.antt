use Rattle.std.proofs.Common.{◌≡◌, ◌≤◌, take}
use Rattle.std.specs.List.{list_all}
use Rattle.verb_core.specs.Boxes.{box_of, has_row}
use Rattle.verb_core.specs.Names.{superiors}
use Rattle.box_store.proofs.rows.has_superiors.Given as goal

-- whether those have rows that end before the place
abbrev pub invariant-loop-place : goal.invariant-loop-place
invariant-loop-place l = record {
  behind : 1 ≤ l.place;
  all : l.all ≡ list_all (λ superior. has_row (box_of l.user superior) l.rows) (superiors (take l.place l.name));
}
