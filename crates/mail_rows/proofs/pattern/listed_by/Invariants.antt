use Rattle.std.proofs.Common.{◌≡◌, filter, map, take}
use Rattle.verb_core.specs.Patterns.{is_listed}
use Rattle.mail_rows.proofs.pattern.listed_by.Given as goal

abbrev pub invariant-loop-row : goal.invariant-loop-row
invariant-loop-row l = l.names ≡ filter (is_listed l.fn.pattern) (map (λ r. r.0.name) (take l.row-index l.rows))
