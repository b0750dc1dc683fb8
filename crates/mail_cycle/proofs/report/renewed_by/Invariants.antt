use Rattle.std.proofs.Common.{◌≡◌, take}
use Rattle.cycle_rules.specs.Cycles.{renewed_by}
use Rattle.mail_cycle.proofs.report.renewed_by.Given as goal

abbrev pub invariant-loop-row : goal.invariant-loop-row
invariant-loop-row l = l.renewed ≡ renewed_by l.c (take l.row-index l.stamps)
