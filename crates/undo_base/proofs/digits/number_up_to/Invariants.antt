use Rattle.std.proofs.Common.{◌≡◌, ◌≤◌, min, take}
use Rattle.undo_base.specs.Digits.{number_of}
use Rattle.undo_base.proofs.digits.number_up_to.Given as goal

abbrev pub invariant-loop-digit : goal.invariant-loop-digit
invariant-loop-digit l = record {
  number : l.number ≡ min (number_of (take l.digit-index l.digits)) l.most;
  small : l.number ≤ l.most;
}
