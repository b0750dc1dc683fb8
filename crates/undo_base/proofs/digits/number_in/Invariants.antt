use Rattle.std.proofs.Common.{◌≡◌, ◌<◌, ◌^◌, take}
use Rattle.undo_base.specs.Digits.{number_of}
use Rattle.undo_base.proofs.digits.number_in.Given as goal

abbrev pub invariant-loop-digit : goal.invariant-loop-digit
invariant-loop-digit l = record {
  number : l.number ≡ number_of (take l.digit-index l.text);
  below : l.number < 10 ^ l.digit-index;
}
