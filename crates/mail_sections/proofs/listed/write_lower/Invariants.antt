use Rattle.std.proofs.Common.{◌≡◌, length, take}
use Rattle.std.specs.Str.{str_to_ascii_lowercase}
use Rattle.mail_sections.proofs.listed.write_lower.Given as goal

abbrev pub invariant-loop-place : goal.invariant-loop-place
invariant-loop-place l = record {
  same : length l.out ≡ length l.fn.out;
  written : take l.place l.out ≡ str_to_ascii_lowercase (take l.place l.bytes);
}
