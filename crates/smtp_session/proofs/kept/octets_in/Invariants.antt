use Rattle.std.proofs.Common.{◌≡◌, ◌≤◌, ◌*◌, take}
use Rattle.smtp_session.specs.Limits.{octets_in}
use Rattle.smtp_session.proofs.kept.octets_in.Given as goal

abbrev pub invariant-loop-name : goal.invariant-loop-name
invariant-loop-name l = record { value : l.total ≡ octets_in (take l.name-index l.names); most : l.total ≤ 200 * l.name-index }
