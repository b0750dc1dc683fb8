use Rattle.std.proofs.Common.{◌≡◌, take}
use Rattle.std.specs.Prelude.{map}
use Rattle.serde_json.specs.View.{view}
use Rattle.console_replies.specs.Reports.{broken_data}
use Rattle.console_replies.proofs.reports.broken_values.Given as goal

abbrev pub invariant-loop-broken : goal.invariant-loop-broken
invariant-loop-broken l = map view l.values.items ≡ map (broken_data l.house) (take l.broken-index l.list)
