use Rattle.std.proofs.Common.{◌≡◌, take}
use Rattle.std.specs.Prelude.{map}
use Rattle.serde_json.specs.View.{view}
use Rattle.console_replies.specs.Reports.{renewal_data}
use Rattle.console_replies.proofs.reports.renewal_values.Given as goal

abbrev pub invariant-loop-renewal : goal.invariant-loop-renewal
invariant-loop-renewal l = map view l.values.items ≡ map (renewal_data l.house) (take l.renewal-index l.renewals)
