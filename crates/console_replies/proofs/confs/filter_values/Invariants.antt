use Rattle.std.proofs.Common.{◌≡◌, take}
use Rattle.std.specs.Prelude.{map}
use Rattle.serde_json.specs.View.{view}
use Rattle.console_replies.specs.Confs.{filter_data}
use Rattle.console_replies.proofs.confs.filter_values.Given as goal

abbrev pub invariant-loop-filter : goal.invariant-loop-filter
invariant-loop-filter l = map view l.values.items ≡ map filter_data (take l.filter-index l.filters)
