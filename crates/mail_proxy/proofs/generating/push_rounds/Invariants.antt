use Rattle.std.proofs.Common.{◌≡◌, ◌++◌}
use Rattle.std.specs.List.{flat_map}
use Rattle.mail_proxy.specs.Generated.{round_of, up_to}
use Rattle.mail_proxy.proofs.generating.push_rounds.Given as goal

abbrev pub invariant-loop-before : goal.invariant-loop-before
invariant-loop-before l = l.events ≡ l.initial.events ++ flat_map round_of (up_to l.before)
