use Rattle.std.proofs.Common.{map}
use Rattle.toml.specs.View.{view}
use Rattle.house_text.proofs.Listed.{ListedSoFar}
use Rattle.house_text.proofs.aliases.listed_users.Given as goal

abbrev pub invariant-loop-place : goal.invariant-loop-place
invariant-loop-place l = ListedSoFar (map view l.values) l.users l.place l.accounts
