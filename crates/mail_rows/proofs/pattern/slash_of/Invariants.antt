use Rattle.std.proofs.Common.{◌≡◌, ℕ, ◌<◌, false, get_or}
use Rattle.verb_core.specs.Names.{is_slash}
use Rattle.mail_rows.proofs.pattern.slash_of.Given as goal

abbrev pub invariant-loop-place : goal.invariant-loop-place
invariant-loop-place l = (k : ℕ) → k < l.place → is_slash (get_or l.name k 0) ≡ false
