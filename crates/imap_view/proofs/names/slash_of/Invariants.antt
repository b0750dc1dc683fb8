use Rattle.std.proofs.Common.{◌≡◌, ℕ, ◌<◌, false, get_or}
use Rattle.verb_core.specs.Names.{is_slash}
use Rattle.imap_view.proofs.names.slash_of.Given as goal

abbrev pub invariant-loop-place : goal.invariant-loop-place
invariant-loop-place l = (k : ℕ) → k < l.place → is_slash (get_or l.bytes k 0) ≡ false
