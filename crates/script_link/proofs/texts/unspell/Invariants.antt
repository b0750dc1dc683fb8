use Rattle.std.proofs.Common.{◌≡◌, ◌++◌, length, option_map}
use Rattle.script_link.specs.Texts.{unspelled}
use Rattle.script_link.proofs.texts.unspell.Given as goal

-- what was read, and what is left
abbrev pub invariant-loop-rest : goal.invariant-loop-rest
invariant-loop-rest l = option_map (λ more. l.bytes ++ more) (unspelled l.rest) ≡ unspelled l.text

abbrev pub decreases-loop-rest : goal.decreases-loop-rest
decreases-loop-rest l = length l.rest
