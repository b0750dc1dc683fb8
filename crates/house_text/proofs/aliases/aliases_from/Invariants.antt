use Rattle.house_text.proofs.Each.{AliasesSoFar}
use Rattle.house_text.proofs.aliases.aliases_from.Given as goal

abbrev pub invariant-loop-local : goal.invariant-loop-local
invariant-loop-local l = AliasesSoFar l.accounts l.aliases l.local-iterator l.table.entries
