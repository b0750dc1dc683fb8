use Rattle.std.proofs.Common.{◌≡◌, map, take}
use Rattle.house_text.proofs.accounts.names_of.Given as goal

abbrev pub invariant-loop-account : goal.invariant-loop-account
invariant-loop-account l = l.names ≡ map (λ a. a.name) (take l.account-index l.accounts)
