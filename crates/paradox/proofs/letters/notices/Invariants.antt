use Rattle.std.proofs.Common.{◌≡◌, map, take}
use Rattle.paradox.specs.Letters.{notice_text}
use Rattle.paradox.proofs.letters.notices.Given as goal

abbrev pub invariant-loop-user : goal.invariant-loop-user
invariant-loop-user l = l.all ≡ map (λ user. (user, notice_text l.house user l.c l.at l.list)) (take l.user-index l.users)
