use Rattle.std.proofs.Common.{◌≡◌, ◌++◌, drop}
use Rattle.paradox.specs.Letters.{users_told}
use Rattle.paradox.proofs.Telling.{told_from}
use Rattle.paradox.proofs.letters.users_told.Given as goal

-- those found, and those of the users that are left, are all of them
abbrev pub invariant-loop-place : goal.invariant-loop-place
invariant-loop-place l = l.users ++ told_from l.list l.place (drop l.place l.house.accounts) ≡ users_told l.house l.list
