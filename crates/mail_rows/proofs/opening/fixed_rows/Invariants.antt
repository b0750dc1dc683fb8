use Rattle.std.proofs.Common.{◌≡◌, ◌++◌, flat_map, drop}
use Rattle.verb_core.specs.Store.{users_of}
use Rattle.mail_rows.specs.Fixed.{fixed_of, fixed_from}
use Rattle.mail_rows.proofs.opening.fixed_rows.Given as goal

-- what is made, and what is made of the users that are left, are all of it
abbrev pub invariant-loop-place : goal.invariant-loop-place
invariant-loop-place l = l.rows.items ++ fixed_from l.place (drop l.place l.house.accounts) ≡ flat_map fixed_of (users_of l.house)
