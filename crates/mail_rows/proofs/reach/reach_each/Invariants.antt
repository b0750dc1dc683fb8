use Rattle.std.proofs.Common.{◌≡◌, ◌++◌, drop}
use Rattle.verb_core.specs.Aims.{into_or}
use Rattle.mail_rows.proofs.reach.reach_each.Given as goal

-- what is found, and what is to be found for the users that are left, are all of it
abbrev pub invariant-loop-user : goal.invariant-loop-user
invariant-loop-user l = record {
  aims : l.reach.aims ++ (into_or l.rows l.name l.other (drop l.user-index l.users)).aims ≡ (into_or l.rows l.name l.other l.users).aims;
  missed : l.reach.missed ++ (into_or l.rows l.name l.other (drop l.user-index l.users)).missed ≡ (into_or l.rows l.name l.other l.users).missed;
}
