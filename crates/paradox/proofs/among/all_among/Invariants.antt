use Rattle.std.proofs.Common.{◌≡◌, ◌≤◌, length, drop}
use Rattle.std.specs.List.{list_all, list_any}
use Rattle.paradox.proofs.among.all_among.Given as goal

-- whether all are there is whether those that are left are
abbrev pub invariant-loop-wanted : goal.invariant-loop-wanted
invariant-loop-wanted g l = record {
  rest : list_all (λ x. list_any (g.S.Sameness.same x) l.others) (drop l.wanted-index l.some) ≡ list_all (λ x. list_any (g.S.Sameness.same x) l.others) l.some;
  from : l.from ≤ length l.others;
}
