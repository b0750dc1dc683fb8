use Rattle.std.proofs.Common.{◌≡◌, find, drop}
use Rattle.verb_core.specs.Filters.{is_met}
use Rattle.mail_rows.proofs.reach.first_met.Given as goal

-- none of the first filters is met
abbrev pub invariant-loop-filter : goal.invariant-loop-filter
invariant-loop-filter l = record {
  text : l.header ≡ l.text;
  first : find (is_met l.from l.to l.text) l.filters ≡ find (is_met l.from l.to l.text) (drop l.filter-index l.filters);
}
