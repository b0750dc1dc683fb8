use Rattle.std.proofs.Common.{◌≡◌, ◌++◌}
use Rattle.std.specs.List.Sorted.{IsStrictlySortedBy}
use Rattle.verb_core.specs.KeyOrder.{key_cmp}
use Rattle.mail_rows.specs.Changes.{changes_from}
use Rattle.mail_rows.proofs.flags.changes_found.Given as goal

-- those found, and those of the keys that are left, are all of them
abbrev pub invariant-loop-key : goal.invariant-loop-key
invariant-loop-key l = record {
  changes : l.changes ++ changes_from 0 l.key-iterator l.fn.how l.fn.given l.entries ≡ changes_from 0 l.fn.keys l.fn.how l.fn.given l.entries;
  sorted : IsStrictlySortedBy key_cmp l.key-iterator;
}
