-- Where a report stands among others.
use Rattle.std.specs.Prelude.{ℕ, Bool, not, List}
use Rattle.std.specs.Ordering.{is_eq, is_lt}
use Rattle.paradox.specs.declared.reports.Report.{Report}
use Rattle.store_kept.specs.Kept.{key_cmp}

-- whether a row is that of another key
abbrev pub has_other_key : List ℕ → List ℕ × Report → Bool
has_other_key key r = not (is_eq (key_cmp r.0 key))

-- whether a row stands before that of a key
abbrev pub stands_before : List ℕ → List ℕ × Report → Bool
stands_before key r = is_lt (key_cmp r.0 key)
