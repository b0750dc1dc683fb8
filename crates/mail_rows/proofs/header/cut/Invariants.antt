use Rattle.std.proofs.Common.{◌≡◌, ◌||◌, List, ℕ, length}
use Rattle.header_fields.specs.Fields.{fields_of}
use Rattle.mail_rows.specs.Headers.{some_beside, some_value, with_names}
use Rattle.mail_rows.proofs.header.cut.Given as goal

-- what is found in those that were cut, and in those that are left, is found in all of them
abbrev pub invariant-loop-rest : goal.invariant-loop-rest
invariant-loop-rest l = (own needle : List ℕ) → (some_beside own needle l.fields.values || some_value own needle (with_names (fields_of l.rest))) ≡ some_value own needle (with_names (fields_of l.text))

abbrev pub decreases-loop-rest : goal.decreases-loop-rest
decreases-loop-rest l = length l.rest
