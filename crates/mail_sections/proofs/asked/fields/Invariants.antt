use Rattle.std.proofs.Common.{◌≡◌, ◌++◌, length}
use Rattle.mail_sections.specs.Sections.{is_wanted, fields_where, part_of}
use Rattle.mail_sections.proofs.asked.fields.Given as goal

-- what is told, and what is asked of the rest, is all that is asked
abbrev pub invariant-loop-count : goal.invariant-loop-count
invariant-loop-count l = part_of l.fn.asked (fields_where (is_wanted l.among l.fn.names) l.text) ≡ l.told ++ part_of l.left (fields_where (is_wanted l.among l.fn.names) l.rest)

abbrev pub decreases-loop-count : goal.decreases-loop-count
decreases-loop-count l = length l.rest
