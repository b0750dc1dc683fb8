use Rattle.std.proofs.Common.{◌≡◌, length}
use Rattle.search_verb.specs.Meets.{has_field as field_has}
use Rattle.search_verb.proofs.strings.finds_field.Given as goal

abbrev pub invariant-loop-rest : goal.invariant-loop-rest
invariant-loop-rest l = field_has l.name l.string l.text ≡ field_has l.name l.string l.rest

abbrev pub decreases-loop-rest : goal.decreases-loop-rest
decreases-loop-rest l = length l.rest
