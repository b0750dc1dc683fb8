use Rattle.std.proofs.Common.{sym, ◌∙◌}
use Rattle.verb_bytes.proofs.Refusals.{one_record, one_place, spelled_or_refused}
use Rattle.verb_bytes.proofs.laws.one_spelling.Goals as goal

pub returns-clause-one_record : goal.returns-clause-one_record
returns-clause-one_record c = λ x y bytes s t. one_record x y bytes s t

pub returns-clause-one_spelling : goal.returns-clause-one_spelling
returns-clause-one_spelling c = λ x a b s t. s.1 ∙ sym t.1

pub returns-clause-one_place : goal.returns-clause-one_place
returns-clause-one_place c = λ bytes first second a b. one_place bytes first second a b

pub returns-clause-spelled_or_refused : goal.returns-clause-spelled_or_refused
returns-clause-spelled_or_refused c = λ bytes fits. spelled_or_refused bytes fits
