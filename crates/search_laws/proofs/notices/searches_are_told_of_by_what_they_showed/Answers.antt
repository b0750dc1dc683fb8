-- What a SEARCH showed, and the reason to tell of it.
use Rattle.search_laws.proofs.Telling.{kept_so, told_so}
use Rattle.search_laws.proofs.notices.searches_are_told_of_by_what_they_showed.Goals as goal

pub returns-clause-kept : goal.returns-clause-kept
returns-clause-kept c = kept_so

pub returns-clause-told : goal.returns-clause-told
returns-clause-told c = told_so
