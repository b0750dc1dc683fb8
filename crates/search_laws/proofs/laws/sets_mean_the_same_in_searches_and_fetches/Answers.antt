-- Ranges of a set, and the greatest number.
use Rattle.search_laws.proofs.Agreeing.{same_set, same_last}
use Rattle.search_laws.proofs.laws.sets_mean_the_same_in_searches_and_fetches.Goals as goal

pub returns-clause-places : goal.returns-clause-places
returns-clause-places c = λ set what. same_set what.last_place what.place set

pub returns-clause-uids : goal.returns-clause-uids
returns-clause-uids c = λ set what. same_set what.last_uid what.uid set

pub returns-clause-last : goal.returns-clause-last
returns-clause-last c = same_last
