-- Exactly those that match are found.
use Rattle.search_laws.proofs.Finding.{finds_those}
use Rattle.search_laws.proofs.laws.searches_find_what_matches.Goals as goal

pub returns : goal.returns
returns c = finds_those
