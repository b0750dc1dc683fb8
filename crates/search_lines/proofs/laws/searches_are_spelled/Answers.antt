use Rattle.search_lines.proofs.Arguments.{SetLaws}
use Rattle.search_lines.proofs.Searches.{sound, complete}
use Rattle.search_lines.proofs.laws.searches_are_spelled.Goals as goal

pub returns : goal.returns
returns c = λ tokens sought.
    let laws : SetLaws = record { sound = c.sets_are_spelled.ensures.spells; complete = c.sets_are_spelled.ensures.only } in
    (λ e. sound laws tokens sought e, λ s. complete laws tokens sought s)
