use Rattle.search_verb.proofs.Parts.{occurs_as_part, part_occurs}
use Rattle.search_verb.proofs.laws.strings_occur_as_parts.Goals as goal

pub returns : goal.returns
returns c = λ string bytes. (occurs_as_part string bytes, part_occurs string bytes)
