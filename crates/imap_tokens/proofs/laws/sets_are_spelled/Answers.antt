use Rattle.imap_tokens.proofs.Ranges.{read_set, spelled_set}
use Rattle.imap_tokens.proofs.laws.sets_are_spelled.Goals as goal

pub returns-clause-spells : goal.returns-clause-spells
returns-clause-spells c bytes set e = spelled_set bytes set e

pub returns-clause-only : goal.returns-clause-only
returns-clause-only c bytes set spells = read_set set bytes spells
