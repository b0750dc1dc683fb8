use Rattle.imap_tokens.proofs.SpelledLines.{lines_sound, lines_complete}
use Rattle.imap_tokens.proofs.laws.arguments_are_spelled.Goals as goal

pub returns-clause-spells : goal.returns-clause-spells
returns-clause-spells c line lines literals tokens e = lines_sound line lines literals tokens e

pub returns-clause-only : goal.returns-clause-only
returns-clause-only c line lines literals tokens spells = lines_complete line lines literals tokens spells
