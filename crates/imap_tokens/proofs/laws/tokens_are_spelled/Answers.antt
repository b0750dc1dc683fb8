use Rattle.std.proofs.Common.{[], ap, ◌∙◌}
use Rattle.imap_tokens.specs.Tokens.{tokens_in}
use Rattle.imap_tokens.proofs.Spelling.{read_spelled}
use Rattle.imap_tokens.proofs.Spelt.{spelt}
use Rattle.imap_tokens.proofs.laws.tokens_are_spelled.Goals as goal

pub returns-clause-spells : goal.returns-clause-spells
returns-clause-spells c line tokens e = spelt line tokens e

pub returns-clause-only : goal.returns-clause-only
returns-clause-only c line tokens spells = ap (tokens_in []) spells.whole ∙ read_spelled [] tokens spells.each
