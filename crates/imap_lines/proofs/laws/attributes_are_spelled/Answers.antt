use Rattle.imap_lines.proofs.Attributes.{read_attributes}
use Rattle.imap_lines.proofs.Asked.{asked}
use Rattle.imap_lines.proofs.laws.attributes_are_spelled.Goals as goal

pub returns-clause-spells : goal.returns-clause-spells
returns-clause-spells c tokens asks e = asked tokens asks e

pub returns-clause-only : goal.returns-clause-only
returns-clause-only c tokens asks spaced = read_attributes tokens asks spaced
