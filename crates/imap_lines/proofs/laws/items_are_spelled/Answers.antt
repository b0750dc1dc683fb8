use Rattle.imap_lines.proofs.Items.{read_items, items}
use Rattle.imap_lines.proofs.laws.items_are_spelled.Goals as goal

pub returns-clause-spells : goal.returns-clause-spells
returns-clause-spells c tokens asks e = items tokens asks e

pub returns-clause-only : goal.returns-clause-only
returns-clause-only c tokens asks spells = read_items tokens asks spells
