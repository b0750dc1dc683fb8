use Rattle.imap_lines.proofs.DateLetters.{read_date, spelled_date}
use Rattle.imap_lines.proofs.laws.dates_are_spelled.Goals as goal

pub returns-clause-spells : goal.returns-clause-spells
returns-clause-spells c bytes moment e = spelled_date bytes moment e

pub returns-clause-only : goal.returns-clause-only
returns-clause-only c bytes moment s = read_date bytes moment s
