use Rattle.std.proofs.lemmas.Grind.{common_steps}
use Rattle.std.proofs.Common.{arith, rules}
use Rattle.imap_text.specs.Words.{date_text}
use Rattle.imap_text.proofs.fetch.push_date.Goals as goal

pub returns : goal.returns
unfolding date_text
returns c = grind (arith, common_steps)
