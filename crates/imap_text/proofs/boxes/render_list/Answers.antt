use Rattle.std.proofs.lemmas.Grind.{common_steps}
use Rattle.std.proofs.Common.{arith, rules}
use Rattle.imap_text.specs.Answers.{list_lines}
use Rattle.imap_text.proofs.boxes.render_list.Goals as goal

pub returns : goal.returns
unfolding list_lines
returns c = grind (arith, common_steps)
