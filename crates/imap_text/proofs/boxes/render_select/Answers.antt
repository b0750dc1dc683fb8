use Rattle.std.proofs.lemmas.Grind.{common_steps}
use Rattle.std.proofs.Common.{arith, rules}
use Rattle.imap_text.specs.Answers.{select_lines}
use Rattle.imap_text.proofs.boxes.render_select.Goals as goal

pub returns : goal.returns
unfolding select_lines
returns c = grind (arith, common_steps)
