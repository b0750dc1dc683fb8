use Rattle.std.proofs.lemmas.Grind.{common_steps}
use Rattle.std.proofs.Common.{arith, rules}
use Rattle.imap_text.specs.Words.{line, flag_list}
use Rattle.imap_text.specs.Answers.{fetch_line, status_line, list_lines, select_lines}
use Rattle.imap_text.proofs.write.push_flags.Goals as goal

pub returns : goal.returns
unfolding flag_list
returns c = grind (arith, common_steps)
