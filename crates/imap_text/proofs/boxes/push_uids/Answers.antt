use Rattle.std.proofs.lemmas.Result.{on_ok_weaker}
use Rattle.imap_text.proofs.WordLemmas.{joined}
use Rattle.imap_text.proofs.boxes.push_uids.Goals as goal

pub returns : goal.returns
returns c = on_ok_weaker c.push_number_line-2.result (joined _ _ _ _ _ c.in_ok-push_number_line.ensures) c.push_number_line-2.ensures
