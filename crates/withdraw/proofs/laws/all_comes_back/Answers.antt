use Rattle.withdraw.proofs.Shown.{all_back, gone_shown, there_shown, those_behind}
use Rattle.withdraw.proofs.laws.all_comes_back.Goals as goal

pub returns : goal.returns
returns c = record { items = all_back; behind = those_behind; gone = gone_shown; there = there_shown }
