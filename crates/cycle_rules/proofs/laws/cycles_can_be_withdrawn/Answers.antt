use Rattle.cycle_rules.proofs.Coming.{can_come_back, texts_come_back}
use Rattle.cycle_rules.proofs.laws.cycles_can_be_withdrawn.Goals as goal

pub returns : goal.returns
returns c = record {
  items = λ s at ask place heard now told within timeline below all again. can_come_back s at ask place timeline below heard now told within all again;
  texts = λ s at ask place now told timeline below revs. texts_come_back s at ask place timeline below now told revs;
}
