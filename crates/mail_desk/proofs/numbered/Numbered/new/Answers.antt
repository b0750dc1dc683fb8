use Rattle.mail_desk.proofs.Indexes.{index_none}
use Rattle.mail_desk.proofs.numbered.Numbered.new.Goals as goal

pub invariant_of-result : goal.invariant_of-result
invariant_of-result c = index_none c.new-2.result.items c.new.result.items c.new-2.ensures.items c.new.ensures.items
