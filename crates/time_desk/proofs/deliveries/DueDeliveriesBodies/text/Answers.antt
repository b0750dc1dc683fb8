use Rattle.time_desk.proofs.Delivering.{text_given, text_led}
use Rattle.time_desk.proofs.deliveries.DueDeliveriesBodies.text.Goals as goal

-- what was asked is a delivery's text
pub returns-clause-gives : goal.returns-clause-gives
returns-clause-gives g c = text_given g.D.Disk.told c.args.self.now.reading c.text.new.self c.args.self.now.due.now.repair.items c.args.body c.text.result c.requires c.text.ensures.leads c.text.ensures.asked c.text.ensures.gives

pub returns-clause-leads : goal.returns-clause-leads
returns-clause-leads g c = text_led g.D.Disk.told c.args.self.now.reading c.text.new.self c.args.self.now.due.now.repair.items c.args.body c.text.result c.requires c.text.ensures.leads c.text.ensures.asked
