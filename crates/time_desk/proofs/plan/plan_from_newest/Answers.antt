use Rattle.std.proofs.Common.{◌∙◌, Err, ap}
use Rattle.seal_log.specs.declared.fault.ReadFault.{ReadFault}
use Rattle.time_desk.proofs.Delivering.{begun_well, reads_delivery, reads_marked}
use Rattle.time_desk.proofs.plan.plan_from_newest.Goals as goal

-- the newest snapshot's store is what the items before it led to
pub returns-in-Ok-clause-text : goal.returns-in-Ok-clause-text
returns-in-Ok-clause-text g c = λ holds.
    let begun = begun_well c.args.desk.now c.args.place (g.D.Disk.told c.args.past.now.disk) (g.D.Disk.told c.beginning.new.past.disk) c.in-Ok.first c.in-Ok.ensures.still.reads c.in-Ok.ensures.newest c.in-Ok.ensures.first holds in
    c.plan_reading.ensures.text begun.0 begun.1

pub returns-in-Ok-clause-due : goal.returns-in-Ok-clause-due
returns-in-Ok-clause-due g c = λ failed. reads_delivery c.args.desk.now.kept c.args.place (c.plan_reading.ensures.due failed)

pub returns-in-Err-Disk-clause-due : goal.returns-in-Err-Disk-clause-due
returns-in-Err-Disk-clause-due g c = λ failed. reads_marked c.args.desk.now.kept c.args.place (c.beginning.ensures.due (c.in-Err-Disk.is ∙ ap (λ (f : ReadFault). Err f) c.in-Err-Disk.field-0-is))
