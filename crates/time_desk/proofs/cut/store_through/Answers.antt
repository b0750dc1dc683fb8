use Rattle.std.proofs.Common.{◌∙◌, Err, ap}
use Rattle.seal_log.specs.declared.fault.ReadFault.{ReadFault}
use Rattle.time_desk.proofs.Delivering.{begun_for, store_marked, store_unmarked}
use Rattle.time_desk.proofs.cut.store_through.Goals as goal

-- the newest snapshot's store is what the items before it led to
pub returns-in-Ok-clause-store : goal.returns-in-Ok-clause-store
returns-in-Ok-clause-store g c = λ told.
    let begun = begun_for c.args.desk.now c.args.place (g.D.Disk.told c.args.past.now.disk) (g.D.Disk.told c.beginning.new.past.disk) c.in-Ok.first c.in-Ok.ensures.still.reads c.in-Ok.ensures.newest c.in-Ok.ensures.first told in
    c.store_from.ensures.store begun.0 begun.1

-- what failed was to be read
pub returns-in-Ok-clause-due : goal.returns-in-Ok-clause-due
returns-in-Ok-clause-due g c = λ failed.
    let due = c.store_from.ensures.due failed in
    store_unmarked c.args.desk.now.kept c.args.place c.in-Ok.first c.in-Ok.ensures.first due.0 due.1

pub returns-in-Err-Disk-clause-due : goal.returns-in-Err-Disk-clause-due
returns-in-Err-Disk-clause-due g c = λ failed. store_marked c.args.desk.now.kept c.args.place (c.beginning.ensures.due (c.in-Err-Disk.is ∙ ap (λ (f : ReadFault). Err f) c.in-Err-Disk.field-0-is))
