use Rattle.console_replies.specs.Bodies.{items_data}
use Rattle.console_session.proofs.Turns.{snapshot_done, snapshot_not_done}
use Rattle.console_session.proofs.snapshot.snapshot.Goals as goal

pub returns-in-Ok : goal.returns-in-Ok
returns-in-Ok g c = λ at.
    snapshot_done g.D.Disk.told at c.in-Ok.items c.args.desk.now c.snapshot.new.self c.tell_only.result (c.tell_only.ensures (items_data c.in-Ok.items) c.items_json.ensures) c.in-Ok.ensures.items
    c.in-Ok.ensures.ok c.in-Ok.ensures.sealed c.snapshot.ensures.reads c.in-Ok.ensures.wants.ok

pub returns-in-Err : goal.returns-in-Err
returns-in-Err g c = λ at.
    snapshot_not_done g.D.Disk.told at c.args.desk.now c.snapshot.new.self c.in-Err.fault c.tell_fault.result c.requires c.in-Err.ensures.why c.snapshot.ensures.reads c.in-Err.ensures.wants c.tell_fault.ensures
