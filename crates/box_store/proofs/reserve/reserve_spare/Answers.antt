use Rattle.std.proofs.Common.{refl}
use Rattle.verb_core.specs.Boxes.{box_of}
use Rattle.mail_rows.proofs.PlaceLaws.{placed, gapped, row_read, row_missing}
use Rattle.box_store.proofs.SpareLaws.{spared_for, spared_none}
use Rattle.box_store.proofs.reserve.reserve_spare.Goals as goal

pub returns-in_ok-make_ready-in-Ok-clause-ready : goal.returns-in_ok-make_ready-in-Ok-clause-ready
returns-in_ok-make_ready-in-Ok-clause-ready c =
    spared_for (box_of c.args.user c.args.name.now) c.args.count c.args.place c.make_ready.new.spares c.args.rows.now.items c.index_mut.result.now.1
    (row_read (box_of c.args.user c.args.name.now) c.args.rows.now.items c.in-Ok.at c.index_mut.result.now
    (placed c.args.user c.args.name.now c.args.name.now c.as_slice.result.now c.args.rows.now.items c.in-Ok.at refl c.as_slice.ensures.value c.in-Ok.ensures.found) c.index_mut.ensures.value)
    c.in_ok-make_ready-in-Ok.ensures.there c.in_ok-make_ready-in-Ok.ensures.room c.in_ok-make_ready-in-Ok.ensures.uids

pub returns-in_ok-make_spare-in-Err-clause-ready : goal.returns-in_ok-make_spare-in-Err-clause-ready
returns-in_ok-make_spare-in-Err-clause-ready c =
    spared_none (box_of c.args.user c.args.name.now) c.args.count c.args.place c.make_spare.new.spares c.args.rows.now.items
    (row_missing (box_of c.args.user c.args.name.now) c.args.rows.now.items c.in-Err.field-0
    (gapped c.args.user c.args.name.now c.args.name.now c.as_slice.result.now c.args.rows.now.items c.in-Err.field-0 refl c.as_slice.ensures.value c.in-Err.ensures.missing) c.requires.rising)
    c.in_ok-make_spare-in-Err.ensures.there c.in_ok-make_spare-in-Err.ensures.room c.in_ok-make_spare-in-Err.ensures.small
