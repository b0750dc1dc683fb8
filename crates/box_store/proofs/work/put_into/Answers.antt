use Rattle.std.proofs.Common.{◌<◌, ◌∙◌, [], refl, length, arith}
use Rattle.verb_core.specs.Boxes.{box_of}
use Rattle.verb_core.specs.Mailboxes.{put_all}
use Rattle.mail_rows.proofs.PlaceLaws.{placed, gapped, row_read, row_changed, change_missing}
use Rattle.box_store.proofs.SpareLaws.{room_there, uids_there, spared}
use Rattle.box_store.proofs.work.put_into.Goals as goal

pub put_mail-spare-requires-clause-room : goal.put_mail-spare-requires-clause-room
put_mail-spare-requires-clause-room c =
    room_there (box_of c.args.user c.args.name.now) (length c.args.mail.now) c.args.place c.args.spares.now c.args.rows.now.items c.index_mut.result.now.1 c.requires.spare
    (row_read (box_of c.args.user c.args.name.now) c.args.rows.now.items c.in-Ok.at c.index_mut.result.now
    (placed c.args.user c.args.name.now c.args.name.now c.as_slice.result.now c.args.rows.now.items c.in-Ok.at refl c.as_slice.ensures.value c.in-Ok.ensures.found) c.index_mut.ensures.value)
    _ c.lend-spare.ensures.room

pub put_mail-spare-requires-clause-uids : goal.put_mail-spare-requires-clause-uids
put_mail-spare-requires-clause-uids c =
    uids_there (box_of c.args.user c.args.name.now) (length c.args.mail.now) c.args.place c.args.spares.now c.args.rows.now.items c.index_mut.result.now.1 c.requires.spare
    (row_read (box_of c.args.user c.args.name.now) c.args.rows.now.items c.in-Ok.at c.index_mut.result.now
    (placed c.args.user c.args.name.now c.args.name.now c.as_slice.result.now c.args.rows.now.items c.in-Ok.at refl c.as_slice.ensures.value c.in-Ok.ensures.found) c.index_mut.ensures.value)

pub returns-in-Ok-clause-rows : goal.returns-in-Ok-clause-rows
returns-in-Ok-clause-rows c =
    row_changed (box_of c.args.user c.args.name.now) c.args.rows.now.items c.in-Ok.at (put_all c.args.mail.now) c.index_mut.result.now _
    (placed c.args.user c.args.name.now c.args.name.now c.as_slice.result.now c.args.rows.now.items c.in-Ok.at refl c.as_slice.ensures.value c.in-Ok.ensures.found)
    c.requires.rising c.index_mut.ensures.value c.put_mail-spare.ensures.mailbox

pub returns-in_default-clause-rows : goal.returns-in_default-clause-rows
returns-in_default-clause-rows c =
    change_missing (box_of c.args.user c.args.name.now) c.args.rows.now.items c.in_default.field-0
    (gapped c.args.user c.args.name.now c.args.name.now c.as_slice.result.now c.args.rows.now.items c.in_default.field-0 refl c.as_slice.ensures.value c.in_default.ensures.missing)
    (put_all c.args.mail.now) c.requires.rising

pub lend-spare-requires : goal.lend-spare-requires
lend-spare-requires c = (spared (box_of c.args.user c.args.name.now, length c.args.mail.now) [] c.args.place c.args.spares.now c.args.rows.now.items c.requires.spare).within

pub give_back-requires-clause-place : goal.give_back-requires-clause-place
give_back-requires-clause-place c =
    let within : c.args.place < length c.args.spares.now = (spared (box_of c.args.user c.args.name.now, length c.args.mail.now) [] c.args.place c.args.spares.now c.args.rows.now.items c.requires.spare).within in
    omega (arith, c.lend-spare.ensures.len)

pub returns-in-Ok-clause-later : goal.returns-in-Ok-clause-later
returns-in-Ok-clause-later c = c.give_back.ensures.later ∙ c.lend-spare.ensures.later
