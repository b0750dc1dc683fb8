use Rattle.std.proofs.Common.{◌∙◌, length, ap, subst, sym}
use Rattle.shelf.specs.Marks.{with_mark}
use Rattle.store_kept.specs.Kept.{Kept, snapshotted, store_of}
use Rattle.mail_desk.specs.Held.{Held}
use Rattle.desk_journal.specs.Lasting.{lasting}
use Rattle.desk_journal.specs.Records.{snapshot_record}
use Rattle.desk_journal.specs.Sealing.{IsRecordTo}
use Rattle.desk_journal.proofs.Snapshots.{marked_snapshot, noted_snapshot, snapshot_record_of, snapshot_sealed_from, snapshots_none, store_is_made}
use Rattle.desk_journal.proofs.Submits.{not_sealed}
use Rattle.desk_journal.proofs.snapshot.snapshot_open.Goals as goal

pub returns-in-Ok-seal_snapshot-clause-ok : goal.returns-in-Ok-seal_snapshot-clause-ok
returns-in-Ok-seal_snapshot-clause-ok g c =
    let told = c.stands.ensures in
    let ready = c.in-Ok.ensures in
    let done = c.in-Ok-seal_snapshot.ensures in
    let kept = c.args.desk.now.kept in
    snapshot_sealed_from g.D.Disk.told c.in-Ok.bytes c.args.desk.now c.ready_snapshot.new.desk c.seal_snapshot.new.desk c.args.journal.now c.seal_snapshot.new.journal ready.kept ready.notes ready.marks ready.bytes ready.spelled
    ((c.rows_make_valid_stores.ensures.valid kept.house (store_of kept).conf (store_of kept).boxes).1 (store_is_made kept told.house_stays told.valid))
    done.sealed.ok c.requires.open done.sealed.still_open done.kept done.notes done.marks

pub returns-in-Ok-seal_snapshot-clause-noted : goal.returns-in-Ok-seal_snapshot-clause-noted
returns-in-Ok-seal_snapshot-clause-noted g c =
    let ready = c.in-Ok.ensures in
    let done = c.in-Ok-seal_snapshot.ensures in
    noted_snapshot c.args.journal.now.gate c.seal_snapshot.new.journal.gate c.in-Ok.bytes c.args.desk.now c.seal_snapshot.new.desk done.sealed.next (done.kept ∙ ap snapshotted ready.kept) (done.notes ∙ ready.notes)

pub returns-in-Ok-seal_snapshot-clause-marked : goal.returns-in-Ok-seal_snapshot-clause-marked
returns-in-Ok-seal_snapshot-clause-marked g c =
    let ready = c.in-Ok.ensures in
    let done = c.in-Ok-seal_snapshot.ensures in
    let old = c.args.desk.now in
    marked_snapshot c.args.journal.now.gate c.seal_snapshot.new.journal.gate (length old.kept.timeline) c.in-Ok.bytes old.marks c.seal_snapshot.new.desk.marks done.sealed.next
    (done.marks ∙ (λ j. with_mark (length (ready.kept j).timeline) (record { gate = c.args.journal.now.gate; length = length c.in-Ok.bytes }) (ready.marks j)))

pub returns-in-Ok-clause-why : goal.returns-in-Ok-clause-why
returns-in-Ok-clause-why g c =
    let told = c.stands.ensures in
    let ready = c.in-Ok.ensures in
    let done = c.in-Err-seal_snapshot.ensures in
    let kept = c.args.desk.now.kept in
    let made = snapshot_record_of kept c.in-Ok.bytes ready.bytes ((c.rows_make_valid_stores.ensures.valid kept.house (store_of kept).conf (store_of kept).boxes).1 (store_is_made kept told.house_stays told.valid)) ready.spelled in
    snapshots_none g.D.Disk.told c.args.desk.now c.ready_snapshot.new.desk c.args.journal.now (lasting c.seal_snapshot.new.desk c.seal_snapshot.new.journal) c.in-Err-seal_snapshot.fault ready.kept ready.notes ready.marks c.requires.open
    (not_sealed g.D.Disk.told (snapshot_record kept) c.in-Ok.bytes (snapshotted kept) c.ready_snapshot.new.desk c.seal_snapshot.new.desk c.args.journal.now c.seal_snapshot.new.journal c.in-Err-seal_snapshot.fault
    (subst (λ (k : Kept). IsRecordTo (snapshot_record kept) c.in-Ok.bytes k (snapshotted kept)) (sym ready.kept) made)
    (ap (λ (h : Held). h.kept) done.same) (ap (λ (h : Held). h.notes) done.same) (ap (λ (h : Held). h.marks) done.same) c.requires.open done.sealed)
