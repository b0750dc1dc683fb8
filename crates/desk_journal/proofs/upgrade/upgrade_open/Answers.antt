use Rattle.store_kept.specs.Kept.{upgraded}
use Rattle.verb_bytes.specs.declared.journal.JournalRecord.TheVariants.{Upgrade}
use Rattle.desk_journal.specs.Lasting.{lasting}
use Rattle.desk_journal.proofs.Sealed.{marked_on}
use Rattle.desk_journal.proofs.Submits.{not_sealed}
use Rattle.desk_journal.proofs.Upgrading.{noted_upgrade, upgrade_record_of, upgrade_sealed, upgrades_none}
use Rattle.desk_journal.proofs.upgrade.upgrade_open.Goals as goal

pub returns-in-Ok-seal_upgrade-clause-ok : goal.returns-in-Ok-seal_upgrade-clause-ok
returns-in-Ok-seal_upgrade-clause-ok g c =
    let done = c.in-Ok-seal_upgrade.ensures in
    upgrade_sealed g.D.Disk.told c.args.at c.in-Ok.bytes c.args.desk.now c.seal_upgrade.new.desk c.args.journal.now c.seal_upgrade.new.journal
    (upgrade_record_of c.args.desk.now.kept c.args.at c.in-Ok.bytes c.in-Ok.ensures.bytes c.in-Ok.ensures.spelled c.requires.flat)
    done.sealed.ok c.requires.open done.sealed.still_open done.kept done.notes done.marks

pub returns-in-Ok-seal_upgrade-clause-noted : goal.returns-in-Ok-seal_upgrade-clause-noted
returns-in-Ok-seal_upgrade-clause-noted g c =
    let done = c.in-Ok-seal_upgrade.ensures in
    noted_upgrade c.args.journal.now.gate c.seal_upgrade.new.journal.gate c.in-Ok.bytes c.args.desk.now c.seal_upgrade.new.desk done.sealed.next done.kept done.notes

pub returns-in-Ok-seal_upgrade-clause-marked : goal.returns-in-Ok-seal_upgrade-clause-marked
returns-in-Ok-seal_upgrade-clause-marked g c =
    let done = c.in-Ok-seal_upgrade.ensures in
    marked_on c.args.journal.now.gate c.seal_upgrade.new.journal.gate c.in-Ok.bytes c.args.desk.now c.seal_upgrade.new.desk done.sealed.next done.marks

pub returns-in-Ok-clause-why : goal.returns-in-Ok-clause-why
returns-in-Ok-clause-why g c =
    let done = c.in-Err-seal_upgrade.ensures in
    let old = c.args.desk.now in
    upgrades_none g.D.Disk.told c.args.at (lasting old c.args.journal.now) (lasting c.seal_upgrade.new.desk c.seal_upgrade.new.journal) c.in-Err-seal_upgrade.fault c.requires.open
    (not_sealed g.D.Disk.told (Upgrade c.args.at) c.in-Ok.bytes (upgraded old.kept) old c.seal_upgrade.new.desk c.args.journal.now c.seal_upgrade.new.journal c.in-Err-seal_upgrade.fault
    (upgrade_record_of old.kept c.args.at c.in-Ok.bytes c.in-Ok.ensures.bytes c.in-Ok.ensures.spelled c.requires.flat)
    done.same done.notes done.marks c.requires.open done.sealed)
