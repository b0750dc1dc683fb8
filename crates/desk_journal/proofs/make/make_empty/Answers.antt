use Rattle.std.proofs.Common.{inl, refl}
use Rattle.desk_journal.proofs.Looking.{no_look}
use Rattle.desk_journal.proofs.make.make_empty.Goals as goal

-- where there is no memory for the desk, the disk is as it was
pub returns-in-Err-clause-why : goal.returns-in-Err-clause-why
returns-in-Err-clause-why g c = (c.requires.empty, (record { reads = refl; writes = refl }, refl), inl (no_look (g.D.Disk.told c.args.disk.now), refl))
