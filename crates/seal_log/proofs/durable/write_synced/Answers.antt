use Rattle.std.proofs.Common.{ℕ, ◌≤◌, List, arith, length, inl}
use Rattle.std.specs.Prelude.{IsErrOf}
use Rattle.std.proofs.lemmas.Result.{err_from_is_err_and}
use Rattle.undo_outside.specs.declared.fault.Fault.TheVariants.{NoMemory}
use Rattle.undo_outside.specs.Moments.{IsTornOf, LeavesOnly}
use Rattle.undo_outside.proofs.Moments.{call, joined, tears}
use Rattle.seal_log.proofs.durable.write_synced.Given.{Over}
use Rattle.seal_log.proofs.durable.write_synced.Goals.{After-sync}
use Rattle.seal_log.proofs.durable.write_synced.Goals as goal

-- the write may be torn, and the sync adds nothing
torn_or_not : (g : Over) (c : After-sync g) → (g.D.Disk.told c.args.disk.now).honest
    → LeavesOnly (g.D.Disk.told c.args.disk.now) (g.D.Disk.told c.sync.new.self) (IsTornOf c.args.place (length c.args.bytes.now) (g.D.Disk.told c.args.disk.now).size (g.D.Disk.told c.args.disk.now).images)
torn_or_not g c honest =
    let old = g.D.Disk.told c.args.disk.now in
    let mid = g.D.Disk.told c.write_at.new.self in
    let new = g.D.Disk.told c.sync.new.self in
    let P = IsTornOf c.args.place (length c.args.bytes.now) old.size old.images in
    let torn = tears c.args.place (length c.args.bytes.now) old.size old.images mid.images c.write_at.result (c.write_at.ensures.torn honest) in
    let kept = c.write_at.ensures.honest honest in
    let written = call old mid P (c.write_at.ensures.time honest) (g.met.D.Disk.tells_truth c.args.disk.now honest).only_now (λ f was. inl was) torn in
    let synced = call mid new P (c.sync.ensures.time kept) (g.met.D.Disk.tells_truth c.write_at.new.self kept).only_now torn (λ f now. torn f (c.sync.ensures.images kept f now)) in
    joined old mid new P P P written synced (λ f here. here) (λ f here. here)

pub returns-in-Ok-clause-any_moment : goal.returns-in-Ok-clause-any_moment
returns-in-Ok-clause-any_moment g c = torn_or_not g (goal.at.returns-in-Ok-clause-any_moment g c).After-sync

pub returns-in-Err-clause-any_moment : goal.returns-in-Err-clause-any_moment
returns-in-Err-clause-any_moment g c = torn_or_not g (goal.at.returns-in-Err-clause-any_moment g c).After-sync

pub returns-in_err-write_at-clause-never_torn : goal.returns-in_err-write_at-clause-never_torn
returns-in_err-write_at-clause-never_torn g c honest refused =
    let old = g.D.Disk.told c.args.disk.now in
    let new = g.D.Disk.told c.write_at.new.self in
    let told = err_from_is_err_and c.from_residual.result c.from_residual.ensures.1 in
    let no_memory : IsErrOf c.write_at.result NoMemory = cc (told.1, told.2, refused, c.in_err-write_at.was) in
    call old new old.images (c.write_at.ensures.time honest) (g.met.D.Disk.tells_truth c.args.disk.now honest).only_now (λ f was. was)
    (λ f now. ((c.write_at.ensures.no_memory no_memory).images honest f).0 now)

-- what a crash could have left at first it can still have left
images_kept : (g : Over) (c : After-sync g) → (g.D.Disk.told c.args.disk.now).honest
    → (f : List ℕ) → (g.D.Disk.told c.args.disk.now).images f → (g.D.Disk.told c.sync.new.self).since (g.D.Disk.told c.args.disk.now).moment f
images_kept g c honest f was =
    let old = g.D.Disk.told c.args.disk.now in
    let here : old.moment ≤ old.moment = omega arith in
    let written = c.write_at.ensures.time honest in
    let synced = c.sync.ensures.time (c.write_at.ensures.honest honest) in
    synced.kept old.moment f written.later (written.kept old.moment f here ((g.met.D.Disk.tells_truth c.args.disk.now honest).counts_now old.moment f here was))

pub returns-in-Ok-clause-kept : goal.returns-in-Ok-clause-kept
returns-in-Ok-clause-kept g c = images_kept g (goal.at.returns-in-Ok-clause-kept g c).After-sync

pub returns-in-Err-clause-kept : goal.returns-in-Err-clause-kept
returns-in-Err-clause-kept g c = images_kept g (goal.at.returns-in-Err-clause-kept g c).After-sync

pub returns-in_err-write_at-clause-kept : goal.returns-in_err-write_at-clause-kept
returns-in_err-write_at-clause-kept g c honest f was =
    let old = g.D.Disk.told c.args.disk.now in
    let here : old.moment ≤ old.moment = omega arith in
    (c.write_at.ensures.time honest).kept old.moment f here ((g.met.D.Disk.tells_truth c.args.disk.now honest).counts_now old.moment f here was)
