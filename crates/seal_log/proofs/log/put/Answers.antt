use Rattle.std.proofs.Common.{◌∷◌, ◌++◌, ◌∙◌, ◌+◌, [], List, ℕ, sym, subst, arith}
use Rattle.std.specs.Prelude.{IsErrOf}
use Rattle.std.proofs.lemmas.Result.{err_from_is_err_and}
use Rattle.undo_outside.specs.declared.fault.Fault.TheVariants.{NoMemory}
use Rattle.undo_outside.specs.Disk.{IsOverwritten}
use Rattle.undo_outside.specs.Moments.{LeavesOnly}
use Rattle.undo_outside.proofs.Moments.{joined, started, weaker}
use Rattle.seal_log.specs.Journal.{frame, StandsFor, StandsForFront}
use Rattle.seal_log.specs.Settled.{IsSettled}
use Rattle.seal_log.proofs.Frames.{length-sealed-push, front_before}
use Rattle.seal_log.proofs.Steps.{IsStaged, behind_crash, staged, staged_stands, gate_crash, opened}
use Rattle.seal_log.proofs.Torn.{two_writes}
use Rattle.seal_log.proofs.log.put.Given.{Over}
use Rattle.seal_log.proofs.log.put.Goals.{After-write_synced, After-write_synced-2}
use Rattle.seal_log.proofs.log.put.Goals as goal

-- the first write leaves the payloads as they were
behind : (g : Over) (c : After-write_synced g) (payloads : List (List ℕ)) → IsSettled (g.D.Disk.told c.args.disk.now) c.args.gate payloads
    → LeavesOnly (g.D.Disk.told c.args.disk.now) (g.D.Disk.told c.write_synced.new.disk) (λ image. StandsFor image payloads)
behind g c payloads s =
    let old = g.D.Disk.told c.args.disk.now in
    weaker old (g.D.Disk.told c.write_synced.new.disk) _ (λ image. StandsFor image payloads) (c.write_synced.ensures.any_moment s.honest) (behind_crash payloads c.args.gate s.gate_is _ _ old.images s.images)

first : (g : Over) (c : After-write_synced g) (payloads : List (List ℕ)) → IsSettled (g.D.Disk.told c.args.disk.now) c.args.gate payloads
    → LeavesOnly (g.D.Disk.told c.args.disk.now) (g.D.Disk.told c.write_synced.new.disk) (StandsForFront payloads (c.args.payload.now ∷ []))
first g c payloads s =
    weaker (g.D.Disk.told c.args.disk.now) (g.D.Disk.told c.write_synced.new.disk) (λ image. StandsFor image payloads) (StandsForFront payloads (c.args.payload.now ∷ [])) (behind g c payloads s)
    (front_before payloads (c.args.payload.now ∷ []))

-- then the frame stands behind the gate, on the disk
frame_stands : (g : Over) (c : After-write_synced-2 g) (payloads : List (List ℕ)) → IsSettled (g.D.Disk.told c.args.disk.now) c.args.gate payloads → IsStaged (g.D.Disk.told c.write_synced.new.disk).content payloads c.args.payload.now
frame_stands g c payloads s =
    let old = (g.D.Disk.told c.args.disk.now).content in
    let mid = (g.D.Disk.told c.write_synced.new.disk).content in
    staged payloads c.args.gate s.gate_is c.args.payload.now old mid (s.images old (g.met.D.Disk.tells_truth c.args.disk.now s.honest).content_is_image)
    (subst (λ (bytes : List ℕ). IsOverwritten old (c.args.gate + 1) bytes mid) (c.deref.ensures.value ∙ c.in_ok-frame.ensures) (c.in_ok-write_synced.ensures.written s.honest))

-- the second leaves them with the new one or without
second : (g : Over) (c : After-write_synced-2 g) (payloads : List (List ℕ)) → IsSettled (g.D.Disk.told c.args.disk.now) c.args.gate payloads
    → LeavesOnly (g.D.Disk.told c.args.disk.now) (g.D.Disk.told c.write_synced-2.new.disk) (StandsForFront payloads (c.args.payload.now ∷ []))
second g c payloads s =
    let mid = g.D.Disk.told c.write_synced.new.disk in
    let kept = c.write_synced.ensures.honest s.honest in
    joined (g.D.Disk.told c.args.disk.now) mid (g.D.Disk.told c.write_synced-2.new.disk) (StandsForFront payloads (c.args.payload.now ∷ [])) _ (StandsForFront payloads (c.args.payload.now ∷ []))
    (first g (goal.at.After-write_synced-2 g c).After-write_synced payloads s)
    (c.write_synced-2.ensures.any_moment kept)
    (λ f here. here)
    (gate_crash payloads c.args.gate s.gate_is c.args.payload.now mid.content _ mid.images c.requires.short (frame_stands g c payloads s) (c.in_ok-write_synced.ensures.durable s.honest))

pub returns-in_err-write_synced-clause-any_moment : goal.returns-in_err-write_synced-clause-any_moment
returns-in_err-write_synced-clause-any_moment g c = first g (goal.at.returns-in_err-write_synced-clause-any_moment g c).After-write_synced

pub returns-in_err-write_synced-2-clause-any_moment : goal.returns-in_err-write_synced-2-clause-any_moment
returns-in_err-write_synced-2-clause-any_moment g c = second g (goal.at.returns-in_err-write_synced-2-clause-any_moment g c).After-write_synced-2

pub returns-clause-any_moment : goal.returns-clause-any_moment
returns-clause-any_moment g c = second g (goal.at.returns-clause-any_moment g c).After-write_synced-2

-- where the second finds no memory, the frame stands behind a closed gate
pub returns-in_err-write_synced-2-clause-as_before : goal.returns-in_err-write_synced-2-clause-as_before
returns-in_err-write_synced-2-clause-as_before g c payloads s refused =
    let both = (goal.at.returns-in_err-write_synced-2-clause-as_before g c).After-write_synced-2 in
    let mid = g.D.Disk.told c.write_synced.new.disk in
    let kept = c.write_synced.ensures.honest s.honest in
    let told = err_from_is_err_and c.from_residual-in_err-write_synced-2.result c.from_residual-in_err-write_synced-2.ensures.1 in
    let no_memory : IsErrOf c.write_synced-2.result NoMemory = cc (told.1, told.2, refused, c.in_err-write_synced-2.was) in
    record {
      honest = c.write_synced-2.ensures.honest kept;
      gate_is = s.gate_is;
      images = λ f now. subst (λ (l : List ℕ). StandsFor l payloads) (sym (c.in_ok-write_synced.ensures.durable s.honest f (c.write_synced-2.ensures.no_memory kept no_memory f now)))
          (staged_stands payloads c.args.gate s.gate_is c.args.payload.now mid.content (frame_stands g both payloads s));
    }

-- after both, the new one is on the disk
pub returns-clause-sealed : goal.returns-clause-sealed
returns-clause-sealed g c payloads s =
    let both = (goal.at.returns-clause-sealed g c).After-write_synced-2 in
    let mid = (g.D.Disk.told c.write_synced.new.disk).content in
    let new = (g.D.Disk.told c.write_synced-2.new.disk).content in
    let kept = c.write_synced.ensures.honest s.honest in
    let stands = opened payloads c.args.gate s.gate_is c.args.payload.now mid new c.requires.short (frame_stands g both payloads s) (c.in_ok-write_synced-2.ensures.written kept) in
    record {
      honest = c.write_synced-2.ensures.honest kept;
      gate_is = omega (arith, s.gate_is, length-sealed-push payloads c.args.payload.now);
      images = λ f now. subst (λ (l : List ℕ). StandsFor l (payloads ++ c.args.payload.now ∷ [])) (sym (c.in_ok-write_synced-2.ensures.durable kept f now)) stands;
    }

-- where no memory is found, the gate was never open
pub returns-in_err-frame-clause-never_there : goal.returns-in_err-frame-clause-never_there
returns-in_err-frame-clause-never_there g c payloads s refused =
    let old = g.D.Disk.told c.args.disk.now in
    started old (λ f. StandsFor f payloads) (λ f left. s.images f ((g.met.D.Disk.tells_truth c.args.disk.now s.honest).only_now f left))

pub returns-in_err-write_synced-clause-never_there : goal.returns-in_err-write_synced-clause-never_there
returns-in_err-write_synced-clause-never_there g c payloads s refused = behind g (goal.at.returns-in_err-write_synced-clause-never_there g c).After-write_synced payloads s

pub returns-in_err-write_synced-2-clause-never_there : goal.returns-in_err-write_synced-2-clause-never_there
returns-in_err-write_synced-2-clause-never_there g c payloads s refused =
    let both = (goal.at.returns-in_err-write_synced-2-clause-never_there g c).After-write_synced-2 in
    let mid = g.D.Disk.told c.write_synced.new.disk in
    let kept = c.write_synced.ensures.honest s.honest in
    let told = err_from_is_err_and c.from_residual-in_err-write_synced-2.result c.from_residual-in_err-write_synced-2.ensures.1 in
    let no_memory : IsErrOf c.write_synced-2.result NoMemory = cc (told.1, told.2, refused, c.in_err-write_synced-2.was) in
    let stands = staged_stands payloads c.args.gate s.gate_is c.args.payload.now mid.content (frame_stands g both payloads s) in
    joined (g.D.Disk.told c.args.disk.now) mid (g.D.Disk.told c.write_synced-2.new.disk) (λ f. StandsFor f payloads) mid.images (λ f. StandsFor f payloads)
    (behind g (goal.at.After-write_synced-2 g both).After-write_synced payloads s)
    (c.write_synced-2.ensures.never_torn kept no_memory)
    (λ f here. here)
    (λ f now. subst (λ (l : List ℕ). StandsFor l payloads) (sym (c.in_ok-write_synced.ensures.durable s.honest f now)) stands)

-- the two writes come to one
pub returns-clause-written : goal.returns-clause-written
returns-clause-written g c honest =
    let old = (g.D.Disk.told c.args.disk.now).content in
    let mid = (g.D.Disk.told c.write_synced.new.disk).content in
    let new = (g.D.Disk.told c.write_synced-2.new.disk).content in
    let size = (g.met.D.Disk.tells_truth c.args.disk.now honest).size_of_content in
    two_writes old mid new (frame c.args.payload.now ++ 0 ∷ []) c.args.gate 85 (omega (arith, size, c.requires.within))
    (subst (λ (bytes : List ℕ). IsOverwritten old (c.args.gate + 1) bytes mid) (c.deref.ensures.value ∙ c.in_ok-frame.ensures) (c.in_ok-write_synced.ensures.written honest))
    (c.in_ok-write_synced-2.ensures.written (c.write_synced.ensures.honest honest))
