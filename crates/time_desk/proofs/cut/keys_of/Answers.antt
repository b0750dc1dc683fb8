use Rattle.std.proofs.Common.{◌≡◌, ◌-◌, ◌+◌, ℕ, ap, ◌∙◌, arith, drop}
use Rattle.verb_core.specs.declared.mailbox.Body.{Body}
use Rattle.time_desk.specs.Cutting.{keys_once}
use Rattle.time_desk.proofs.CutBodies.{key_before}
use Rattle.time_desk.proofs.cut.keys_of.Goals as goal

pub loop-place-preserved : goal.loop-place-preserved
loop-place-preserved c =
    let bodies = c.args.bodies.now in
    let d : Body = record { origin = 0; rev = 0 } in
    let one : c.loop-place.place ≡ c.loop-place.place - 1 + 1 = omega (arith, c.loop-place-test.true) in
    record {
      within = omega (arith, c.loop-place.invariant.within);
      keys = key_before bodies (c.loop-place.place - 1) d c.insert.new.self.keys c.loop-place.set.keys c.key_of.result
          (omega (arith, c.loop-place.invariant.within, c.loop-place-test.true)) c.key_of.ensures c.in_ok-insert.ensures.keys
          (c.loop-place.invariant.keys ∙ ap (λ (k : ℕ). keys_once (drop k bodies)) one);
    }
