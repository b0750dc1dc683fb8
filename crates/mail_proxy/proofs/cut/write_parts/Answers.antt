use Rattle.std.proofs.Common.{◌≡◌, ℕ, List, Ok, arith, inl, refl, subst, sym}
use Rattle.base_cut.specs.Cutting.{AreCut}
use Rattle.time_desk.specs.Lending.{desk_told}
use Rattle.mail_proxy.specs.Cutting.{WritesParts}
use Rattle.mail_proxy.proofs.Cuts.{parts_stopped}
use Rattle.mail_proxy.proofs.cut.write_parts.Goals as goal

pub returns-in-Ok-clause-wrote : goal.returns-in-Ok-clause-wrote
returns-in-Ok-clause-wrote g c =
    let (payloads, are, wrote) = c.in-Ok.ensures.written in
    (payloads, are, inl (c.in-Ok.ensures.reads.faults, (Ok tt, wrote.0, refl), ((λ nought. wrote.1), (λ eight. absurd (let wrong : ◌≡◌ {A = ℕ} 0 8 = eight in omega (arith, wrong))))))

pub returns-in-Err-clause-wrote : goal.returns-in-Err-clause-wrote
returns-in-Err-clause-wrote g c =
    let told = g.D.Disk.told in
    let out = g.W.Sink.told in
    let old = c.args.desk.now in
    let new = c.write_cut.new.bodies in
    let (payloads, are, wrote) = c.in-Err.ensures.written in (
      payloads,
      are,
      subst (λ (status : ℕ). WritesParts told old new payloads status (out c.args.out.now) (out c.write_cut.new.out)) (sym c.status_of.ensures)
          (parts_stopped told old new payloads (out c.args.out.now) (out c.write_cut.new.out) c.in-Err.fault wrote c.in-Err.ensures.reads),
    )
