use Rattle.std.proofs.Common.{ℕ, map, subst, arith}
use Rattle.mail_rows.specs.declared.change.Put.{Put}
use Rattle.box_store.specs.Effects.{HasSpares}
use Rattle.box_store.proofs.GrowLaws.{ready_all}
use Rattle.box_store.proofs.reserve.reserve_puts.Goals as goal

pub returns-clause-ready : goal.returns-clause-ready
returns-clause-ready c =
    subst (λ (n : ℕ). HasSpares (map (λ (p : Put). (p.mailbox, n)) c.args.puts.now) c.loop-place.spares c.args.rows.now.items) c.loop-place.invariant.count
    (ready_all c.args.puts.now c.in_ok-count.count c.loop-place.spares c.args.rows.now.items (omega (arith, c.loop-place.invariant.long)) (λ k d lt. c.loop-place.invariant.ready k d (omega arith)))
