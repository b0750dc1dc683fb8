use Rattle.std.proofs.Common.{arith, ◌∙◌}
use Rattle.repair_desk.proofs.Steps.{comes_in}
use Rattle.repair_desk.proofs.inserts.push_inserts.Goals as goal

pub loop-act-preserved : goal.loop-act-preserved
loop-act-preserved c = record {
  number = omega arith;
  items = comes_in c.args.c c.args.at c.loop-act.number c.loop-act.act-index c.args.acts.now c.act-item.result c.args.items.now c.loop-act.items c.push.new.self c.of.result
      c.loop-act-test.true c.act-item.is c.loop-act.invariant.number c.loop-act.invariant.items (c.of.ensures ∙ c.in_ok-item.ensures) c.in_ok-push.ensures.ok;
}
