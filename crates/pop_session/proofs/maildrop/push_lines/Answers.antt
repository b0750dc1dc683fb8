use Rattle.std.proofs.Common.{arith}
use Rattle.pop_session.specs.Maildrop.{detail_line}
use Rattle.pop_session.proofs.Listed.{lines_more}
use Rattle.pop_session.proofs.maildrop.push_lines.Goals as goal

pub loop-message-preserved : goal.loop-message-preserved
loop-message-preserved c =
    let inv = c.loop-message.invariant in
    record {
      number = omega (arith, inv.number);
      text = lines_more (detail_line c.args.detail c.args.stamp) c.args.messages.now c.loop-message.message-index c.loop-message.number _ c.args.text.now c.loop-message.text _ (omega (arith, c.loop-message-test.true)) inv.number inv.text c.in_ok-push_line.ensures;
    }
