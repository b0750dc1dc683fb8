use Rattle.std.proofs.Common.{ap, ◌∙◌, take, length, ◌++◌}
use Rattle.smtp_lines.proofs.Marked.{last_drop}
use Rattle.smtp_lines.proofs.buffer.leave_out.Goals as goal

pub returns : goal.returns
returns c = c.drop_middle.ensures ∙ ap (λ l. take 1048576 c.args.bytes.now.items ++ l) (last_drop c.args.bytes.now.items c.last_place-last.result (c.last_place-last.ensures ∙ ap length c.deref.ensures.value))
