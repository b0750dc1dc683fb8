use Rattle.std.proofs.Common.{[], sym, ◌∙◌}
use Rattle.mail_loop.proofs.SmtpTurns.{out_of_memory_outside, out_of_memory_writing}
use Rattle.mail_loop.proofs.smtp_turn.run_out_of_memory.Goals as goal

pub returns-else-is_in_text-clause-turn : goal.returns-else-is_in_text-clause-turn
returns-else-is_in_text-clause-turn c at kept line =
    out_of_memory_outside at kept c.args.session.now line c.memory_text.result.now c.args.reply.now c.say.new.reply
    (sym c.is_in_text.ensures ∙ c.if-is_in_text.false) (c.memory_text.ensures []) c.say.ensures

pub returns-then-is_in_text-clause-turn : goal.returns-then-is_in_text-clause-turn
returns-then-is_in_text-clause-turn c at kept line =
    out_of_memory_writing at kept c.args.session.now c.close.new.session line c.args.reply.now c.close.new.reply c.close.ensures.closed
