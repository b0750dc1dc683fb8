use Rattle.mail_loop.proofs.Dialogs.{read_out_of_memory}
use Rattle.mail_loop.proofs.turn.read_out_of_memory.Goals as goal

pub returns-in-Ok-clause-read : goal.returns-in-Ok-clause-read
returns-in-Ok-clause-read g c kept =
    read_out_of_memory g.S.Speaks.speech kept c.args.session.now c.take_texts.new.self c.in-Ok.out c.args.reply.now c.tell.new.reply c.requires.stays c.in-Ok.ensures.ok c.tell.ensures.told
