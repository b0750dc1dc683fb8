use Rattle.smtp_lines.proofs.Spoken.{word_read}
use Rattle.smtp_lines.proofs.command.read_words.Goals as goal

pub returns-in-Some : goal.returns-in-Some
returns-in-Some c =
    word_read c.args.bytes.now _ _ c.in-Some.word c.read_spoken.result
    c.before-2.ensures c.in-Some.ensures c.behind.ensures c.read_spoken.ensures
