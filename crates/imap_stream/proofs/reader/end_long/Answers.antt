use Rattle.std.proofs.Common.{ap, ◌∙◌, drop}
use Rattle.imap_stream.proofs.Readings.{end_long_takes}
use Rattle.imap_stream.specs.Commands.{heard, before}
use Rattle.imap_stream.proofs.reader.end_long.Goals as goal

pub returns-clause-ok : goal.returns-clause-ok
returns-clause-ok c =
    let r = c.args.reader.now in
    rw (c.take_tag-tag.ensures.tag, c.take_tag-tag.ensures.line, c.none_begun.ensures)
    (ap (λ a. heard (before r.begun a) (drop r.given c.args.bytes.now)) c.requires.awaits ∙ end_long_takes r.begun _ c.args.bytes.now r.given c.args.place c.requires.end)
