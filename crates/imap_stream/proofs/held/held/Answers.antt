use Rattle.std.proofs.Common.{sym, subst}
use Rattle.imap_stream.specs.Reading.{IsOpen}
use Rattle.imap_stream.proofs.Settled.{held_open, held_ended}
use Rattle.imap_stream.proofs.held.held.Goals as goal

pub returns-in-Line : goal.returns-in-Line
returns-in-Line c none =
    held_open c.args.reader.now c.args.bytes.now c.behind-came.result.now c.of_open.result c.requires (subst IsOpen (sym c.in-Line.is) tt) c.behind-came.ensures c.of_open.ensures.long c.of_open.ensures.short none

pub returns-in-Literal : goal.returns-in-Literal
returns-in-Literal c none =
    held_open c.args.reader.now c.args.bytes.now c.behind-came.result.now c.of_open-in-Literal.result c.requires (subst IsOpen (sym c.in-Literal.is) tt) c.behind-came.ensures c.of_open-in-Literal.ensures.long
    c.of_open-in-Literal.ensures.short none

pub returns-in-End : goal.returns-in-End
returns-in-End c none = held_ended c.args.reader.now c.args.bytes.now c.behind-came.result.now c.of_end.result c.in-End.tag c.requires c.in-End.is c.behind-came.ensures c.of_end.ensures none
