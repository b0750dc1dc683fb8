use Rattle.imap_stream.proofs.Within.{none_waits}
use Rattle.imap_stream.proofs.buffer.Buffer.next.Goals as goal

pub returns-else-is_not_yet-clause-held : goal.returns-else-is_not_yet-clause-held
returns-else-is_not_yet-clause-held c = none_waits _ c.take_next-next.result (c.is_not_yet.ensures.other c.if-is_not_yet.false)

pub returns-else-is_not_yet-clause-most : goal.returns-else-is_not_yet-clause-most
returns-else-is_not_yet-clause-most c = none_waits _ c.take_next-next.result (c.is_not_yet.ensures.other c.if-is_not_yet.false)
