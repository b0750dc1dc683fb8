use Rattle.console_replies.proofs.Names.{name_is_utf8}
use Rattle.console_replies.proofs.text.name_text.Goals as goal

pub unreachable-requires : goal.unreachable-requires
unreachable-requires c = c.in-Err.ensures.cases.0 (rw c.bytes.ensures.value (name_is_utf8 c.args.name.now c.bytes.ensures.name))
