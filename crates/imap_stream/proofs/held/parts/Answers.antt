use Rattle.imap_stream.proofs.Within.{parts_within}
use Rattle.imap_stream.proofs.held.parts.Goals as goal

pub returns-clause-most : goal.returns-clause-most
returns-clause-most c = parts_within c.args.reader.now c.requires.begun c.requires.limits
