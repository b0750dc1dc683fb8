use Rattle.std.proofs.Common.{length, arith}
use Rattle.smtp_lines.proofs.Seen.{cr_next, cr_gone}
use Rattle.smtp_lines.proofs.buffer.places_to_cr.Goals as goal

pub returns-in-Some-clause-within : goal.returns-in-Some-clause-within
returns-in-Some-clause-within c = (cr_next c.in-Some.place c.args.bytes.now c.after.result.now c.memchr.result c.requires.two c.requires.apart c.after.ensures c.memchr.ensures c.in-Some.is).0

pub returns-in-Some-clause-passed : goal.returns-in-Some-clause-passed
returns-in-Some-clause-passed c = (cr_next c.in-Some.place c.args.bytes.now c.after.result.now c.memchr.result c.requires.two c.requires.apart c.after.ensures c.memchr.ensures c.in-Some.is).1

pub returns-in-None-clause-passed : goal.returns-in-None-clause-passed
returns-in-None-clause-passed c = cr_gone c.args.bytes.now c.after.result.now c.memchr.result c.requires.two c.requires.apart c.after.ensures c.memchr.ensures c.in-None.is
