use Rattle.std.proofs.Common.{None, Some}
use Rattle.script_link.proofs.Spelling.{x_some, name_is}
use Rattle.script_link.proofs.texts.behind_tilde.Goals as goal

pub returns-in-Some-clause-some : goal.returns-in-Some-clause-some
returns-in-Some-clause-some c = x_some _ _ _ _ c.requires c.if-text-eq120.true c.after.ensures c.in-Some.ensures.some

pub returns-in-Some-named_byte-clause-some : goal.returns-in-Some-named_byte-clause-some
returns-in-Some-named_byte-clause-some c = name_is c.args.text.now (Some c.in-Some-named_byte.byte) c.requires c.if-text-eq120.false c.in-Some-named_byte.ensures

pub returns-in-None-named_byte-clause-none : goal.returns-in-None-named_byte-clause-none
returns-in-None-named_byte-clause-none c = name_is c.args.text.now None c.requires c.if-text-eq120.false c.in-None-named_byte.ensures
