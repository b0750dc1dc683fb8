use Rattle.std.proofs.Common.{take}
use Rattle.mail_sections.specs.Listed.{AreShort, HoldsListed}
use Rattle.mail_sections.proofs.listed.lowered.Given as goal

abbrev pub invariant-loop-name : goal.invariant-loop-name
invariant-loop-name l = record {
  holds : HoldsListed l.lower (take l.name-index l.names);
  short : AreShort (take l.name-index l.names);
}
