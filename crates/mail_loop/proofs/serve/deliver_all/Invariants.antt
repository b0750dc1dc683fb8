use Rattle.std.proofs.Common.{drop}
use Rattle.verb_core.specs.declared.conf.House.{House}
use Rattle.mail_loop.specs.Stands.{AreHome, replies_of}
use Rattle.mail_loop.proofs.Links.{SendsOn}
use Rattle.mail_loop.proofs.serve.deliver_all.Given as goal

-- who is logged in is known still, and what the letters that are left lead to is what all lead to
abbrev pub invariant-loop-letter : goal.invariant-loop-letter
invariant-loop-letter g l = record {
  home : (house : House) → AreHome house l.fn.connections.entries → AreHome house l.connections.entries;
  sends : SendsOn (g.L.Link.told l.fn.link) (g.L.Link.told l.link) l.fn.connections.entries l.connections.entries (replies_of (drop l.letter-index l.letters)) (replies_of l.letters);
}
