use Rattle.std.proofs.Common.{◌≡◌, List, false}
use Rattle.mail_loop.specs.Asked.{HaveSealed}
use Rattle.mail_loop.specs.Acknowledged.{WentThrough}
use Rattle.mail_loop.specs.Serving.{Step}
use Rattle.mail_loop.specs.Stands.{AreHome}
use Rattle.mail_loop.proofs.Runs.{SoSealed}
use Rattle.mail_loop.proofs.serve.serve_each.Given as goal

-- the machine's steps so far, with what was sealed and read in them, and who is logged in is known
abbrev pub invariant-loop : goal.invariant-loop
invariant-loop g l = record {
  served : SoSealed (HaveSealed g.D.Disk.told l.fn.desk l.desk) (λ (steps : List Step). WentThrough g.D.Disk.told steps l.fn.desk l.desk) l.counter (g.L.Link.told l.fn.link) (g.L.Link.told l.link) l.fn.desk.kept (record { kept = l.desk.kept; seats = l.connections.entries });
  home : AreHome l.desk.kept.house l.connections.entries;
  open' : l.desk.closed ≡ false;
}
