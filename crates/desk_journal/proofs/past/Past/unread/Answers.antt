use Rattle.std.proofs.Common.{sym, subst}
use Rattle.seal_log.specs.Settled.{Holds}
use Rattle.desk_journal.specs.Lasting.{PastTold}
use Rattle.desk_journal.proofs.past.Past.unread.Goals as goal

pub returns-clause-payload : goal.returns-clause-payload
returns-clause-payload g c = λ payloads payload held.
    c.unread.ensures.payload payloads payload (subst (λ (p : PastTold g.row.D.Denot). Holds (g.D.Disk.told p.disk) payloads) (sym c.self.view_is) held)
