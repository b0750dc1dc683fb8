use Rattle.std.proofs.Common.{ℕ, List, inl, inr}
use Rattle.mail_proxy.proofs.Audits.{tells_audit, tells_unaudited}
use Rattle.mail_proxy.proofs.audit.audit_desk.Goals as goal

pub returns-in-Ok-clause-audits : goal.returns-in-Ok-clause-audits
returns-in-Ok-clause-audits g c =
    tells_audit g.D.Disk.told c.args.desk.now c.audit.new.self c.in-Ok.found _ _ c.in-Ok.ensures.cause.ok
    (λ records lie. c.in-Ok.ensures.told records lie.kept lie.state_is lie.held lie.short lie.gate_is) c.tell_truth.ensures

pub returns-in-Err-clause-audits : goal.returns-in-Err-clause-audits
returns-in-Err-clause-audits g c =
    tells_unaudited g.D.Disk.told c.args.desk.now c.audit.new.self c.in-Err.fault _ _ c.in-Err.ensures.cause c.unaudited.ensures
