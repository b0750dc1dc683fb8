use Rattle.std.proofs.Common.{ap, refl, Some}
use Rattle.verb_bytes.specs.Spelling.{record_bytes}
use Rattle.time_desk.proofs.Audits.{cause_there}
use Rattle.time_desk.proofs.Standings.{if_ok}
use Rattle.time_desk.proofs.audit.record_there.Goals as goal

pub returns-in-Ok-clause-read : goal.returns-in-Ok-clause-read
returns-in-Ok-clause-read g c payloads what held lies spelled =
    ap Some (c.one_spelling.ensures.one_record c.in-Ok.what what (record_bytes what) (c.in-Ok.ensures.read payloads (record_bytes what) held lies) (spelled, refl))

pub returns-in-Err-clause-read : goal.returns-in-Err-clause-read
returns-in-Err-clause-read g c payloads what held lies spelled =
    if_ok c.none_there.result _ _ (λ found none. absurd (none what (spelled, refl)))
    (c.none_there.ensures.nothing (record_bytes what) c.args.place.gate (c.in-Err.ensures.bad payloads (record_bytes what) held lies))

pub returns-in-Ok-clause-none : goal.returns-in-Ok-clause-none
returns-in-Ok-clause-none g c payloads payload held lies none = absurd (none c.in-Ok.what (c.in-Ok.ensures.read payloads payload held lies))

pub returns-in-Err-clause-cause : goal.returns-in-Err-clause-cause
returns-in-Err-clause-cause g c =
    cause_there (g.D.Disk.told c.args.past.now.disk) (g.D.Disk.told c.record_at.new.past.disk) c.in-Err.fault c.none_there.result c.in-Err.ensures.fault
    c.none_there.ensures.ok c.none_there.ensures.disk c.none_there.ensures.no_memory
