use Rattle.std.proofs.Common.{◌≡◌, ◌∙◌}
use Rattle.verb_bytes.specs.Spelling.{record_bytes}
use Rattle.time_desk.proofs.Standings.{whole_range}
use Rattle.time_desk.proofs.beginning.record_at.Goals as goal

pub returns-in-Ok-clause-found : goal.returns-in-Ok-clause-found
returns-in-Ok-clause-found g c = λ payloads what held spelled lies.
    let same : c.in-Ok.payload ≡ record_bytes what = c.in-Ok.ensures.payload payloads (record_bytes what) held lies ∙ whole_range (record_bytes what) c.args.place.length lies.count_is in
    c.record_of.ensures.found what (spelled, same)
