use Rattle.std.proofs.Common.{◌≡◌, List, ℕ, subst, sym, ◌∙◌}
use Rattle.std.proofs.lemmas.Result.{err_from_is_err_and}
use Rattle.std.specs.Prelude.{IfOk, IfErr}
use Rattle.verb_bytes.specs.declared.journal.JournalRecord.{JournalRecord}
use Rattle.verb_bytes.specs.Spelling.{Spells}
use Rattle.time_desk.specs.Standing.{Fails, ReadCounts, SpellsNothing}
use Rattle.time_desk.proofs.Standings.{if_err, if_err_from, spells_nothing, unread_counts, unread_spells, whole_range}
use Rattle.time_desk.proofs.start.record_at.Goals as goal

pub returns-clause-read : goal.returns-clause-read
returns-clause-read g c payloads payload holds lies =
    let same : c.in_ok-payload.payload ≡ payload = c.in_ok-payload.ensures.payload payloads payload holds lies ∙ whole_range payload c.args.place.length lies.count_is in
    subst (λ (bytes : List ℕ). IfOk c.decoded_at.result (λ what. Spells what bytes)) same c.decoded_at.ensures.read

pub returns-clause-bad : goal.returns-clause-bad
returns-clause-bad g c payloads payload holds lies =
    let same : c.in_ok-payload.payload ≡ payload = c.in_ok-payload.ensures.payload payloads payload holds lies ∙ whole_range payload c.args.place.length lies.count_is in
    if_err c.decoded_at.result (Fails ((what : JournalRecord) → Spells what payload → ⊥) c.args.place.gate) (SpellsNothing payload c.args.place.gate) (spells_nothing payload c.args.place.gate)
    (subst (λ (bytes : List ℕ). IfErr c.decoded_at.result (Fails ((what : JournalRecord) → Spells what bytes → ⊥) c.args.place.gate)) same c.decoded_at.ensures.bad)

pub returns-in_err-payload-clause-bad : goal.returns-in_err-payload-clause-bad
returns-in_err-payload-clause-bad g c payloads payload holds lies =
    let p = err_from_is_err_and c.from_residual.result c.from_residual.ensures.1 in
    if_err_from c.from_residual.result (SpellsNothing payload c.args.place.gate) p.0 _ p.1 p.2 (unread_spells payload c.args.place.gate c.in_err-payload.field-0.0)

pub returns-in_err-payload-clause-fault : goal.returns-in_err-payload-clause-fault
returns-in_err-payload-clause-fault g c =
    let p = err_from_is_err_and c.from_residual.result c.from_residual.ensures.1 in
    if_err_from c.from_residual.result (ReadCounts (g.D.Disk.told c.args.past.now.disk) (g.D.Disk.told c.read.new.self.disk)) p.0 _ p.1 p.2
    (unread_counts (g.D.Disk.told c.args.past.now.disk) (g.D.Disk.told c.read.new.self.disk) c.in_err-payload.field-0.0 c.in_err-payload.ensures.cause)
