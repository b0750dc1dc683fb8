use Rattle.std.proofs.Common.{◌≡◌, ◌∙◌, List, None, OnOk, ℕ, subst}
use Rattle.seal_log.specs.Journal.{LiesAt}
use Rattle.desk_journal.specs.Going.{read_on}
use Rattle.desk_journal.specs.Records.{after_record}
use Rattle.desk_journal.specs.Stored.{AreNoted, TextsHeld}
use Rattle.time_desk.specs.Standing.{FailsPayload, FailsReading}
use Rattle.desk_journal.proofs.Holding.{texts_read}
use Rattle.time_desk.proofs.Performing.{counts_behind}
use Rattle.time_desk.proofs.Standings.{fails_reading, fails_unspelled, if_err, if_ok, on_ok}
use Rattle.time_desk.proofs.start.perform_whole.Goals as goal

pub returns-in-Ok : goal.returns-in-Ok
returns-in-Ok g c =
    let told = g.D.Disk.told in
    let desk = c.args.desk.now in
    let due = after_record desk.kept in
    let what = c.in-Ok.what in
    let gate = c.args.place.gate in
    let still = c.record_at.ensures.still in
    let held : (payloads : List (List ℕ)) → TextsHeld (told c.args.past.now.disk) payloads desk.kept desk.notes desk.marks → TextsHeld (told c.record_at.new.past.disk) payloads desk.kept desk.notes desk.marks =
    λ payloads texts. texts_read (told c.args.past.now.disk) (told c.record_at.new.past.disk) payloads desk.kept desk.notes desk.marks still.reads texts in
    record {
      performed = λ payloads payload texts lies.
          if_ok c.performed.result _ _ (λ x is. record { what = what; spells = c.in-Ok.ensures.read payloads payload texts.held lies; is = is }) (c.performed.ensures.next payloads (held payloads texts));
      bad = λ payloads payload texts lies.
          if_err c.performed.result (FailsReading (due what ≡ None) gate) (FailsPayload due payload gate)
          (λ fault. fails_reading due what payload gate fault (λ other spelled. c.one_spelling.ensures.one_record other what payload spelled (c.in-Ok.ensures.read payloads payload texts.held lies))) (c.performed.ensures.bad payloads (held payloads texts));
      texts = λ payloads payload texts lies.
          c.performed.ensures.texts payloads (held payloads texts) (subst (λ (bytes : List ℕ). LiesAt payloads gate c.args.place.length bytes) (c.in-Ok.ensures.read payloads payload texts.held lies).1 lies);
      noted = subst (λ (n : ℕ). OnOk c.performed.result (AreNoted n c.performed.new.desk)) still.end c.performed.ensures.noted;
      still = read_on told c.args.past.now c.record_at.new.past c.performed.new.past still c.performed.ensures.still;
      ok = on_ok c.performed.result (λ now. now ∙ c.in-Ok.ensures.ok) c.performed.ensures.ok;
      fault = if_err c.performed.result _ _ (λ fault counts. counts_behind (told c.args.past.now.disk) (told c.record_at.new.past.disk) (told c.performed.new.past.disk) fault c.in-Ok.ensures.ok still.reads.reads.reliable counts) c.performed.ensures.fault;
    }

pub returns-in-Err : goal.returns-in-Err
returns-in-Err g c = record {
  performed = λ payloads payload texts lies. tt;
  bad = λ payloads payload texts lies. fails_unspelled (after_record c.args.desk.now.kept) payload c.args.place.gate c.in-Err.fault (c.in-Err.ensures.bad payloads payload texts.held lies);
  texts = λ payloads payload texts lies. tt;
  noted = tt;
  still = c.record_at.ensures.still;
  ok = tt;
  fault = c.in-Err.ensures.fault;
}
