use Rattle.std.proofs.Common.{◌≡◌, List, OnOk, Some, false, ℕ, subst}
use Rattle.seal_log.specs.Journal.{LiesAt}
use Rattle.time_desk.specs.Fronts.{FailsFront, FoundNoted, fore_in}
use Rattle.time_desk.specs.Opening.{fits}
use Rattle.time_desk.specs.Standing.{Fails}
use Rattle.time_desk.proofs.Fronts.{front_spelled, front_unspelled}
use Rattle.time_desk.proofs.Performing.{counts_none, ok_any}
use Rattle.time_desk.proofs.Standings.{if_err, if_ok}
use Rattle.time_desk.proofs.front.go_on_whole.Goals as goal

pub returns-in-Ok : goal.returns-in-Ok
returns-in-Ok g c =
    let told = g.D.Disk.told in
    let fore = fore_in c.args.founding.now in
    let what = c.in-Ok.what in
    let gate = c.args.place.gate in
    record {
      goes = λ payloads payload holds lies.
          if_ok c.go_with.result _ _ (λ went is. record { what = what; spells = c.in-Ok.ensures.read payloads payload holds lies; is = is }) c.go_with.ensures.goes;
      bad = λ payloads payload holds lies.
          if_err c.go_with.result (Fails (fits (Some fore) what ≡ false) gate) (FailsFront (Some fore) payload gate)
          (λ fault. front_spelled (Some fore) what payload gate fault (λ other spelled. c.one_spelling.ensures.one_record other what payload spelled (c.in-Ok.ensures.read payloads payload holds lies))) c.go_with.ensures.bad;
      noted = c.go_with.ensures.noted c.args.past.now.end c.requires.place c.requires.noted;
      grounded = c.go_with.ensures.grounded;
      stored = λ payloads payload holds lies stored.
          c.go_with.ensures.stored payloads (subst (λ (bytes : List ℕ). LiesAt payloads gate c.args.place.length bytes) (c.in-Ok.ensures.read payloads payload holds lies).1 lies) stored;
      still = c.record_at.ensures.still;
      ok = ok_any c.go_with.result c.in-Ok.ensures.ok;
      fault = if_err c.go_with.result _ _ (λ fault fails. counts_none (told c.args.past.now.disk) (told c.record_at.new.past.disk) (fits (Some fore) what ≡ false) gate fault c.in-Ok.ensures.ok fails) c.go_with.ensures.bad;
    }

pub returns-in-Err : goal.returns-in-Err
returns-in-Err g c = record {
  goes = λ payloads payload holds lies. tt;
  bad = λ payloads payload holds lies. front_unspelled (Some (fore_in c.args.founding.now)) payload c.args.place.gate c.in-Err.fault (c.in-Err.ensures.bad payloads payload holds lies);
  noted = tt;
  grounded = tt;
  stored = λ payloads payload holds lies stored. tt;
  still = c.record_at.ensures.still;
  ok = tt;
  fault = c.in-Err.ensures.fault;
}
