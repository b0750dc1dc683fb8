use Rattle.std.proofs.Common.{◌≡◌, List, Option, Some, IfSome, false, ℕ, subst}
use Rattle.verb_bytes.specs.Spelling.{Spells}
use Rattle.seal_log.specs.Journal.{LiesAt}
use Rattle.time_desk.specs.declared.heads.HeadOf.{HeadOf}
use Rattle.time_desk.specs.Fronts.{FailsFront, fore_in}
use Rattle.time_desk.specs.Heads.{headed}
use Rattle.time_desk.specs.Opening.{fits}
use Rattle.time_desk.specs.Standing.{Fails}
use Rattle.time_desk.proofs.Fronts.{front_spelled}
use Rattle.time_desk.proofs.Headed.{unread_front}
use Rattle.time_desk.proofs.Performing.{counts_none, goes_later, ok_any}
use Rattle.time_desk.proofs.Standings.{if_err, if_ok}
use Rattle.time_desk.proofs.front.go_on_at.Goals as goal

pub returns-else-is_looked_at : goal.returns-else-is_looked_at
returns-else-is_looked_at g c =
    let told = g.D.Disk.told in
    let fore = fore_in c.args.founding.now in
    let what = headed c.in-Ok-Some.head in
    let gate = c.args.place.gate in
    record {
      goes = λ payloads payload holds lies.
          if_ok c.go_with_head.result _ _
          (λ went is. record { what = what; spells = subst (λ (o : Option HeadOf). IfSome o (λ head. Spells (headed head) payload)) c.in-Ok-Some.field-0-is (c.in-Ok-Some.ensures.read payloads payload holds lies); is = is }) c.go_with_head.ensures.goes;
      bad = λ payloads payload holds lies.
          let spells : Spells (headed c.in-Ok-Some.head) payload = subst (λ (o : Option HeadOf). IfSome o (λ head. Spells (headed head) payload)) c.in-Ok-Some.field-0-is (c.in-Ok-Some.ensures.read payloads payload holds lies) in
          if_err c.go_with_head.result (Fails (fits (Some fore) what ≡ false) gate) (FailsFront (Some fore) payload gate)
          (λ fault. front_spelled (Some fore) what payload gate fault (λ other spelled. c.one_spelling.ensures.one_record other what payload spelled spells)) c.go_with_head.ensures.bad;
      noted = c.go_with_head.ensures.noted c.args.past.now.end c.requires.place c.requires.noted;
      grounded = c.go_with_head.ensures.grounded;
      stored = λ payloads payload holds lies stored.
          let spells : Spells (headed c.in-Ok-Some.head) payload = subst (λ (o : Option HeadOf). IfSome o (λ head. Spells (headed head) payload)) c.in-Ok-Some.field-0-is (c.in-Ok-Some.ensures.read payloads payload holds lies) in
          c.go_with_head.ensures.stored payloads (subst (λ (bytes : List ℕ). LiesAt payloads gate c.args.place.length bytes) spells.1 lies) stored;
      still = c.head_at.ensures.still;
      ok = ok_any c.go_with_head.result c.in-Ok-Some.ensures.ok;
      fault = if_err c.go_with_head.result _ _ (λ fault fails. counts_none (told c.args.past.now.disk) (told c.head_at.new.past.disk) (fits (Some fore) what ≡ false) gate fault c.in-Ok-Some.ensures.ok fails) c.go_with_head.ensures.bad;
    }

pub returns-then-is_looked_at : goal.returns-then-is_looked_at
returns-then-is_looked_at g c =
    goes_later g.D.Disk.told c.args.place c.args.past.now c.head_at.new.past c.go_on_whole.new.past c.args.founding.now c.go_on_whole.new.founding c.go_on_whole.result c.head_at.ensures.still c.in-Ok-Some.ensures.ok c.go_on_whole.ensures

pub returns-in-Ok-None : goal.returns-in-Ok-None
returns-in-Ok-None g c =
    goes_later g.D.Disk.told c.args.place c.args.past.now c.head_at.new.past c.go_on_whole-in-Ok-None.new.past c.args.founding.now c.go_on_whole-in-Ok-None.new.founding c.go_on_whole-in-Ok-None.result c.head_at.ensures.still c.in-Ok-None.ensures.ok c.go_on_whole-in-Ok-None.ensures

pub returns-in-Err : goal.returns-in-Err
returns-in-Err g c = record {
  goes = λ payloads payload holds lies. tt;
  bad = λ payloads payload holds lies. unread_front (Some (fore_in c.args.founding.now)) payload c.args.place.gate c.in-Err.fault c.in-Err.ensures.bad;
  noted = tt;
  grounded = tt;
  stored = λ payloads payload holds lies stored. tt;
  still = c.head_at.ensures.still;
  ok = tt;
  fault = c.in-Err.ensures.fault;
}
