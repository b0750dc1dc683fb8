use Rattle.std.proofs.Common.{◌≡◌, List, None, OnOk, Option, IfSome, ℕ, subst}
use Rattle.verb_bytes.specs.Spelling.{Spells}
use Rattle.time_desk.specs.declared.heads.HeadOf.{HeadOf}
use Rattle.seal_log.specs.Journal.{LiesAt}
use Rattle.desk_journal.specs.Records.{after_record}
use Rattle.desk_journal.specs.Stored.{AreNoted}
use Rattle.time_desk.specs.Heads.{headed}
use Rattle.time_desk.specs.Standing.{Fails, FailsPayload}
use Rattle.desk_journal.proofs.Holding.{texts_read}
use Rattle.time_desk.proofs.Headed.{fails_headed, unread_payload}
use Rattle.time_desk.proofs.Performing.{counts_none, ok_any, performs_later}
use Rattle.time_desk.proofs.Standings.{if_err, if_ok}
use Rattle.time_desk.proofs.start.perform_unfiltered.Goals as goal

pub returns-in-Ok-Some : goal.returns-in-Ok-Some
returns-in-Ok-Some g c =
    let told = g.D.Disk.told in
    let desk = c.args.desk.now in
    let due = after_record desk.kept in
    let what = headed c.in-Ok-Some.head in
    let gate = c.args.place.gate in
    let still = c.head_at.ensures.still in
    record {
      performed = λ payloads payload texts lies.
          if_ok c.performed_head.result _ _
          (λ x is. record { what = what; spells = subst (λ (o : Option HeadOf). IfSome o (λ head. Spells (headed head) payload)) c.in-Ok-Some.field-0-is (c.in-Ok-Some.ensures.read payloads payload texts.held lies); is = is }) c.performed_head.ensures.next;
      bad = λ payloads payload texts lies.
          let spells : Spells (headed c.in-Ok-Some.head) payload = subst (λ (o : Option HeadOf). IfSome o (λ head. Spells (headed head) payload)) c.in-Ok-Some.field-0-is (c.in-Ok-Some.ensures.read payloads payload texts.held lies) in
          if_err c.performed_head.result (Fails (due what ≡ None) gate) (FailsPayload due payload gate)
          (λ fault. fails_headed due what payload gate fault (λ other spelled. c.one_spelling.ensures.one_record other what payload spelled spells)) c.performed_head.ensures.bad;
      texts = λ payloads payload texts lies.
          let spells : Spells (headed c.in-Ok-Some.head) payload = subst (λ (o : Option HeadOf). IfSome o (λ head. Spells (headed head) payload)) c.in-Ok-Some.field-0-is (c.in-Ok-Some.ensures.read payloads payload texts.held lies) in
          let held = texts_read (told c.args.past.now.disk) (told c.head_at.new.past.disk) payloads desk.kept desk.notes desk.marks still.reads texts in
          c.performed_head.ensures.texts payloads held (subst (λ (bytes : List ℕ). LiesAt payloads gate c.args.place.length bytes) spells.1 lies);
      noted = subst (λ (n : ℕ). OnOk c.performed_head.result (AreNoted n c.performed_head.new.desk)) still.end c.performed_head.ensures.noted;
      still = still;
      ok = ok_any c.performed_head.result c.in-Ok-Some.ensures.ok;
      fault = if_err c.performed_head.result _ _ (λ fault fails. counts_none (told c.args.past.now.disk) (told c.head_at.new.past.disk) (due what ≡ None) gate fault c.in-Ok-Some.ensures.ok fails) c.performed_head.ensures.bad;
    }

pub returns-in-Ok-None : goal.returns-in-Ok-None
returns-in-Ok-None g c =
    performs_later g.D.Disk.told c.args.place c.args.past.now c.head_at.new.past c.perform_whole.new.past c.args.desk.now c.perform_whole.new.desk c.perform_whole.result c.head_at.ensures.still c.in-Ok-None.ensures.ok c.perform_whole.ensures

pub returns-in-Err : goal.returns-in-Err
returns-in-Err g c = record {
  performed = λ payloads payload texts lies. tt;
  bad = λ payloads payload texts lies. unread_payload (after_record c.args.desk.now.kept) payload c.args.place.gate c.in-Err.fault c.in-Err.ensures.bad;
  texts = λ payloads payload texts lies. tt;
  noted = tt;
  still = c.head_at.ensures.still;
  ok = tt;
  fault = c.in-Err.ensures.fault;
}
