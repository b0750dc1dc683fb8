use Rattle.std.proofs.Common.{◌≡◌, ◌∙◌, Some, None, sym, subst, arith}
use Rattle.std.specs.Prelude.{IfOk}
use Rattle.desk_journal.specs.Records.{payloads_of}
use Rattle.desk_journal.proofs.Staying.{holds_on}
use Rattle.time_desk.specs.Auditing.{false_record}
use Rattle.time_desk.proofs.Unread.{some_told}
use Rattle.time_desk.proofs.audit.audit_past.Goals as goal
use Rattle.time_desk.proofs.audit.audit_past.Goals.{then-gate-end, else-gate-end}

pub returns-in-Some-clause-told : goal.returns-in-Some-clause-told
returns-in-Some-clause-told g c records kept is held short end_is =
    let found = c.in_ok-places.ensures.found (payloads_of records) held short end_is in
    let here = holds_on (g.D.Disk.told c.args.past.now.disk) (g.D.Disk.told c.places_of.new.past.disk) (payloads_of records) c.places_of.ensures.still.reads held in
    sym c.in-Some.is ∙ c.in_ok-place.ensures.found records kept is here (c.as_slice.ensures ∙ found.0)

pub returns-clause-told : goal.returns-clause-told
returns-clause-told g c records kept is held short end_is =
    let found = c.in_ok-places.ensures.found (payloads_of records) held short end_is in
    let here = holds_on (g.D.Disk.told c.args.past.now.disk) (g.D.Disk.told c.places_of.new.past.disk) (payloads_of records) c.places_of.ensures.still.reads held in
    let none : None ≡ false_record records = sym c.in-None.is ∙ c.in_ok-place.ensures.found records kept is here (c.as_slice.ensures ∙ found.0) in
    elim c.if-gate-end.branch as (λ _. IfOk c.if-gate-end.result (λ f. f ≡ false_record records)) [
      | then-gate-end w ↦ absurd (omega (arith, w.if-gate-end.true, found.1, c.end.ensures, c.first_false_of.ensures.still.end, c.places_of.ensures.still.end))
      | else-gate-end w ↦ subst (λ r. IfOk r (λ f. f ≡ false_record records)) (sym w.result-is) none
    ]

pub returns-in-Some-clause-unread : goal.returns-in-Some-clause-unread
returns-in-Some-clause-unread g c payloads records u held short end_is =
    let found = c.in_ok-places.ensures.found payloads held short end_is in
    let here = holds_on (g.D.Disk.told c.args.past.now.disk) (g.D.Disk.told c.places_of.new.past.disk) payloads c.places_of.ensures.still.reads held in
    sym c.in-Some.is ∙ c.in_ok-place.ensures.unread payloads records u here (c.as_slice.ensures ∙ found.0)

pub returns-clause-unread : goal.returns-clause-unread
returns-clause-unread g c payloads records u held short end_is =
    let found = c.in_ok-places.ensures.found payloads held short end_is in
    let here = holds_on (g.D.Disk.told c.args.past.now.disk) (g.D.Disk.told c.places_of.new.past.disk) payloads c.places_of.ensures.still.reads held in
    some_told records (sym c.in-None.is ∙ c.in_ok-place.ensures.unread payloads records u here (c.as_slice.ensures ∙ found.0))
