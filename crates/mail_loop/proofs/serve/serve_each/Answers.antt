use Rattle.std.proofs.Common.{Err, Ok, List, [], None, false, inr, refl, ap, sym, ◌∙◌, subst}
use Rattle.undo_outside.specs.declared.fault.Fault.{Fault}
use Rattle.undo_outside.specs.Calls.{Comes}
use Rattle.mail_loop.specs.Asked.{HaveSealed}
use Rattle.mail_loop.specs.State.{State, Seats}
use Rattle.mail_loop.specs.Serving.{Step, is_disk}
use Rattle.mail_loop.specs.Acknowledged.{GoesThrough, WentThrough}
use Rattle.mail_loop.specs.Did.{is_due_on}
use Rattle.mail_loop.specs.Machine.{Hindrances, is_end}
use Rattle.mail_loop.specs.Stands.{AreHome}
use Rattle.mail_loop.proofs.Courses.{ends_disk, none_through, one_more, went_end}
use Rattle.mail_loop.proofs.Events.{leads_end, no_end}
use Rattle.mail_loop.proofs.Seats.{none_home}
use Rattle.mail_loop.proofs.Sealed.{all_sealed, chained, is_due_on_open, some_unsealed, unsealed}
use Rattle.mail_loop.proofs.Runs.{so_served_none, so_more, so_ended, so_failed, so_out_of_memory, so_stopped, so_unfed, so_unlinked}
use Rattle.mail_loop.proofs.serve.serve_each.Goals as goal

pub loop-init : goal.loop-init
loop-init g c = record {
  served = so_served_none (HaveSealed g.D.Disk.told c.args.desk.now c.args.desk.now) (λ (l : List Step). WentThrough g.D.Disk.told l c.args.desk.now c.args.desk.now) (g.L.Link.told c.args.link.now) c.args.desk.now.kept c.new-connections.result.entries c.new-connections.ensures.empty
      (unsealed g.D.Disk.told c.seals_join.ensures.nothing c.args.desk.now) (none_through g.D.Disk.told c.args.desk.now);
  home = subst (λ (es : Seats). AreHome c.args.desk.now.kept.house es) (sym c.new-connections.ensures.empty) (none_home c.args.desk.now.kept.house);
  open' = c.requires.sealed;
}

pub returns-in-End-clause-serves : goal.returns-in-End-clause-serves
returns-in-End-clause-serves g c =
    let told = g.L.Link.told in
    let disk = g.D.Disk.told in
    let first = c.args.desk.now in
    let l = c.loop in
    let new = c.end_serving.new.desk in
    let event = c.in-Ok.event in
    let s : State = record { kept = l.desk.kept; seats = l.connections.entries } in
    let (k, keeps) = c.end_serving.ensures.keeps in
    let ends = ap is_end c.in-End.is in
    let due = is_due_on_open disk l.desk l.invariant.open' in
    so_ended (HaveSealed disk first l.desk) (HaveSealed disk l.desk new) (HaveSealed disk first new) (λ (q : List Step). WentThrough disk q first l.desk)
    (λ (h : Hindrances). GoesThrough disk s (record { event = event; hindrances = h }) l.desk new) (λ (q : List Step). WentThrough disk q first new)
    l.counter c.args.turns (told c.args.link.now) (told l.link) (told c.next.new.self) first.kept new.kept s event new.closed c.end_serving.result
    l.invariant.served c.loop-test.true c.in-Ok.ensures ends
    (leads_end (HaveSealed disk l.desk new) (HaveSealed disk l.desk l.desk) (λ (h : Hindrances). GoesThrough disk s (record { event = event; hindrances = h }) l.desk new) (told c.next.new.self) s event new.kept k (is_due_on l.desk)
    ends due keeps.kept_is keeps.seals (unsealed disk c.seals_join.ensures.nothing l.desk)
    (λ ds. went_end disk c.seals_join.ensures.nothing s event ends (record { unfed = false; turns = []; stage = Ok None; deliveries = ds; keeping = k }) refl refl refl k refl l.desk new l.invariant.open' refl keeps))
    c.end_serving.ensures.ends
    (λ open' failed counts seals. all_sealed disk l.desk new failed counts l.invariant.open' open' seals)
    (λ shut failed counts seals. some_unsealed disk l.desk new failed counts l.invariant.open' shut seals)
    (chained disk c.seals_join.ensures.then first l.desk new)
    (λ steps h through is kept went. one_more disk first l.desk new s event steps h through is kept went)

pub returns-in-End-clause-closed : goal.returns-in-End-clause-closed
returns-in-End-clause-closed g c = sym (ap is_disk c.end_serving.ensures.ends ∙ ends_disk c.end_serving.new.desk.closed)

pub returns-then-closed-clause-serves : goal.returns-then-closed-clause-serves
returns-then-closed-clause-serves g c =
    let told = g.L.Link.told in
    let disk = g.D.Disk.told in
    let l = c.loop in
    let sent = c.serve_event-sent in
    let new = sent.new in
    so_failed (HaveSealed disk c.args.desk.now l.desk) (HaveSealed disk l.desk new.desk) (HaveSealed disk c.args.desk.now new.desk) (λ (q : List Step). WentThrough disk q c.args.desk.now l.desk)
    (λ (h : Hindrances). GoesThrough disk (record { kept = l.desk.kept; seats = l.connections.entries }) (record { event = c.in-Ok.event; hindrances = h }) l.desk new.desk) (λ (q : List Step). WentThrough disk q c.args.desk.now new.desk) l.counter c.args.turns (told c.args.link.now) (told l.link) (told c.next.new.self) (told new.link) c.args.desk.now.kept
    new.desk.kept (record { kept = l.desk.kept; seats = l.connections.entries }) new.connections.entries c.in-Ok.event sent.result l.invariant.served c.loop-test.true c.in-Ok.ensures
    sent.ensures.leads
    (λ failed counts seals. some_unsealed disk l.desk new.desk failed counts l.invariant.open' (sym c.closed.ensures ∙ c.if-closed.true) seals)
    (chained disk c.seals_join.ensures.then c.args.desk.now l.desk new.desk)
    (λ steps h through is kept went. one_more disk c.args.desk.now l.desk new.desk (record { kept = l.desk.kept; seats = l.connections.entries }) c.in-Ok.event steps h through is kept went)

pub returns-in-Err-clause-serves : goal.returns-in-Err-clause-serves
returns-in-Err-clause-serves g c =
    let told = g.L.Link.told in
    let disk = g.D.Disk.told in
    let l = c.loop in
    let sent = c.serve_event-sent in
    let new = sent.new in
    so_out_of_memory (HaveSealed disk c.args.desk.now l.desk) (HaveSealed disk l.desk new.desk) (HaveSealed disk c.args.desk.now new.desk) (λ (q : List Step). WentThrough disk q c.args.desk.now l.desk)
    (λ (h : Hindrances). GoesThrough disk (record { kept = l.desk.kept; seats = l.connections.entries }) (record { event = c.in-Ok.event; hindrances = h }) l.desk new.desk) (λ (q : List Step). WentThrough disk q c.args.desk.now new.desk) l.counter c.args.turns (told c.args.link.now) (told l.link) (told c.next.new.self) (told new.link) c.args.desk.now.kept
    new.desk.kept (record { kept = l.desk.kept; seats = l.connections.entries }) new.connections.entries c.in-Ok.event sent.result _ l.invariant.served c.loop-test.true c.in-Ok.ensures
    (no_end c.in-Ok.event.what c.in_default.not-End) sent.ensures.leads c.in-Err.is
    (λ failed counts seals. all_sealed disk l.desk new.desk failed counts l.invariant.open' (sym c.closed.ensures ∙ c.if-closed.false) seals)
    (chained disk c.seals_join.ensures.then c.args.desk.now l.desk new.desk)
    (λ steps h through is kept went. one_more disk c.args.desk.now l.desk new.desk (record { kept = l.desk.kept; seats = l.connections.entries }) c.in-Ok.event steps h through is kept went)

pub returns-then-stops-clause-serves : goal.returns-then-stops-clause-serves
returns-then-stops-clause-serves g c =
    let told = g.L.Link.told in
    let disk = g.D.Disk.told in
    let l = c.loop in
    let sent = c.serve_event-sent in
    let new = sent.new in
    so_stopped (HaveSealed disk c.args.desk.now l.desk) (HaveSealed disk l.desk new.desk) (HaveSealed disk c.args.desk.now new.desk) (λ (q : List Step). WentThrough disk q c.args.desk.now l.desk)
    (λ (h : Hindrances). GoesThrough disk (record { kept = l.desk.kept; seats = l.connections.entries }) (record { event = c.in-Ok.event; hindrances = h }) l.desk new.desk) (λ (q : List Step). WentThrough disk q c.args.desk.now new.desk) l.counter c.args.turns (told c.args.link.now) (told l.link) (told c.next.new.self) (told new.link) c.args.desk.now.kept
    new.desk.kept (record { kept = l.desk.kept; seats = l.connections.entries }) new.connections.entries c.in-Ok.event sent.result c.in-Ok-sent.stops l.invariant.served c.loop-test.true c.in-Ok.ensures
    (inr (no_end c.in-Ok.event.what c.in_default.not-End, c.if-stops.true)) sent.ensures.leads c.in-Ok-sent.is
    (λ failed counts seals. all_sealed disk l.desk new.desk failed counts l.invariant.open' (sym c.closed.ensures ∙ c.if-closed.false) seals)
    (chained disk c.seals_join.ensures.then c.args.desk.now l.desk new.desk)
    (λ steps h through is kept went. one_more disk c.args.desk.now l.desk new.desk (record { kept = l.desk.kept; seats = l.connections.entries }) c.in-Ok.event steps h through is kept went)

pub loop-preserved : goal.loop-preserved
loop-preserved g c =
    let told = g.L.Link.told in
    let disk = g.D.Disk.told in
    let l = c.loop in
    let sent = c.serve_event-sent in
    let new = sent.new in
    let s : State = record { kept = l.desk.kept; seats = l.connections.entries } in
    record {
      served = so_more (HaveSealed disk c.args.desk.now l.desk) (HaveSealed disk l.desk new.desk) (HaveSealed disk c.args.desk.now new.desk) (λ (q : List Step). WentThrough disk q c.args.desk.now l.desk)
          (λ (h : Hindrances). GoesThrough disk (record { kept = l.desk.kept; seats = l.connections.entries }) (record { event = c.in-Ok.event; hindrances = h }) l.desk new.desk) (λ (q : List Step). WentThrough disk q c.args.desk.now new.desk) l.counter (told c.args.link.now) (told l.link) (told c.next.new.self) (told new.link) c.args.desk.now.kept
          new.desk.kept s new.connections.entries c.in-Ok.event sent.result c.in-Ok-sent.stops
          l.invariant.served c.in-Ok.ensures (no_end c.in-Ok.event.what c.in_default.not-End) sent.ensures.leads c.in-Ok-sent.is c.if-stops.false
          (λ failed counts seals. all_sealed disk l.desk new.desk failed counts l.invariant.open' (sym c.closed.ensures ∙ c.if-closed.false) seals)
          (chained disk c.seals_join.ensures.then c.args.desk.now l.desk new.desk)
          (λ steps h through is kept went. one_more disk c.args.desk.now l.desk new.desk (record { kept = l.desk.kept; seats = l.connections.entries }) c.in-Ok.event steps h through is kept went);
      home = sent.ensures.home;
      open' = sym c.closed.ensures ∙ c.if-closed.false;
    }

pub returns-in-Err-Failed-clause-serves : goal.returns-in-Err-Failed-clause-serves
returns-in-Err-Failed-clause-serves g c =
    let told = g.L.Link.told in
    let l = c.loop in
    let came = subst (λ (f : Fault). Comes (told l.link) (told c.next.new.self) (Err f)) c.in-Err-Failed.field-0-is c.in-Err-Failed.ensures in
    so_unlinked (HaveSealed g.D.Disk.told c.args.desk.now l.desk) (λ (q : List Step). WentThrough g.D.Disk.told q c.args.desk.now l.desk) l.counter c.args.turns (told c.args.link.now) (told l.link) (told c.next.new.self) c.args.desk.now.kept
    (record { kept = l.desk.kept; seats = l.connections.entries }) l.invariant.served c.loop-test.true came

pub returns-in-Err-NoMemory-clause-serves : goal.returns-in-Err-NoMemory-clause-serves
returns-in-Err-NoMemory-clause-serves g c =
    let told = g.L.Link.told in
    let l = c.loop in
    let came = subst (λ (f : Fault). Comes (told l.link) (told c.next.new.self) (Err f)) c.in-Err-NoMemory.field-0-is c.in-Err-NoMemory.ensures in
    so_unfed (HaveSealed g.D.Disk.told c.args.desk.now l.desk) (λ (q : List Step). WentThrough g.D.Disk.told q c.args.desk.now l.desk) l.counter c.args.turns (told c.args.link.now) (told l.link) (told c.next.new.self) c.args.desk.now.kept
    (record { kept = l.desk.kept; seats = l.connections.entries }) l.invariant.served c.loop-test.true came
