use Rattle.std.proofs.Common.{◌&&◌, ap, nat_le, refl, subst, sym, ◌∙◌}
use Rattle.std.proofs.lemmas.Result.{err_from_is_err_and}
use Rattle.mail_loop.specs.Asked.{HaveSealed}
use Rattle.verb_core.specs.declared.conf.House.{House}
use Rattle.mail_loop.specs.Did.{is_due_on, unkept_by}
use Rattle.mail_loop.specs.Machine.{Hindrances, IsPassed, answered, unwritten_by}
use Rattle.mail_loop.specs.Acknowledged.{GoesThrough}
use Rattle.mail_loop.specs.Stands.{AreHome, replies_of}
use Rattle.mail_loop.specs.State.{State}
use Rattle.mail_loop.proofs.Sealed.{kept_sealed, open_as, passed_on}
use Rattle.mail_loop.proofs.Courses.{went_alone, went_on}
use Rattle.mail_loop.proofs.Events.{leads_out_of_memory, leads_by, leads_cut, leads_on}
use Rattle.mail_loop.proofs.serve.serve_event.Goals as goal

pub returns-in_err-answer-clause-leads : goal.returns-in_err-answer-clause-leads
returns-in_err-answer-clause-leads g c =
    let told = g.L.Link.told in
    let p = err_from_is_err_and c.from_residual.result c.from_residual.ensures.1 in
    let (b, hs, stage, a) = c.in_err-answer.ensures.answers in
    let disk = g.D.Disk.told in
    let old = c.args.desk.now in
    let new = c.answer_event.new.desk in
    let s : State = record { kept = old.kept; seats = c.args.connections.now.entries } in
    leads_out_of_memory (HaveSealed disk old new) (λ (h : Hindrances). GoesThrough disk s (record { event = c.args.event.now; hindrances = h }) old new) (told c.args.link.now) s c.args.event.now b hs stage new.kept
    c.answer_event.new.connections.entries p.0 c.from_residual.result p.1 a.0.0 a.0.1 a.0.2 c.in_err-answer.ensures.undone a.1 a.2
    (λ ds. went_alone disk c.seals_join.ensures.nothing s (record { event = c.args.event.now; hindrances = record { unfed = b; turns = hs; stage = stage; deliveries = ds; keeping = IsPassed } }) old new (passed_on new) c.requires.sealed a.1 a.0.0)

pub returns-in-Ok-clause-leads : goal.returns-in-Ok-clause-leads
returns-in-Ok-clause-leads g c =
    let told = g.L.Link.told in
    let (b, hs, stage, a) = c.in_ok-answer.ensures.answers in
    let disk = g.D.Disk.told in
    let old = c.args.desk.now in
    let mid = c.answer_event.new.desk in
    let new = c.keep_up.new.desk in
    let s : State = record { kept = old.kept; seats = c.args.connections.now.entries } in
    let made = answered b hs stage s c.args.event.now in
    let (k, keeps) = c.keep_up.ensures.keeps in
    let kept_is = a.0.0 in
    leads_on (HaveSealed disk old new) (HaveSealed disk old mid) (λ (h : Hindrances). GoesThrough disk s (record { event = c.args.event.now; hindrances = h }) old new) (told c.args.link.now) (told c.deliver_all.new.link) s c.args.event.now b hs stage mid.kept new.kept c.deliver_all.new.connections.entries
    c.in_ok-answer.answer.stops k (is_due_on mid)
    (leads_by (HaveSealed disk old mid) (told c.args.link.now) (told c.deliver_all.new.link) s c.args.event.now b hs stage
    mid.kept c.answer_event.new.connections.entries c.deliver_all.new.connections.entries (replies_of c.as_slice.result.now) c.in_ok-answer.answer.stops c.deliver_all.result tt
    a.0.0 a.0.1 (ap replies_of c.as_slice.ensures.value ∙ a.0.2) a.0.3 c.deliver_all.ensures.sends c.in-Ok.is a.1 a.2)
    (λ j. sym (open_as disk old mid made.unsealed made.counts c.requires.sealed a.1) j && nat_le 1024 (sym kept_is j).marks.since)
    keeps.kept_is
    (kept_sealed disk c.seals_join.ensures.then old mid new made.unsealed (unkept_by k mid.kept) made.counts (unwritten_by k) (nat_le 1024 mid.kept.marks.since) c.requires.sealed a.1 keeps.seals keeps.closed)
    (λ ds. went_on disk c.seals_join.ensures.nothing s (record { event = c.args.event.now; hindrances = record { unfed = b; turns = hs; stage = stage; deliveries = ds; keeping = k } }) k old mid new refl c.requires.sealed a.1 kept_is keeps)

pub returns-in-Err-clause-leads : goal.returns-in-Err-clause-leads
returns-in-Err-clause-leads g c =
    let told = g.L.Link.told in
    let (b, hs, stage, a) = c.in_ok-answer.ensures.answers in
    let disk = g.D.Disk.told in
    let old = c.args.desk.now in
    let new = c.answer_event.new.desk in
    let s : State = record { kept = old.kept; seats = c.args.connections.now.entries } in
    leads_cut (HaveSealed disk old new) (λ (h : Hindrances). GoesThrough disk s (record { event = c.args.event.now; hindrances = h }) old new) (told c.args.link.now) (told c.deliver_all.new.link) s c.args.event.now b hs stage
    new.kept c.answer_event.new.connections.entries c.deliver_all.new.connections.entries (replies_of c.as_slice.result.now) c.deliver_all.result _ _
    a.0.0 a.0.1 (ap replies_of c.as_slice.ensures.value ∙ a.0.2) c.deliver_all.ensures.sends c.in-Err.is a.1 a.2
    (λ ds. went_alone disk c.seals_join.ensures.nothing s (record { event = c.args.event.now; hindrances = record { unfed = b; turns = hs; stage = stage; deliveries = ds; keeping = IsPassed } }) old new (passed_on new) c.requires.sealed a.1 a.0.0)

pub returns-in-Ok-clause-home : goal.returns-in-Ok-clause-home
returns-in-Ok-clause-home g c =
    subst (λ (house : House). AreHome house c.deliver_all.new.connections.entries) (sym c.keep_up.ensures.home) (c.deliver_all.ensures.home c.answer_event.new.desk.kept.house c.in_ok-answer.ensures.home)

pub returns-in-Err-clause-home : goal.returns-in-Err-clause-home
returns-in-Err-clause-home g c = c.deliver_all.ensures.home c.answer_event.new.desk.kept.house c.in_ok-answer.ensures.home
