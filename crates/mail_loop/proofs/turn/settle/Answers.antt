use Rattle.std.proofs.Common.{Bool, ap, subst, inr}
use Rattle.verb_core.specs.Store.{MailStore}
use Rattle.store_kept.specs.Kept.{store_of}
use Rattle.mail_loop.specs.Session.{took}
use Rattle.mail_loop.specs.Took.{SettlesAgain, is_refused}
use Rattle.mail_loop.proofs.Dialogs.{due_next, settled_over, settles_or_asks, stamps_rise}
use Rattle.mail_loop.proofs.turn.settle.Goals as goal

pub take_outcome-requires-clause-valid : goal.take_outcome-requires-clause-valid
take_outcome-requires-clause-valid g c = c.store.ensures.valid

pub take_outcome-requires-clause-due : goal.take_outcome-requires-clause-due
take_outcome-requires-clause-due g c = c.requires.due

pub returns-in-Ok-clause-home : goal.returns-in-Ok-clause-home
returns-in-Ok-clause-home g c = c.take_outcome.ensures.home c.args.desk.now.kept.house c.requires.home

pub take_outcome-requires-clause-rising : goal.take_outcome-requires-clause-rising
take_outcome-requires-clause-rising g c =
    stamps_rise c.stamps.result.now c.store.result.now.store (store_of c.args.desk.now.kept).boxes c.stamps.ensures.named (ap (λ (s : MailStore). s.boxes) c.store.ensures.value) c.store.ensures.valid.rising

pub returns-in-Ok-clause-next : goal.returns-in-Ok-clause-next
returns-in-Ok-clause-next g c =
    due_next g.S.Speaks.speech c.take_outcome.new.self c.in-Ok.out c.tell.result c.in-Ok.ensures.next c.in-Ok.ensures.user c.tell.ensures.asks

pub returns-in-Ok-clause-settled : goal.returns-in-Ok-clause-settled
returns-in-Ok-clause-settled g c =
    let kept = c.args.desk.now.kept in
    let d = c.args.session.now in
    let e = c.take_outcome.new.self in
    let is = settled_over g.S.Speaks.speech kept c.store.result.now.store c.stamps.result.now d c.args.outcome.now (took c.in-Ok.out e) c.store.ensures.value c.stamps.ensures.value c.in-Ok.ensures.ok in
    settles_or_asks g.S.Speaks.speech c.args.outcome.now kept d e c.in-Ok.out c.args.reply.now c.tell.new.reply c.tell.result
    c.requires.stays is c.in-Ok.ensures.next c.tell.ensures.told c.tell.ensures.asks

pub returns-in-Err-clause-settled : goal.returns-in-Err-clause-settled
returns-in-Err-clause-settled g c =
    let speech = g.S.Speaks.speech in
    let kept = c.args.desk.now.kept in
    let new = c.settle_again.new in
    inr (subst (λ (d : g.row.S.Denot). SettlesAgain speech (is_refused c.args.outcome.now) kept d c.args.reply.now new.session new.reply) c.in-Err.ensures.err
    (subst (λ (b : Bool). SettlesAgain speech b kept c.take_outcome.new.self c.args.reply.now new.session new.reply) c.is_refused.ensures c.settle_again.ensures.settled))
