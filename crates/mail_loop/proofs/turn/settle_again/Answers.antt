use Rattle.std.proofs.Common.{Err, ap}
use Rattle.verb_core.specs.declared.ask.Refused.TheVariants.{NoMemory}
use Rattle.verb_core.specs.declared.ask.SubmitFault.TheVariants.{Refused}
use Rattle.verb_core.specs.Store.{MailStore}
use Rattle.store_kept.specs.Kept.{store_of}
use Rattle.mail_loop.specs.Session.{took}
use Rattle.mail_loop.proofs.Dialogs.{again_told, free_undone, settled_over, stamps_rise}
use Rattle.mail_loop.proofs.turn.settle_again.Goals as goal

pub take_outcome-requires-clause-valid : goal.take_outcome-requires-clause-valid
take_outcome-requires-clause-valid g c = c.store.ensures.valid

pub take_outcome-requires-clause-due : goal.take_outcome-requires-clause-due
take_outcome-requires-clause-due g c = c.requires.due

pub returns-in-Ok-clause-home : goal.returns-in-Ok-clause-home
returns-in-Ok-clause-home g c = c.take_outcome.ensures.home c.args.desk.now.kept.house c.requires.home

pub take_outcome-requires-clause-rising : goal.take_outcome-requires-clause-rising
take_outcome-requires-clause-rising g c =
    stamps_rise c.stamps.result.now c.store.result.now.store (store_of c.args.desk.now.kept).boxes c.stamps.ensures.named (ap (λ (s : MailStore). s.boxes) c.store.ensures.value) c.store.ensures.valid.rising

pub returns-in-Ok-clause-free : goal.returns-in-Ok-clause-free
returns-in-Ok-clause-free g c =
    let kept = c.args.desk.now.kept in
    let e = c.take_outcome.new.self in
    let is = settled_over g.S.Speaks.speech kept c.store.result.now.store c.stamps.result.now c.args.session.now (Err (Refused NoMemory)) (took c.in-Ok.out e) c.store.ensures.value c.stamps.ensures.value c.in-Ok.ensures.ok in
    free_undone g.S.Speaks.speech kept c.args.session.now e (Refused NoMemory) c.in-Ok.out c.requires.due is c.in-Ok.ensures.next

pub returns-in-Ok-clause-settled : goal.returns-in-Ok-clause-settled
returns-in-Ok-clause-settled g c =
    let kept = c.args.desk.now.kept in
    let e = c.take_outcome.new.self in
    let is = settled_over g.S.Speaks.speech kept c.store.result.now.store c.stamps.result.now c.args.session.now (Err (Refused NoMemory)) (took c.in-Ok.out e) c.store.ensures.value c.stamps.ensures.value c.in-Ok.ensures.ok in
    again_told g.S.Speaks.speech c.args.was_refused kept c.args.session.now e c.in-Ok.out c.args.reply.now c.tell.new.reply
    c.requires.stays c.if-not-was_refused.false is c.tell.ensures.told
