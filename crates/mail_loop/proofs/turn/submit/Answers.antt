use Rattle.std.proofs.Common.{ap, ◌∙◌}
use Rattle.mail_loop.specs.declared.reply.Reply.{Reply}
use Rattle.mail_loop.specs.TurnCounts.{none_counted}
use Rattle.mail_loop.specs.Asked.{HaveSealed}
use Rattle.mail_loop.proofs.Dialogs.{asked_further, asked_turn, asks_further, asks_none, done_concludes, due_if_some, free_if_none, last_after, pursued_concludes, sealed_before, settles_if_none}
use Rattle.mail_loop.proofs.Sealed.{chained_after, still_open}
use Rattle.mail_loop.proofs.Taken.{none_gone_of}
use Rattle.mail_loop.proofs.turn.submit.Goals as goal

pub returns-in-Some-clause-house : goal.returns-in-Some-clause-house
returns-in-Some-clause-house g c = c.ask_desk-last.ensures.house ∙ c.ask_desk-outcome.ensures.house

pub ask_desk-last-requires-clause-user : goal.ask_desk-last-requires-clause-user
ask_desk-last-requires-clause-user g c = (due_if_some g.S.Speaks.speech c.settle-next.new.session c.settle-next.result c.in-Some.further c.in-Some.is c.settle-next.ensures.next).1

pub ask_desk-last-requires-clause-sealed : goal.ask_desk-last-requires-clause-sealed
ask_desk-last-requires-clause-sealed g c =
    let submit = c.ask_desk-outcome in
    let speech = g.S.Speaks.speech in
    let told = g.D.Disk.told in
    let kept = c.args.desk.now.kept in
    let d = c.args.session.now in
    let e = c.settle-next.new.session in
    let asks = asks_further speech submit.result submit.new.desk.kept d submit.new.reply e c.settle-next.new.reply c.settle-next.result c.in-Some.further c.in-Some.is c.settle-next.ensures.settled in
    still_open told c.args.desk.now submit.new.desk none_counted c.requires.sealed
    (sealed_before speech (HaveSealed told c.args.desk.now submit.new.desk) c.args.at kept submit.new.desk.kept (speech.user d) c.args.ask c.in-Some.further d e submit.result c.requires.due submit.ensures.did asks.0)

pub settle-requires-clause-due : goal.settle-requires-clause-due
settle-requires-clause-due g c = (due_if_some g.S.Speaks.speech c.settle-next.new.session c.settle-next.result c.in-Some.further c.in-Some.is c.settle-next.ensures.next).0

pub settle-requires-clause-stays : goal.settle-requires-clause-stays
settle-requires-clause-stays g c =
    let submit = c.ask_desk-outcome in
    let asks = asks_further g.S.Speaks.speech submit.result submit.new.desk.kept c.args.session.now submit.new.reply c.settle-next.new.session c.settle-next.new.reply c.settle-next.result c.in-Some.further c.in-Some.is c.settle-next.ensures.settled in
    ap (λ (r : Reply). r.closes) c.ask_desk-last.ensures.noted ∙ ap (λ (r : Reply). r.closes) asks.1 ∙ ap (λ (r : Reply). r.closes) submit.ensures.noted ∙ c.requires.stays

pub returns-in-None-clause-free : goal.returns-in-None-clause-free
returns-in-None-clause-free g c = free_if_none g.S.Speaks.speech c.settle-next.new.session c.settle-next.result c.in-None.is c.settle-next.ensures.next

pub returns-in-None-clause-turn : goal.returns-in-None-clause-turn
returns-in-None-clause-turn g c =
    let submit = c.ask_desk-outcome in
    let speech = g.S.Speaks.speech in
    let kept = c.args.desk.now.kept in
    let d = c.args.session.now in
    asked_turn speech (HaveSealed g.D.Disk.told c.args.desk.now submit.new.desk) c.args.at kept submit.new.desk.kept c.args.ask d c.settle-next.new.session submit.result
    c.args.reply.now submit.new.reply c.settle-next.new.reply _ (pursued_concludes speech kept d) c.requires.due (none_gone_of kept) submit.ensures.noted submit.ensures.did
    (settles_if_none speech submit.new.desk.kept d c.settle-next.new.session submit.result submit.new.reply c.settle-next.new.reply c.settle-next.result c.in-None.is c.settle-next.ensures.settled)

-- a further ask leads to no other
pub returns-in-Some-clause-free : goal.returns-in-Some-clause-free
returns-in-Some-clause-free g c =
    let submit = c.ask_desk-outcome in
    let last = c.ask_desk-last in
    let new = c.settle.new in
    let speech = g.S.Speaks.speech in
    let d = c.args.session.now in
    let e = c.settle-next.new.session in
    let asks = asks_further speech submit.result submit.new.desk.kept d submit.new.reply e c.settle-next.new.reply c.settle-next.result c.in-Some.further c.in-Some.is c.settle-next.ensures.settled in
    free_if_none speech new.session c.settle.result
    (asks_none speech last.new.desk.kept e new.session last.result last.new.reply new.reply c.settle.result (last_after speech submit.new.desk.kept d e submit.result c.in-Some.further c.requires.due asks.0) c.settle.ensures.settled)
    c.settle.ensures.next

pub returns-in-Some-clause-turn : goal.returns-in-Some-clause-turn
returns-in-Some-clause-turn g c =
    let submit = c.ask_desk-outcome in
    let last = c.ask_desk-last in
    let new = c.settle.new in
    let speech = g.S.Speaks.speech in
    let told = g.D.Disk.told in
    let first = c.args.desk.now in
    let middle = submit.new.desk in
    let d = c.args.session.now in
    let e = c.settle-next.new.session in
    let further = c.in-Some.further in
    let asks = asks_further speech submit.result middle.kept d submit.new.reply e c.settle-next.new.reply c.settle-next.result further c.in-Some.is c.settle-next.ensures.settled in
    let due = (due_if_some speech e c.settle-next.result further c.in-Some.is c.settle-next.ensures.next).0 in
    let none = asks_none speech last.new.desk.kept e new.session last.result last.new.reply new.reply c.settle.result (last_after speech middle.kept d e submit.result further c.requires.due asks.0) c.settle.ensures.settled in
    asked_further speech (HaveSealed told first middle) (HaveSealed told middle last.new.desk) (HaveSealed told first last.new.desk) c.args.at first.kept middle.kept last.new.desk.kept
    c.args.ask further d e new.session submit.result c.args.reply.now c.settle-next.new.reply new.reply c.requires.due
    (λ first_seals failed r more. chained_after told c.seals_join.ensures.then first middle last.new.desk failed r first_seals more)
    (asks.1 ∙ submit.ensures.noted) submit.ensures.did asks.0
    (asked_turn speech (HaveSealed told middle last.new.desk) c.args.at middle.kept last.new.desk.kept further e new.session last.result
    c.settle-next.new.reply last.new.reply new.reply _ (done_concludes speech middle.kept e) due (none_gone_of middle.kept) last.ensures.noted last.ensures.did
    (settles_if_none speech last.new.desk.kept e new.session last.result last.new.reply new.reply c.settle.result none c.settle.ensures.settled))
