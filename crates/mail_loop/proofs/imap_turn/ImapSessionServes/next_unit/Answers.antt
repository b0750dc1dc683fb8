use Rattle.std.proofs.Common.{sym, ◌∙◌}
use Rattle.mail_loop.specs.ImapTurn.{takes}
use Rattle.mail_loop.proofs.Nexts.{next_taken, none_taken, one_wanted}
use Rattle.mail_loop.proofs.imap_turn.ImapSessionServes.next_unit.Goals as goal

pub returns-then-is_not_yet-clause-next : goal.returns-then-is_not_yet-clause-next
returns-then-is_not_yet-clause-next c =
    none_taken c.args.stream.now c.next.new.self c.in_ok-next.next c.in_ok-next.ensures.ok (sym c.is_not_yet.ensures ∙ c.if-is_not_yet.true)

pub returns-clause-next : goal.returns-clause-next
returns-clause-next c =
    next_taken (λ users at kept d next. takes kept d next) c.args.stream.now c.next.new.self c.in_ok-next.next c.in_ok-next.ensures.ok (sym c.is_not_yet.ensures ∙ c.if-is_not_yet.false)

pub returns-in_err-next-clause-err : goal.returns-in_err-next-clause-err
returns-in_err-next-clause-err c = one_wanted c.from_residual.result c.args.stream.now.said
