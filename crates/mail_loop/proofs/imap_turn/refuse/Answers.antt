use Rattle.std.proofs.Common.{◌≡◌, IfOk, Err, ap, refl, subst}
use Rattle.imap_lines.specs.Command.{ReadsCommand}
use Rattle.imap_lines.specs.declared.command.ImapRefused.{ImapRefused}
use Rattle.imap_lines.specs.declared.command.ImapRefused.TheVariants.{NoTag, Unknown, Argument}
use Rattle.imap_session.specs.declared.dialog.Dialog.{Dialog}
use Rattle.imap_session.specs.Dialog.{is_view_current}
use Rattle.imap_session.specs.Words.{unread_text}
use Rattle.mail_loop.specs.Hindrance.{Unheard}
use Rattle.mail_loop.proofs.ImapTurns.{refusal_turn}
use Rattle.mail_loop.proofs.Telling.{closed}
use Rattle.mail_loop.proofs.imap_turn.refuse.Goals as goal

pub returns-in-NoMemory-clause-turn : goal.returns-in-NoMemory-clause-turn
returns-in-NoMemory-clause-turn c at kept reading reads =
    (Unheard, closed kept kept c.close.new.session c.args.reply.now c.close.new.reply refl c.close.ensures.closed)

pub returns-in-NoTag-clause-turn : goal.returns-in-NoTag-clause-turn
returns-in-NoTag-clause-turn c at kept reading reads =
    refusal_turn at kept c.args.session.now c.answer.new.session reading NoTag c.refused.result c.args.reply.now c.answer.new.reply
    (subst (λ (w : ImapRefused). ReadsCommand reading (Err w)) c.in-NoTag.is reads)
    (subst (λ (w : ImapRefused). IfOk c.refused.result (λ t. t ≡ unread_text w)) c.in-NoTag.is c.refused.ensures) c.answer.ensures.answered

pub returns-in-Unknown-clause-turn : goal.returns-in-Unknown-clause-turn
returns-in-Unknown-clause-turn c at kept reading reads =
    let why = Unknown c.in-Unknown.tag in
    let text = c.refused-in-Unknown.result in
    refusal_turn at kept c.args.session.now c.answer-in-Unknown.new.session reading why text c.args.reply.now c.answer-in-Unknown.new.reply
    (subst (λ (w : ImapRefused). ReadsCommand reading (Err w)) c.in-Unknown.is reads)
    (subst (λ (w : ImapRefused). IfOk text (λ t. t ≡ unread_text w)) c.in-Unknown.is c.refused-in-Unknown.ensures) c.answer-in-Unknown.ensures.answered

pub returns-in-Argument-clause-turn : goal.returns-in-Argument-clause-turn
returns-in-Argument-clause-turn c at kept reading reads =
    let why = Argument c.in-Argument.tag in
    let text = c.refused-in-Argument.result in
    refusal_turn at kept c.args.session.now c.answer-in-Argument.new.session reading why text c.args.reply.now c.answer-in-Argument.new.reply
    (subst (λ (w : ImapRefused). ReadsCommand reading (Err w)) c.in-Argument.is reads)
    (subst (λ (w : ImapRefused). IfOk text (λ t. t ≡ unread_text w)) c.in-Argument.is c.refused-in-Argument.ensures) c.answer-in-Argument.ensures.answered

-- a session that is over has no mailbox selected
pub returns-in-NoMemory-clause-view : goal.returns-in-NoMemory-clause-view
returns-in-NoMemory-clause-view c store current = ap (λ (d : Dialog). is_view_current store d) c.close.ensures.over
