use Rattle.std.proofs.Common.{ap}
use Rattle.imap_session.specs.declared.dialog.Dialog.{Dialog}
use Rattle.imap_session.specs.Dialog.{is_view_current}
use Rattle.mail_loop.proofs.imap_turn.answer.Goals as goal

-- a session that is over has no mailbox selected
pub returns-in-Err-clause-view : goal.returns-in-Err-clause-view
returns-in-Err-clause-view c store current = ap (λ (d : Dialog). is_view_current store d) c.close.ensures.over
