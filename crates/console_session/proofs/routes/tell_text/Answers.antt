use Rattle.std.proofs.Common.{Err, ap, ◌∙◌}
use Rattle.seal_log.specs.declared.fault.ReadFault.{ReadFault}
use Rattle.desk_journal.specs.Stored.{is_recorded}
use Rattle.console_session.proofs.Turns.{text_not_told, text_told}
use Rattle.console_session.proofs.routes.tell_text.Goals as goal

pub returns-in-Ok-clause-told : goal.returns-in-Ok-clause-told
returns-in-Ok-clause-told g c =
    text_told g.D.Disk.told c.args.body c.in-Ok.found c.args.desk.now c.body.new.self c.tell_found.result c.in-Ok.ensures.found
    (is_recorded c.args.desk.now.kept c.args.desk.now.kept.timeline c.args.body) c.in-Ok.ensures.memory c.in-Ok.ensures.cause.ok c.tell_found.ensures

pub returns-in-Err-clause-told : goal.returns-in-Err-clause-told
returns-in-Err-clause-told g c =
    λ text is. text_not_told g.D.Disk.told c.in-Err.fault (is_recorded c.args.desk.now.kept c.args.desk.now.kept.timeline c.args.body) _ c.args.desk.now c.body.new.self c.tell_unfound.result
    (λ e. c.body.ensures.due (c.in-Err.is ∙ ap (λ (f : ReadFault). Err f) e))
    (λ e. c.body.ensures.cause.disk (c.in-Err.is ∙ ap (λ (f : ReadFault). Err f) e))
    (λ e. c.body.ensures.cause.no_memory (c.in-Err.is ∙ ap (λ (f : ReadFault). Err f) e)) c.tell_unfound.ensures
