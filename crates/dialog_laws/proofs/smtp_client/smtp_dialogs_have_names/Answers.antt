use Rattle.dialog_laws.proofs.Mailing.{opening_mailing, settle_mailing, turn_mail, turn_mailing}
use Rattle.dialog_laws.proofs.smtp_client.smtp_dialogs_have_names.Goals as goal

pub returns-clause-opening : goal.returns-clause-opening
returns-clause-opening c = opening_mailing

pub returns-clause-turn : goal.returns-clause-turn
returns-clause-turn c = turn_mailing c.one_command.ensures

pub returns-clause-settled : goal.returns-clause-settled
returns-clause-settled c = settle_mailing

pub returns-clause-mail : goal.returns-clause-mail
returns-clause-mail c = turn_mail
