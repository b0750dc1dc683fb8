use Rattle.verb_bytes.proofs.Ranges.{delivery_is_spelled}
use Rattle.dialog_laws.proofs.Mailing.{asked_mail, opening_asks}
use Rattle.dialog_laws.proofs.smtp_client.smtp_clients_ask_for_deliveries.Goals as goal

pub returns-clause-deliveries : goal.returns-clause-deliveries
returns-clause-deliveries c = opening_asks c.one_command.ensures

pub returns-clause-spelled : goal.returns-clause-spelled
returns-clause-spelled c house takes from to text number at host timely asked le moment =
    delivery_is_spelled number at from to text le moment (asked_mail c.one_command.ensures house takes from to text host timely asked)
