use Rattle.std.proofs.Common.{◌++◌}
use Rattle.mail_loop.specs.State.{Smtp}
use Rattle.privacy_laws.specs.Senders.{AgreeForMail}
use Rattle.privacy_laws.proofs.Speaking.{sent_same}
use Rattle.privacy_laws.proofs.Replies.{bytes_same}
use Rattle.privacy_laws.proofs.Sending.{line_same}
use Rattle.privacy_laws.proofs.senders.smtp_clients_are_told_of_nobodys_mail.Goals as goal

pub returns-clause-line : goal.returns-clause-line
returns-clause-line c house hindrance at k l others around d line agree = (line_same house k l agree hindrance at others around d line).same

pub returns-clause-event : goal.returns-clause-event
returns-clause-event c house no_memory hs stage at s t conn unserved d bytes here there agree =
    bytes_same conn (AgreeForMail house) hs stage at s t (Smtp unserved d) bytes here there agree (sent_same house hs at s t conn d (unserved ++ bytes) agree) no_memory
