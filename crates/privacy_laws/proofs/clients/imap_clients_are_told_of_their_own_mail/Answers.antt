use Rattle.imap_stream.specs.Commands as imap_stream
use Rattle.privacy_laws.proofs.Events.{heard_same}
use Rattle.privacy_laws.proofs.clients.imap_clients_are_told_of_their_own_mail.Goals as goal

pub returns : goal.returns
returns c house u hs stage at s t conn stream d bytes agree mine only = (heard_same house u at conn hs s t d (imap_stream.heard stream bytes) agree mine only).same
