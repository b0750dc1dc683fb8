use Rattle.imap_stream.specs.Commands as imap_stream
use Rattle.mail_loop.specs.State.{Imap}
use Rattle.privacy_laws.specs.Agreeing.{Agree}
use Rattle.privacy_laws.proofs.Events.{heard_same}
use Rattle.privacy_laws.proofs.Replies.{bytes_same}
use Rattle.privacy_laws.proofs.clients.imap_events_tell_of_their_own_mail.Goals as goal

pub returns : goal.returns
returns c house u no_memory hs stage at s t conn stream d bytes here there agree mine only =
    bytes_same conn (Agree house u) hs stage at s t (Imap stream d) bytes here there agree (heard_same house u at conn hs s t d (imap_stream.heard stream bytes) agree mine only).same no_memory
