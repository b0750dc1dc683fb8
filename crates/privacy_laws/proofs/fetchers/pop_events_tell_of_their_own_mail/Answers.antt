use Rattle.std.proofs.Common.{◌++◌}
use Rattle.mail_loop.specs.State.{Pop}
use Rattle.privacy_laws.specs.Agreeing.{Agree}
use Rattle.privacy_laws.proofs.Maildrops.{fetched_same}
use Rattle.privacy_laws.proofs.Replies.{bytes_same}
use Rattle.privacy_laws.proofs.fetchers.pop_events_tell_of_their_own_mail.Goals as goal

pub returns : goal.returns
returns c house u no_memory hs stage at s t conn unserved d bytes here there agree used mine only =
    bytes_same conn (Agree house u) hs stage at s t (Pop unserved d) bytes here there agree (fetched_same house u at conn hs s t d (unserved ++ bytes) agree used mine only).same no_memory
