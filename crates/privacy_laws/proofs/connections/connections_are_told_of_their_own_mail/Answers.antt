use Rattle.privacy_laws.specs.Agreeing.{Agree}
use Rattle.privacy_laws.proofs.Speaking.{seat_same}
use Rattle.privacy_laws.proofs.Replies.{bytes_same}
use Rattle.privacy_laws.proofs.connections.connections_are_told_of_their_own_mail.Goals as goal

pub returns : goal.returns
returns c house u no_memory hs stage at s t conn seat bytes here there agree mine only used =
    bytes_same conn (Agree house u) hs stage at s t seat bytes here there agree (seat_same house u hs stage at s t conn seat bytes agree mine only used).same no_memory
