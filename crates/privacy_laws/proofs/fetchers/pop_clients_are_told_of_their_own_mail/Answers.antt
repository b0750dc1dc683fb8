use Rattle.privacy_laws.proofs.Maildrops.{line_same}
use Rattle.privacy_laws.proofs.fetchers.pop_clients_are_told_of_their_own_mail.Goals as goal

pub returns : goal.returns
returns c house u hindrance at k l others beside d line agree used mine only = (line_same house u k l agree others beside used hindrance at d line mine only).same
