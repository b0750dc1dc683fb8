use Rattle.imap_stream.proofs.OneWay.{one_way}
use Rattle.imap_stream.proofs.Splitting.{read_so}
use Rattle.imap_stream.proofs.Telling.{read_only}
use Rattle.imap_stream.proofs.laws.one_reading.Goals as goal

pub returns-clause-reading : goal.returns-clause-reading
returns-clause-reading c = read_so

pub returns-clause-only : goal.returns-clause-only
returns-clause-only c = read_only

pub returns-clause-one_way : goal.returns-clause-one_way
returns-clause-one_way c = one_way
