use Rattle.desk_journal.proofs.Beginnings.{begins_known, begins_unfiltered}
use Rattle.time_desk.proofs.front.begin_anew.Goals as goal

pub new-requires-clause-aliases : goal.new-requires-clause-aliases
new-requires-clause-aliases c = begins_known c.args.house c.args.conf c.requires

pub new-requires-clause-filters : goal.new-requires-clause-filters
new-requires-clause-filters c = begins_unfiltered c.args.house c.args.conf c.requires
