use Rattle.std.proofs.Common.{◌∙◌}
use Rattle.mail_rows.proofs.PlaceLaws.{gap_within, put_between}
use Rattle.mail_rows.proofs.rows.insert_row.Goals as goal

pub insert_within-requires-clause-place : goal.insert_within-requires-clause-place
insert_within-requires-clause-place c = gap_within c.args.row.0 c.args.rows.now.items c.args.place c.requires.gap

pub returns-clause-rows : goal.returns-clause-rows
returns-clause-rows c = c.insert_within.ensures.items ∙ put_between c.args.row.0 c.args.rows.now.items c.args.place c.requires.gap c.args.row.1
