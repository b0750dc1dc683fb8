use Rattle.std.proofs.Common.{◌∙◌}
use Rattle.store_kept.specs.Founding.{is_entry_below}
use Rattle.desk_journal.proofs.Once.{all_entries}
use Rattle.desk_journal.proofs.bases.are_below.Goals as goal

pub returns : goal.returns
returns c = c.rows_are_below.ensures ∙ all_entries (is_entry_below c.args.next) c.args.rows.now
