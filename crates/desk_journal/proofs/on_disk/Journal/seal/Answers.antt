use Rattle.std.proofs.Common.{rules}
use Rattle.desk_journal.proofs.on_disk.Journal.seal.Goals as goal

pub returns-in-Err : goal.returns-in-Err
returns-in-Err g c = record {
  ok = search rules;
  failed = search rules;
  no_memory = search rules;
  never = search rules;
  still_open = search rules;
  open_again = search rules;
  closes = search rules;
  next = search rules;
  err = search rules;
  held = search rules;
  reads = search rules;
  wants = search rules;
}
