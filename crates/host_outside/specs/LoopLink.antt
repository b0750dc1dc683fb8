-- What the link over sockets tells.
use Rattle.std.specs.Prelude.{false, None}
use Rattle.undo_outside.specs.Calls.{LinkTold}
use Rattle.host_outside.specs.declared.loop_link.LoopLink.{LoopLink}

-- its counts, and nothing of its log
abbrev pub told_by : {R L S : Type 0} → LoopLink R L S → LinkTold
told_by link = record {
  log = None;
  coming = None;
  faults = link.faults;
  failed_last = link.failed_last;
  missed = link.missed;
  out_of_memory = link.out_of_memory;
  out_of_memory_last = link.out_of_memory_last;
  is_reliable = false;
}
