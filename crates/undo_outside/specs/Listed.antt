-- The calls of an object in memory that are to fail.
use Rattle.std.specs.Prelude.{◌+◌, ◌-◌, ◌^◌, ℕ, min, Contains}
use Rattle.undo_outside.specs.declared.failing.Failing.{Failing}
use Rattle.undo_outside.specs.declared.mem_source.MemSource.{MemSource}
use Rattle.undo_outside.specs.declared.mem_sink.MemSink.{MemSink}
use Rattle.undo_outside.specs.declared.mem_link.MemLink.{MemLink}

-- the ordinal of the next call, from 1; the counter stands still at its end
abbrev pub next_ordinal : Failing → ℕ
next_ordinal f = min (f.calls + 1) (2 ^ 64 - 1)

-- the next call is one of those that are to fail
abbrev pub IsDue : Failing → Type 0
IsDue f = Contains f.ordinals (next_ordinal f)

-- one call more was made
abbrev pub one_more : Failing → Failing
one_more f = record f { calls = next_ordinal f }

-- what is listed for a source, and how many of its reads were made
abbrev pub source_calls : MemSource → Failing
source_calls s = s.failing

-- what is listed for a sink, and how many of its writes were made
abbrev pub sink_calls : MemSink → Failing
sink_calls s = s.failing

-- what is listed for a link, and how many of its calls of `next` and `send` were made
abbrev pub link_calls : MemLink → Failing
link_calls l = l.failing
