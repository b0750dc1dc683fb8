use Rattle.std.proofs.Common.{◌≡◌, ◌≤◌, length, vec_len, vec_capacity}
use Rattle.box_store.specs.Effects.{mail_in}
use Rattle.box_store.proofs.GrowLaws.{ReadyBelow}
use Rattle.box_store.proofs.reserve.reserve_puts.Given as goal

-- the first spare lists are ready
abbrev pub invariant-loop-place : goal.invariant-loop-place
invariant-loop-place l = record {
  rows : l.rows.items ≡ l.fn.rows.items;
  len : vec_len l.rows ≡ vec_len l.fn.rows;
  capacity : vec_capacity l.rows ≡ vec_capacity l.fn.rows;
  count : l.count ≡ mail_in l.puts;
  long : l.place ≤ length l.spares;
  ready : ReadyBelow l.puts l.count l.spares l.fn.rows.items l.place;
}
