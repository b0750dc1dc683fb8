use Rattle.std.proofs.Common.{◌≡◌, [], false, true, length}
use Rattle.store_kept.specs.Kept.{store_of}
use Rattle.mail_loop.specs.TurnCounts.{TurnCounts}
use Rattle.mail_loop.specs.Asked.{HaveSealed}
use Rattle.mail_loop.specs.Session.{is_home, session_by}
use Rattle.mail_loop.specs.State.{Seats}
use Rattle.mail_loop.proofs.Stretch.{SoFar}
use Rattle.mail_loop.proofs.Units.{turn_at}
use Rattle.mail_loop.proofs.serves.serve_turns.Given as goal

-- the turns so far, and those of the units that are left
abbrev pub invariant-loop-unit : goal.invariant-loop-unit
invariant-loop-unit g l = record {
  stays : l.reply.closes ≡ false;
  conn : l.reply.conn ≡ l.conn;
  free : g.S.Speaks.speech.is_free l.dialog ≡ true;
  home : is_home g.S.Speaks.speech l.desk.kept.house l.dialog ≡ true;
  current : l.current ≡ true → g.S.Serves.is_current (store_of l.desk.kept) l.dialog ≡ true;
  house : l.desk.kept.house ≡ l.fn.desk.kept.house;
  rest : g.S.Serves.source.rest l.stream ≡ g.S.Serves.source.rest l.fn.stream;
  open' : l.desk.closed ≡ false;
  far : (counts : TurnCounts) × HaveSealed g.D.Disk.told l.fn.desk l.desk [] counts × ((seats : Seats) → SoFar (turn_at (session_by g.S.Speaks.speech (g.S.Serves.takes l.users) g.S.Serves.runs_out_of_memory) l.at l.conn) seats l.fn.desk.kept l.fn.dialog (g.S.Serves.source.units l.fn.stream) l.reply counts l.desk.kept l.dialog (g.S.Serves.source.units l.stream));
}

abbrev pub decreases-loop-unit : goal.decreases-loop-unit
decreases-loop-unit g l = length (g.S.Serves.source.units l.stream)
