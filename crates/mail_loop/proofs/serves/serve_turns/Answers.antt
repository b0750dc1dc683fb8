use Rattle.std.proofs.Common.{◌≡◌, List, [], true, true≢false, None, Some, ap, sym, ◌∙◌, subst, refl}
use Rattle.store_kept.specs.Kept.{store_of}
use Rattle.mail_loop.specs.declared.reply.Reply.{Reply}
use Rattle.mail_loop.specs.TurnCounts.{both_counted, none_counted}
use Rattle.mail_loop.specs.Asked.{HaveSealed}
use Rattle.mail_loop.specs.Session.{session_by}
use Rattle.mail_loop.specs.State.{beside}
use Rattle.mail_loop.proofs.Sealed.{chained, none_unsealed, still_open, unsealed}
use Rattle.mail_loop.proofs.Stretch.{SoFar, all_served, closed_after, quiet_units, seat_goes, seat_stays, so_far_more, so_far_none, told_by, unheard}
use Rattle.mail_loop.proofs.Units.{turn_at}
use Rattle.mail_loop.proofs.serves.serve_turns.Goals as goal

pub loop-unit-init : goal.loop-unit-init
loop-unit-init g c =
    let reply = c.empty_reply-reply in
    let one = turn_at (session_by g.S.Speaks.speech (g.S.Serves.takes c.args.users.now) g.S.Serves.runs_out_of_memory) c.args.at c.args.conn in
    record {
      stays = ap (λ (r : Reply). r.closes) reply.ensures;
      conn = ap (λ (r : Reply). r.conn) reply.ensures;
      free = c.requires.free;
      home = c.requires.home;
      current = λ h. absurd {A = g.S.Serves.is_current (store_of c.args.desk.now.kept) c.args.dialog.now ≡ true} (true≢false (sym h));
      house = refl;
      rest = refl;
      open' = c.requires.sealed;
      far = (none_counted, unsealed g.D.Disk.told c.seals_join.ensures.nothing c.args.desk.now, λ seats. so_far_none one seats c.args.desk.now.kept c.args.dialog.now (g.S.Serves.source.units c.args.stream.now) c.args.conn reply.result reply.ensures);
    }

pub returns-in-Ok-None-clause-turns : goal.returns-in-Ok-None-clause-turns
returns-in-Ok-None-clause-turns g c seats =
    let l = c.loop-unit in
    let source = g.S.Serves.source in
    let one = turn_at (session_by g.S.Speaks.speech (g.S.Serves.takes c.args.users.now) g.S.Serves.runs_out_of_memory) c.args.at c.args.conn in
    let stream = c.args.stream.now in
    let kept = c.args.desk.now.kept in
    let d = c.args.dialog.now in
    let none = rw c.in-Ok-None.field-0-is at c.in-Ok-None.ensures.next in
    told_by one (source.seat (source.rest stream)) seats kept d (source.units stream) c.args.conn l.reply l.desk.kept [] l.invariant.far.0 (source.seat c.next_unit.new.stream l.dialog) (Some l.dialog)
    (HaveSealed g.D.Disk.told c.args.desk.now l.desk) l.invariant.conn
    (all_served one seats kept d (source.units stream) l.reply l.invariant.far.0 l.desk.kept l.dialog (source.units l.stream) (l.invariant.far.2 seats)
    (quiet_units g.S.Speaks.speech g.S.Serves.takes g.S.Serves.runs_out_of_memory c.args.users.now c.args.at c.args.conn seats l.desk.kept l.dialog (source.units l.stream) none.0))
    (seat_stays l.reply.closes (source.seat (source.rest stream) l.dialog) (source.seat c.next_unit.new.stream l.dialog) l.invariant.stays
    (ap (λ r. source.seat r l.dialog) (sym l.invariant.rest ∙ none.1)))
    l.invariant.far.1

pub returns-in-Err-clause-turns : goal.returns-in-Err-clause-turns
returns-in-Err-clause-turns g c seats =
    let l = c.loop-unit in
    let source = g.S.Serves.source in
    let one = turn_at (session_by g.S.Speaks.speech (g.S.Serves.takes c.args.users.now) g.S.Serves.runs_out_of_memory) c.args.at c.args.conn in
    let stream = c.args.stream.now in
    let kept = c.args.desk.now.kept in
    let d = c.args.dialog.now in
    told_by one (source.seat (source.rest stream)) seats kept d (source.units stream) c.args.conn (record { conn = l.reply.conn; said = l.reply.said; closes = true; gone = l.reply.gone }) l.desk.kept [] l.invariant.far.0
    (source.seat c.next_unit.new.stream l.dialog) None (HaveSealed g.D.Disk.told c.args.desk.now l.desk) l.invariant.conn
    (unheard one seats kept d (source.units stream) l.reply l.invariant.far.0 l.desk.kept l.dialog (source.units l.stream) (l.invariant.far.2 seats) c.in-Err.ensures.err (λ u. refl))
    refl
    l.invariant.far.1

pub returns-then-reply-clause-turns : goal.returns-then-reply-clause-turns
returns-then-reply-clause-turns g c seats =
    let l = c.loop-unit in
    let source = g.S.Serves.source in
    let one = turn_at (session_by g.S.Speaks.speech (g.S.Serves.takes c.args.users.now) g.S.Serves.runs_out_of_memory) c.args.at c.args.conn in
    let stream = c.args.stream.now in
    let kept = c.args.desk.now.kept in
    let d = c.args.dialog.now in
    let unit = c.in-Ok-Some.unit in
    let takes = rw c.in-Ok-Some.field-0-is at c.in-Ok-Some.ensures.next in
    let turn = c.take_unit.ensures.turn in
    let new = c.take_unit.new in
    let told = g.D.Disk.told in
    let last = one [] turn.0 l.desk.kept l.dialog unit in
    told_by one (source.seat (source.rest stream)) seats kept d (source.units stream) c.args.conn new.reply new.desk.kept last.unsealed (both_counted l.invariant.far.0 last.counts) (source.seat c.next_unit.new.stream new.self) None
    (HaveSealed told c.args.desk.now new.desk) ((turn.1 []).conn ∙ l.invariant.conn)
    (closed_after (HaveSealed told l.desk new.desk) one seats kept d (source.units stream) l.desk.kept l.dialog unit (source.units c.next_unit.new.stream) new.desk.kept new.self l.reply new.reply l.invariant.far.0
    (subst (λ us. SoFar one seats kept d (source.units stream) l.reply l.invariant.far.0 l.desk.kept l.dialog us) takes.0 (l.invariant.far.2 seats))
    turn.0 (turn.1 (beside c.args.conn seats)) c.if-reply.true)
    (seat_goes new.reply.closes (source.seat c.next_unit.new.stream new.self) c.if-reply.true)
    (chained told c.seals_join.ensures.then c.args.desk.now l.desk new.desk last.unsealed l.invariant.far.0 last.counts l.invariant.far.1 (turn.1 []).seals)

pub loop-unit-preserved : goal.loop-unit-preserved
loop-unit-preserved g c =
    let l = c.loop-unit in
    let source = g.S.Serves.source in
    let one = turn_at (session_by g.S.Speaks.speech (g.S.Serves.takes c.args.users.now) g.S.Serves.runs_out_of_memory) c.args.at c.args.conn in
    let stream = c.args.stream.now in
    let kept = c.args.desk.now.kept in
    let d = c.args.dialog.now in
    let unit = c.in-Ok-Some.unit in
    let takes = rw c.in-Ok-Some.field-0-is at c.in-Ok-Some.ensures.next in
    let turn = c.take_unit.ensures.turn in
    let new = c.take_unit.new in
    let told = g.D.Disk.told in
    let S = HaveSealed told l.desk new.desk in
    let last = one [] turn.0 l.desk.kept l.dialog unit in
    let counts = both_counted l.invariant.far.0 last.counts in
    let sealed = none_unsealed S last l.reply new.desk.kept new.self new.reply (turn.1 []) c.if-reply.false in
    record {
      stays = c.if-reply.false;
      conn = (turn.1 []).conn ∙ l.invariant.conn;
      free = c.take_unit.ensures.free;
      home = c.take_unit.ensures.home;
      current = c.take_unit.ensures.current;
      house = c.take_unit.ensures.house ∙ l.invariant.house;
      rest = sym takes.1 ∙ l.invariant.rest;
      open' = still_open told l.desk new.desk last.counts l.invariant.open' sealed;
      far = (
        counts,
        chained told c.seals_join.ensures.then c.args.desk.now l.desk new.desk [] l.invariant.far.0 last.counts l.invariant.far.1 sealed,
        λ seats.
            so_far_more S one seats kept d (source.units stream) l.desk.kept l.dialog unit (source.units c.next_unit.new.stream) new.desk.kept new.self l.reply new.reply l.invariant.far.0
            (subst (λ us. SoFar one seats kept d (source.units stream) l.reply l.invariant.far.0 l.desk.kept l.dialog us) takes.0 (l.invariant.far.2 seats))
            turn.0 (turn.1 (beside c.args.conn seats)) c.if-reply.false,
      );
    }
