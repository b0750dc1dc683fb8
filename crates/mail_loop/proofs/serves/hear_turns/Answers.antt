use Rattle.std.proofs.Common.{List, Result, IfOk, ◌≡◌, subst}
use Rattle.undo_base.specs.declared.keys.User.{User}
use Rattle.undo_base.specs.declared.memory.NoMemory.{NoMemory as WantOfMemory}
use Rattle.mail_loop.specs.Asked.{HaveSealed}
use Rattle.mail_loop.specs.Session.{session_by}
use Rattle.mail_loop.specs.State.{State}
use Rattle.mail_loop.specs.Turns.{hears_turns}
use Rattle.mail_loop.proofs.Sealed.{unsealed}
use Rattle.mail_loop.proofs.Stretch.{ToldTurns, turns_told, turns_unfed}
use Rattle.mail_loop.proofs.serves.hear_turns.Goals as goal

pub returns-in-Ok-feed-clause-heard : goal.returns-in-Ok-feed-clause-heard
returns-in-Ok-feed-clause-heard g c seats users is =
    let speech = g.S.Speaks.speech in
    let source = g.S.Serves.source in
    let kept = c.args.desk.now.kept in
    let d = c.args.dialog.now in
    let new = c.serve_turns.new in
    let s : State = record { kept = kept; seats = seats } in
    let reply = c.serve_turns.result in
    let S = HaveSealed g.D.Disk.told c.args.desk.now new.desk in
    let used = subst (λ (r : Result (List User) WantOfMemory). IfOk r (λ us. us ≡ users)) c.in-Ok.is is in
    turns_told S kept seats c.args.conn
    (λ hs. hears_turns source (session_by speech (g.S.Serves.takes users) g.S.Serves.runs_out_of_memory) hs c.args.at s c.args.conn d (source.fed c.args.stream.now c.args.bytes.now))
    reply c.going_on-in-Ok-feed.result new.desk.kept (source.seat new.stream new.dialog) c.going_on-in-Ok-feed.ensures
    (subst (λ (us : List User). ToldTurns S seats c.args.conn
    (λ hs. hears_turns source (session_by speech (g.S.Serves.takes us) g.S.Serves.runs_out_of_memory) hs c.args.at s c.args.conn d (source.fed c.args.stream.now c.args.bytes.now)) reply new.desk.kept (source.seat new.stream new.dialog)) used
    (subst (λ stream. ToldTurns S seats c.args.conn
    (λ hs. hears_turns source (session_by speech (g.S.Serves.takes c.in-Ok.users) g.S.Serves.runs_out_of_memory) hs c.args.at s c.args.conn d stream) reply new.desk.kept (source.seat new.stream new.dialog)) c.in-Ok-feed.ensures
    (c.serve_turns.ensures.turns seats)))

-- no memory was found for the users
pub returns-in-Err-clause-heard : goal.returns-in-Err-clause-heard
returns-in-Err-clause-heard g c seats users is =
    let source = g.S.Serves.source in
    let kept = c.args.desk.now.kept in
    let d = c.args.dialog.now in
    let s : State = record { kept = kept; seats = seats } in
    turns_unfed (HaveSealed g.D.Disk.told c.args.desk.now c.args.desk.now) kept seats c.args.conn
    (λ hs. hears_turns source (session_by g.S.Speaks.speech (g.S.Serves.takes users) g.S.Serves.runs_out_of_memory) hs c.args.at s c.args.conn d (source.fed c.args.stream.now c.args.bytes.now))
    c.empty_reply.result c.going_on.result (source.seat c.args.stream.now d) c.empty_reply.ensures c.going_on.ensures (unsealed g.D.Disk.told c.seals_join.ensures.nothing c.args.desk.now)

-- no memory was found for the bytes
pub returns-in-Err-feed-clause-heard : goal.returns-in-Err-feed-clause-heard
returns-in-Err-feed-clause-heard g c seats users is =
    let source = g.S.Serves.source in
    let kept = c.args.desk.now.kept in
    let d = c.args.dialog.now in
    let s : State = record { kept = kept; seats = seats } in
    turns_unfed (HaveSealed g.D.Disk.told c.args.desk.now c.args.desk.now) kept seats c.args.conn
    (λ hs. hears_turns source (session_by g.S.Speaks.speech (g.S.Serves.takes users) g.S.Serves.runs_out_of_memory) hs c.args.at s c.args.conn d (source.fed c.args.stream.now c.args.bytes.now))
    c.empty_reply-in-Err-feed.result c.going_on-in-Err-feed.result (source.seat c.feed.new.stream d) c.empty_reply-in-Err-feed.ensures c.going_on-in-Err-feed.ensures (unsealed g.D.Disk.told c.seals_join.ensures.nothing c.args.desk.now)
