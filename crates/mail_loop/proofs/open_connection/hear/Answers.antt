use Rattle.std.proofs.Common.{None, Ok, ap, subst, sym, ◌∙◌}
use Rattle.desk_journal.specs.Lasting.{Lasting}
use Rattle.mail_loop.specs.Asked.{HaveSealed}
use Rattle.mail_loop.specs.PopTurn.{in_use}
use Rattle.mail_loop.specs.State.{Imap, Smtp, Http, Pop, Seat, beside}
use Rattle.mail_loop.specs.Stands.{AreInUse, seat_of}
use Rattle.mail_loop.proofs.PopTurns.{some_users}
use Rattle.mail_loop.proofs.Stretch.{heard_same, told_same, turns_heard}
use Rattle.mail_loop.proofs.open_connection.hear.Goals.{in-Smtp, in-Imap, in-Http, in-Pop}
use Rattle.mail_loop.proofs.open_connection.hear.Goals as goal

pub returns-clause-heard : goal.returns-clause-heard
returns-clause-heard g c seats there used = let users = some_users c.args.in_use.now in elim c.match-connection.branch [
  | in-Smtp w ↦
      heard_same (HaveSealed g.D.Disk.told c.args.desk.now w.hear_turns.new.desk) (HaveSealed g.D.Disk.told c.args.desk.now c.match-connection.desk) c.args.occasion.at c.args.desk.now.kept seats c.args.occasion.conn (Smtp w.in-Smtp.unserved w.in-Smtp.dialog) c.args.connection.now c.args.bytes.now w.hear_turns.result c.match-connection.result
      w.hear_turns.new.desk.kept c.match-connection.desk.kept (Smtp w.hear_turns.new.stream w.hear_turns.new.dialog) (seat_of c.match-connection.connection-inside.kind)
      (ap seat_of (sym w.in-Smtp.is) ∙ c.connection.view_is) w.result-is (ap (λ (h : Lasting g.row.D.Denot). h.kept) w.desk-is) (ap (λ s. seat_of s.kind) w.connection-inside-is)
      (λ failed counts seals. subst (λ (h : Lasting g.row.D.Denot). HaveSealed g.D.Disk.told c.args.desk.now h failed counts) (sym w.desk-is) seals)
      (turns_heard (HaveSealed g.D.Disk.told c.args.desk.now w.hear_turns.new.desk) (Ok None) c.args.occasion.at c.args.desk.now.kept seats c.args.occasion.conn (Smtp w.in-Smtp.unserved w.in-Smtp.dialog) c.args.bytes.now w.hear_turns.result w.hear_turns.new.desk.kept
      (Smtp w.hear_turns.new.stream w.hear_turns.new.dialog) (w.hear_turns.ensures.heard seats users.0 users.1))
  | in-Imap w ↦
      heard_same (HaveSealed g.D.Disk.told c.args.desk.now w.hear_turns-in-Imap.new.desk) (HaveSealed g.D.Disk.told c.args.desk.now c.match-connection.desk) c.args.occasion.at c.args.desk.now.kept seats c.args.occasion.conn (Imap w.in-Imap.stream w.in-Imap.dialog) c.args.connection.now c.args.bytes.now w.hear_turns-in-Imap.result c.match-connection.result
      w.hear_turns-in-Imap.new.desk.kept c.match-connection.desk.kept (Imap w.hear_turns-in-Imap.new.stream w.hear_turns-in-Imap.new.dialog) (seat_of c.match-connection.connection-inside.kind)
      (ap seat_of (sym w.in-Imap.is) ∙ c.connection.view_is) w.result-is (ap (λ (h : Lasting g.row.D.Denot). h.kept) w.desk-is) (ap (λ s. seat_of s.kind) w.connection-inside-is)
      (λ failed counts seals. subst (λ (h : Lasting g.row.D.Denot). HaveSealed g.D.Disk.told c.args.desk.now h failed counts) (sym w.desk-is) seals)
      (turns_heard (HaveSealed g.D.Disk.told c.args.desk.now w.hear_turns-in-Imap.new.desk) (Ok None) c.args.occasion.at c.args.desk.now.kept seats c.args.occasion.conn (Imap w.in-Imap.stream w.in-Imap.dialog) c.args.bytes.now w.hear_turns-in-Imap.result w.hear_turns-in-Imap.new.desk.kept
      (Imap w.hear_turns-in-Imap.new.stream w.hear_turns-in-Imap.new.dialog) (w.hear_turns-in-Imap.ensures.heard seats users.0 users.1))
  | in-Http w ↦
      heard_same (HaveSealed g.D.Disk.told c.args.desk.now w.hear_console.new.desk) (HaveSealed g.D.Disk.told c.args.desk.now c.match-connection.desk) c.args.occasion.at c.args.desk.now.kept seats c.args.occasion.conn (Http w.in-Http.console) c.args.connection.now c.args.bytes.now w.hear_console.result c.match-connection.result
      w.hear_console.new.desk.kept c.match-connection.desk.kept (Http w.hear_console.new.console) (seat_of c.match-connection.connection-inside.kind)
      (ap seat_of (sym w.in-Http.is) ∙ c.connection.view_is) w.result-is (ap (λ (h : Lasting g.row.D.Denot). h.kept) w.desk-is) (ap (λ s. seat_of s.kind) w.connection-inside-is)
      (λ failed counts seals. subst (λ (h : Lasting g.row.D.Denot). HaveSealed g.D.Disk.told c.args.desk.now h failed counts) (sym w.desk-is) seals)
      (w.hear_console.ensures.heard seats)
  | in-Pop w ↦
      heard_same (HaveSealed g.D.Disk.told c.args.desk.now w.hear_turns-in-Pop.new.desk) (HaveSealed g.D.Disk.told c.args.desk.now c.match-connection.desk) c.args.occasion.at c.args.desk.now.kept seats c.args.occasion.conn (Pop w.in-Pop.unserved w.in-Pop.dialog) c.args.connection.now c.args.bytes.now w.hear_turns-in-Pop.result c.match-connection.result
      w.hear_turns-in-Pop.new.desk.kept c.match-connection.desk.kept (Pop w.hear_turns-in-Pop.new.stream w.hear_turns-in-Pop.new.dialog) (seat_of c.match-connection.connection-inside.kind)
      (ap seat_of (sym w.in-Pop.is) ∙ c.connection.view_is) w.result-is (ap (λ (h : Lasting g.row.D.Denot). h.kept) w.desk-is) (ap (λ s. seat_of s.kind) w.connection-inside-is)
      (λ failed counts seals. subst (λ (h : Lasting g.row.D.Denot). HaveSealed g.D.Disk.told c.args.desk.now h failed counts) (sym w.desk-is) seals)
      (turns_heard (HaveSealed g.D.Disk.told c.args.desk.now w.hear_turns-in-Pop.new.desk) (Ok None) c.args.occasion.at c.args.desk.now.kept seats c.args.occasion.conn (Pop w.in-Pop.unserved w.in-Pop.dialog) c.args.bytes.now w.hear_turns-in-Pop.result w.hear_turns-in-Pop.new.desk.kept
      (Pop w.hear_turns-in-Pop.new.stream w.hear_turns-in-Pop.new.dialog) (told_same (HaveSealed g.D.Disk.told c.args.desk.now w.hear_turns-in-Pop.new.desk) c.args.occasion.at c.args.desk.now.kept seats c.args.occasion.conn w.in-Pop.unserved w.in-Pop.dialog c.args.bytes.now w.hear_turns-in-Pop.result w.hear_turns-in-Pop.new.desk.kept
      (Pop w.hear_turns-in-Pop.new.stream w.hear_turns-in-Pop.new.dialog) (w.hear_turns-in-Pop.ensures.heard seats (in_use (beside c.args.occasion.conn seats)) (subst (λ (s : Seat). AreInUse c.args.occasion.conn seats s c.args.in_use.now) (sym (ap seat_of (sym w.in-Pop.is) ∙ c.connection.view_is)) used))))
]
