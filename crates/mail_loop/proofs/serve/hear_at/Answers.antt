use Rattle.std.proofs.Common.{◌≡◌, ◌∙◌, Bool, not, length, ap, refl, subst, sym, arith}
use Rattle.std.proofs.lemmas.Map.{length-set_value}
use Rattle.std.proofs.lemmas.Result.{err_from_is_err_and}
use Rattle.std.proofs.lemmas.Map.Views.{All-values-set_value}
use Rattle.std.specs.BTreeMap.{is_at}
use Rattle.std.specs.Ordering.{nat_cmp}
use Rattle.verb_core.specs.declared.conf.House.{House}
use Rattle.mail_loop.specs.declared.serve.Answer.{Answer}
use Rattle.mail_loop.specs.Asked.{HaveSealed}
use Rattle.mail_loop.specs.State.{Seats}
use Rattle.mail_loop.specs.Machine.{after_reply}
use Rattle.mail_loop.specs.Stands.{AreHome, IsHome, replies_of}
use Rattle.mail_loop.proofs.Sealed.{unsealed}
use Rattle.mail_loop.proofs.Events.{bytes_ignored, bytes_heard, bytes_unserved}
use Rattle.mail_loop.proofs.Seats.{fewer_after, home_after}
use Rattle.mail_loop.proofs.serve.hear_at.Goals.{then-turned, else-turned}
use Rattle.mail_loop.proofs.serve.hear_at.Goals as goal

pub returns-in_err-room-clause-answers : goal.returns-in_err-room-clause-answers
returns-in_err-room-clause-answers g c =
    let p = err_from_is_err_and c.from_residual.result c.from_residual.ensures.1 in
    bytes_unserved (HaveSealed g.D.Disk.told c.args.desk.now c.args.desk.now) c.args.conn c.args.at c.args.desk.now.kept c.args.connections.now.entries c.args.bytes.now
    (λ (answer : Answer). replies_of answer.letters.items) (λ (answer : Answer). answer.stops) p.0 c.from_residual.result p.1
    (unsealed g.D.Disk.told c.seals_join.ensures.nothing c.args.desk.now)

pub returns-in-None-clause-answers : goal.returns-in-None-clause-answers
returns-in-None-clause-answers g c =
    bytes_ignored (HaveSealed g.D.Disk.told c.args.desk.now c.args.desk.now) c.args.conn c.args.at c.args.desk.now.kept c.args.connections.now.entries c.get_mut.follows.lender-at-none.entries c.args.bytes.now
    (λ (answer : Answer). replies_of answer.letters.items) (λ (answer : Answer). answer.stops) c.nothing.result
    c.in-None.ensures.value (ap (λ m. m.entries) c.get_mut.follows.holds-at-none) (ap replies_of c.nothing.ensures.letters) c.nothing.ensures.goes_on
    (unsealed g.D.Disk.told c.seals_join.ensures.nothing c.args.desk.now)

-- there is room for a letter to each that is left
pub letters_of-letters-requires-clause-room : goal.letters_of-letters-requires-clause-room
letters_of-letters-requires-clause-room g c =
    let es = c.args.connections.now.entries in
    let connection = c.hear-turned.new.connection in
    let turned = c.hear-turned.result in
    let lent = (c.get_mut.follows.lender connection).entries in
    let after : c.if-turned.connections.entries ≡ after_reply (not turned.closes) c.args.conn lent = elim c.if-turned.branch [
      | then-turned w ↦ ap (λ m. m.entries) w.connections-is ∙ w.remove-gone.ensures.entries ∙ sym (ap (λ (b : Bool). after_reply (not b) c.args.conn lent) w.if-turned.true)
      | else-turned w ↦ ap (λ m. m.entries) w.connections-is ∙ sym (ap (λ (b : Bool). after_reply (not b) c.args.conn lent) w.if-turned.false)
    ] in
    let left = ap (λ (l : Seats). length l) after in
    let fewer = fewer_after (not turned.closes) c.args.conn lent in
    let set = ap (λ (l : Seats). length l) (c.get_mut.follows.holds connection).0 ∙ length-set_value (is_at (nat_cmp c.args.conn)) es connection in
    omega (arith, set, left, fewer, c.in_ok-room.ensures.room)

pub returns-clause-answers : goal.returns-clause-answers
returns-clause-answers g c =
    let connection = c.hear-turned.new.connection in
    let turned = c.hear-turned.result in
    let lent = (c.get_mut.follows.lender connection).entries in
    let after : c.if-turned.connections.entries ≡ after_reply (not turned.closes) c.args.conn lent = elim c.if-turned.branch [
      | then-turned w ↦ ap (λ m. m.entries) w.connections-is ∙ w.remove-gone.ensures.entries ∙ sym (ap (λ (b : Bool). after_reply (not b) c.args.conn lent) w.if-turned.true)
      | else-turned w ↦ ap (λ m. m.entries) w.connections-is ∙ sym (ap (λ (b : Bool). after_reply (not b) c.args.conn lent) w.if-turned.false)
    ] in
    let answer : Answer = record { letters = c.letters_of-letters.result; stops = turned.stops } in
    bytes_heard (HaveSealed g.D.Disk.told c.args.desk.now c.hear-turned.new.desk) c.args.conn c.args.at c.args.desk.now.kept c.hear-turned.new.desk.kept c.args.connections.now.entries lent c.if-turned.connections.entries c.in-Some.connection.now connection
    c.args.bytes.now turned (λ (answer : Answer). replies_of answer.letters.items) (λ (answer : Answer). answer.stops) answer c.in-Some.ensures.value (c.get_mut.follows.holds connection).0
    after
    (c.hear-turned.ensures.heard c.args.connections.now.entries (sym c.in-Some.ensures.value) (c.users_for-in_use.ensures c.in-Some.connection.now (sym c.in-Some.ensures.value)))
    c.letters_of-letters.ensures refl

pub returns-clause-home : goal.returns-clause-home
returns-clause-home g c =
    let connection = c.hear-turned.new.connection in
    let turned = c.hear-turned.result in
    let house = c.hear-turned.new.desk.kept.house in
    let es = c.args.connections.now.entries in
    let lent = (c.get_mut.follows.lender connection).entries in
    let after : c.if-turned.connections.entries ≡ after_reply (not turned.closes) c.args.conn lent = elim c.if-turned.branch [
      | then-turned w ↦ ap (λ m. m.entries) w.connections-is ∙ w.remove-gone.ensures.entries ∙ sym (ap (λ (b : Bool). after_reply (not b) c.args.conn lent) w.if-turned.true)
      | else-turned w ↦ ap (λ m. m.entries) w.connections-is ∙ sym (ap (λ (b : Bool). after_reply (not b) c.args.conn lent) w.if-turned.false)
    ] in
    let held = subst (λ (h : House). AreHome h es) (sym c.hear-turned.ensures.house) c.requires.home in
    subst (λ (l : Seats). AreHome house l) (sym after)
    (home_after house (not turned.closes) c.args.conn lent
    (subst (λ (l : Seats). AreHome house l) (sym (c.get_mut.follows.holds connection).0)
    (All-values-set_value (is_at (nat_cmp c.args.conn)) (IsHome house) es connection held c.hear-turned.ensures.home)))
