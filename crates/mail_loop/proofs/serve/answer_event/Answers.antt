use Rattle.std.proofs.Common.{false, [], None, Ok, Err, Result, ap, refl, sym, subst, min}
use Rattle.std.proofs.lemmas.Result.{err_from_is_err_and}
use Rattle.undo_base.specs.declared.memory.NoMemory.{NoMemory as WantOfMemory}
use Rattle.undo_outside.specs.declared.event.What.{What}
use Rattle.mail_loop.specs.declared.serve.Answer.{Answer}
use Rattle.mail_loop.specs.Asked.{HaveSealed}
use Rattle.mail_loop.specs.State.{Seats, State}
use Rattle.mail_loop.specs.Machine.{answers}
use Rattle.mail_loop.specs.Did.{Answers}
use Rattle.mail_loop.specs.Stands.{AreHome, replies_of}
use Rattle.mail_loop.proofs.Seats.{home_after}
use Rattle.mail_loop.proofs.Sealed.{none_sealed, unsealed}
use Rattle.mail_loop.proofs.serve.answer_event.Goals as goal

pub returns-in_ok-letters-in-Joined-clause-answers : goal.returns-in_ok-letters-in-Joined-clause-answers
returns-in_ok-letters-in-Joined-clause-answers g c =
    let event = c.args.event.now in
    let desk = c.args.desk.now in
    let es = c.args.connections.now.entries in
    let S = HaveSealed g.D.Disk.told desk desk in
    let s : State = record { kept = desk.kept; seats = es } in
    let (no_memory, joined) = c.in_ok-letters-in-Joined.ensures.answers in
    let answer : Answer = record { letters = c.in_ok-letters-in-Joined.letters; stops = false } in (
      no_memory,
      [],
      Ok None,
      subst (λ (what : What). Answers S (answers what no_memory [] (Ok None) (min event.at 253402300799) s event.conn) desk.kept c.join.new.connections.entries (λ answer. replies_of answer.letters.items) (λ answer. answer.stops) (Ok answer))
          (sym c.in-Joined.is) (joined.0, none_sealed S _ _ joined.1 (unsealed g.D.Disk.told c.seals_join.ensures.nothing desk), joined.2),
    )

-- no memory was found for what the client is told
pub returns-in_err-letters-in-Joined-clause-answers : goal.returns-in_err-letters-in-Joined-clause-answers
returns-in_err-letters-in-Joined-clause-answers g c =
    let event = c.args.event.now in
    let desk = c.args.desk.now in
    let es = c.args.connections.now.entries in
    let S = HaveSealed g.D.Disk.told desk desk in
    let s : State = record { kept = desk.kept; seats = es } in
    let p = err_from_is_err_and c.from_residual.result c.from_residual.ensures.1 in
    let (no_memory, joined) = c.in_err-letters-in-Joined.ensures.answers in
    let is_so : What → Result Answer WantOfMemory → Type 0 =
    λ what result. Answers S (answers what no_memory [] (Ok None) (min event.at 253402300799) s event.conn) desk.kept c.join.new.connections.entries (λ answer. replies_of answer.letters.items) (λ answer. answer.stops) result in (
      no_memory,
      [],
      Ok None,
      subst (is_so event.what) (sym p.1)
          (subst (λ (what : What). is_so what (Err p.0)) (sym c.in-Joined.is) (joined.0, none_sealed S _ _ joined.1 (unsealed g.D.Disk.told c.seals_join.ensures.nothing desk), joined.2)),
    )

pub returns-in_err-letters-in-Joined-clause-home : goal.returns-in_err-letters-in-Joined-clause-home
returns-in_err-letters-in-Joined-clause-home g c = c.join.ensures.home c.args.desk.now.kept.house c.requires.home

pub returns-in_ok-letters-in-Joined-clause-home : goal.returns-in_ok-letters-in-Joined-clause-home
returns-in_ok-letters-in-Joined-clause-home g c = c.join.ensures.home c.args.desk.now.kept.house c.requires.home

pub returns-in-Left-clause-home : goal.returns-in-Left-clause-home
returns-in-Left-clause-home g c =
    let house = c.args.desk.now.kept.house in
    let es = c.args.connections.now.entries in
    subst (λ (l : Seats). AreHome house l) (sym c.remove-gone.ensures.entries) (home_after house false c.args.event.now.conn es c.requires.home)

pub returns-in-Left-clause-answers : goal.returns-in-Left-clause-answers
returns-in-Left-clause-answers g c =
    let event = c.args.event.now in
    let desk = c.args.desk.now in
    let S = HaveSealed g.D.Disk.told desk desk in
    let s : State = record { kept = desk.kept; seats = c.args.connections.now.entries } in (
      false,
      [],
      Ok None,
      subst (λ (what : What). Answers S (answers what false [] (Ok None) (min event.at 253402300799) s event.conn) desk.kept c.remove-gone.new.self.entries (λ answer. replies_of answer.letters.items) (λ answer. answer.stops) (Ok c.nothing.result)) (sym c.in-Left.is)
          ((refl, c.remove-gone.ensures.entries, ap replies_of c.nothing.ensures.letters, c.nothing.ensures.goes_on), unsealed g.D.Disk.told c.seals_join.ensures.nothing desk, tt),
    )

pub returns-in-Idle-clause-answers : goal.returns-in-Idle-clause-answers
returns-in-Idle-clause-answers g c =
    let event = c.args.event.now in
    let desk = c.args.desk.now in
    let S = HaveSealed g.D.Disk.told desk desk in
    let s : State = record { kept = desk.kept; seats = c.args.connections.now.entries } in (
      false,
      [],
      Ok None,
      subst (λ (what : What). Answers S (answers what false [] (Ok None) (min event.at 253402300799) s event.conn) desk.kept c.args.connections.now.entries (λ answer. replies_of answer.letters.items) (λ answer. answer.stops) (Ok c.nothing-in-Idle.result)) (sym c.in-Idle.is)
          ((refl, refl, ap replies_of c.nothing-in-Idle.ensures.letters, c.nothing-in-Idle.ensures.goes_on), unsealed g.D.Disk.told c.seals_join.ensures.nothing desk, tt),
    )

pub returns-in-End-clause-answers : goal.returns-in-End-clause-answers
returns-in-End-clause-answers g c =
    let event = c.args.event.now in
    let desk = c.args.desk.now in
    let S = HaveSealed g.D.Disk.told desk desk in
    let s : State = record { kept = desk.kept; seats = c.args.connections.now.entries } in (
      false,
      [],
      Ok None,
      subst (λ (what : What). Answers S (answers what false [] (Ok None) (min event.at 253402300799) s event.conn) desk.kept c.args.connections.now.entries (λ answer. replies_of answer.letters.items) (λ answer. answer.stops) (Ok c.nothing-in-End.result)) (sym c.in-End.is)
          ((refl, refl, ap replies_of c.nothing-in-End.ensures.letters, c.nothing-in-End.ensures.goes_on), unsealed g.D.Disk.told c.seals_join.ensures.nothing desk, tt),
    )
