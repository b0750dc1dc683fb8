use Rattle.std.proofs.Common.{◌+◌, ◌∷◌, Err, true, false, drop, ap, refl, subst, sym, ◌∙◌, arith, tests}
use Rattle.std.proofs.lemmas.List.{drop_more, drop_all}
use Rattle.std.proofs.lemmas.Result.{err_from_is_err_and}
use Rattle.mail_loop.specs.declared.letters.Letter.{Letter}
use Rattle.mail_loop.specs.State.{Seats}
use Rattle.mail_loop.specs.Stands.{AreHome, letter_of, replies_of}
use Rattle.mail_loop.proofs.Seats.{home_after}
use Rattle.mail_loop.proofs.Links.{replied_closed, replied_open, replied_unclosed, sends_on_all, sends_on_more, sends_on_stopped}
use Rattle.mail_loop.proofs.serve.deliver_all.Goals as goal

-- it stays open
pub loop-letter-preserved-then-tell : goal.loop-letter-preserved-then-tell
loop-letter-preserved-then-tell g c =
    let told = g.L.Link.told in
    let l = c.loop-letter in
    let letters = c.args.letters.now in
    let letter = c.letter-item.result in
    let more = drop_more letters l.letter-index letter (omega (arith, tests, c.loop-letter-test.true)) in
    record {
      home = l.invariant.home;
      sends = sends_on_more (told c.args.link.now) (told l.link) (told c.tell.new.link) c.args.connections.now.entries l.connections.entries l.connections.entries
          (letter_of letter) (replies_of (drop l.letter-index letters)) (replies_of (drop (l.letter-index + 1) letters)) (replies_of letters) true
          (ap replies_of more ∙ ap (λ (q : Letter). letter_of q ∷ replies_of (drop (l.letter-index + 1) letters)) (sym c.letter-item.is))
          (replied_open (told l.link) (told c.tell.new.link) (letter_of letter) c.tell.result c.if-tell.true c.tell.ensures) refl l.invariant.sends;
    }

-- it is closed, and forgotten
pub loop-letter-preserved : goal.loop-letter-preserved
loop-letter-preserved g c =
    let told = g.L.Link.told in
    let l = c.loop-letter in
    let letters = c.args.letters.now in
    let letter = c.letter-item.result in
    let more = drop_more letters l.letter-index letter (omega (arith, tests, c.loop-letter-test.true)) in
    record {
      home = λ house held. subst (λ (es : Seats). AreHome house es) (sym c.remove-gone.ensures.entries) (home_after house false letter.conn l.connections.entries (l.invariant.home house held));
      sends = sends_on_more (told c.args.link.now) (told l.link) (told c.close.new.self) c.args.connections.now.entries l.connections.entries c.remove-gone.new.self.entries
          (letter_of letter) (replies_of (drop l.letter-index letters)) (replies_of (drop (l.letter-index + 1) letters)) (replies_of letters) false
          (ap replies_of more ∙ ap (λ (q : Letter). letter_of q ∷ replies_of (drop (l.letter-index + 1) letters)) (sym c.letter-item.is))
          (replied_closed (told l.link) (told c.tell.new.link) (told c.close.new.self) (letter_of letter) c.tell.result c.if-tell.false c.tell.ensures c.in_ok-close.ensures) c.remove-gone.ensures.entries l.invariant.sends;
    }

pub returns-clause-sends : goal.returns-clause-sends
returns-clause-sends g c =
    let l = c.loop-letter in
    sends_on_all (g.L.Link.told c.args.link.now) (g.L.Link.told l.link) c.args.connections.now.entries l.connections.entries (replies_of (drop l.letter-index c.args.letters.now)) (replies_of c.args.letters.now)
    (ap replies_of (drop_all l.letter-index c.args.letters.now (omega (arith, tests, c.loop-letter-test.false)))) l.invariant.sends

pub returns-in_err-close-clause-sends : goal.returns-in_err-close-clause-sends
returns-in_err-close-clause-sends g c =
    let told = g.L.Link.told in
    let l = c.loop-letter in
    let letters = c.args.letters.now in
    let letter = c.letter-item.result in
    let more = drop_more letters l.letter-index letter (omega (arith, tests, c.loop-letter-test.true)) in
    let p = err_from_is_err_and c.from_residual.result c.from_residual.ensures.1 in
    sends_on_stopped (told c.args.link.now) (told l.link) (told c.close.new.self) c.args.connections.now.entries l.connections.entries l.connections.entries
    (letter_of letter) (replies_of (drop l.letter-index letters)) (replies_of (drop (l.letter-index + 1) letters)) (replies_of letters) p.0 p.0 c.from_residual.result
    (ap replies_of more ∙ ap (λ (q : Letter). letter_of q ∷ replies_of (drop (l.letter-index + 1) letters)) (sym c.letter-item.is)) p.1
    (replied_unclosed (told l.link) (told c.tell.new.link) (told c.close.new.self) (letter_of letter) c.tell.result p.0 (Err p.0) refl c.if-tell.false c.tell.ensures c.in_err-close.ensures) l.invariant.sends
