use Rattle.std.proofs.Common.{rules, ap, sym, subst, ◌∙◌, length, drop}
use Rattle.std.proofs.lemmas.List.{take_at}
use Rattle.host_outside.specs.Seats.{Gives, IsOneSearchAt}
use Rattle.host_outside.proofs.Told.{one_search_of}
use Rattle.host_outside.proofs.sockets.Sockets.visit.Goals as goal

pub returns : goal.returns
returns g c =
    let buffer = c.receive-received.new.buf in
    let spare = c.args.self.now.spare in
    let is_buffer = ap (λ v. v.items) c.settle.ensures.spare
    ∙ take_at buffer (drop (length buffer) spare.items) spare.len (c.receive-received.auto.buf ∙ c.deref_mut.ensures.len) in
    record {
      before = c.in_ok-seat.seat.now;
      after = c.free-is_left.new.self;
      stood = record { within = search rules; is = c.in_ok-seat.ensures.value };
      changed = ap (λ v. v.items) c.settle.ensures.seats;
      turned = record {
        given = λ count e.
            subst (λ bytes. Gives g.R.Stream.Write.contents g.R.Stream.Read.remaining c.in_ok-seat.seat.now bytes count)
            (sym is_buffer) (c.receive-received.ensures.given count e);
        one_search = λ count e.
            subst (λ bytes. IsOneSearchAt c.in_ok-seat.seat.now c.free-is_left.new.self bytes count)
            (sym is_buffer)
            (one_search_of c.in_ok-seat.seat.now c.receive-received.new.self c.free-is_left.new.self buffer count
            (c.receive-received.ensures.one_search count e) c.free-is_left.ensures.same);
        left = λ e connection sits. c.receive-received.ensures.left e connection (c.free-is_left.ensures.same connection sits);
      };
    }
