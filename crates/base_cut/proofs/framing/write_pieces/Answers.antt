use Rattle.std.proofs.Common.{◌++◌}
use Rattle.base_cut.specs.Cutting.{IsRefused, Writes}
use Rattle.base_cut.proofs.Writings.{at_exit, front_before, front_behind, writes_behind}
use Rattle.base_cut.proofs.framing.write_pieces.Goals as goal

pub returns-in_err-write_piece-2-clause-writes : goal.returns-in_err-write_piece-2-clause-writes
returns-in_err-write_piece-2-clause-writes g c =
    let told = g.W.Sink.told in
    let fault = c.in_err-write_piece-2.field-0.0 in
    let first = c.args.first.now in
    let second = c.args.second.now in
    let third = c.args.third.now in
    at_exit (Writes (told c.args.out.now) (told c.write_piece-2.new.out) (first ++ (second ++ third))) c.from_residual-in_err-write_piece-2.result fault c.from_residual-in_err-write_piece-2.ensures.1
    (front_behind (IsRefused fault) (told c.args.out.now) (told c.write_piece.new.out) (told c.write_piece-2.new.out) first (second ++ third) c.in_ok-write_piece.ensures.writes
    (front_before (IsRefused fault) (told c.write_piece.new.out) (told c.write_piece-2.new.out) second third c.in_err-write_piece-2.ensures.writes))

pub returns-clause-writes : goal.returns-clause-writes
returns-clause-writes g c =
    let told = g.W.Sink.told in
    let first = c.args.first.now in
    let second = c.args.second.now in
    let third = c.args.third.now in
    writes_behind (told c.args.out.now) (told c.write_piece.new.out) (told c.write_piece-3.new.out) first (second ++ third) c.write_piece-3.result c.in_ok-write_piece.ensures.writes
    (writes_behind (told c.write_piece.new.out) (told c.write_piece-2.new.out) (told c.write_piece-3.new.out) second third c.write_piece-3.result c.in_ok-write_piece-2.ensures.writes c.write_piece-3.ensures.writes)
