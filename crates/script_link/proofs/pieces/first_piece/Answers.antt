use Rattle.std.proofs.Common.{add-one}
use Rattle.script_link.proofs.Cuts.{pieces_at, pieces_none}
use Rattle.script_link.proofs.pieces.first_piece.Goals as goal

pub returns-in-Some-clause-pieces : goal.returns-in-Some-clause-pieces
returns-in-Some-clause-pieces c =
    let bytes = c.args.bytes.now in
    let place = c.in-Some.place in
    rw c.after.ensures (rw add-one (pieces_at bytes place c.in-Some.ensures.found.0 c.in-Some.ensures.before c.in-Some.ensures.found.1))

pub returns-in-None-clause-pieces : goal.returns-in-None-clause-pieces
returns-in-None-clause-pieces c = pieces_none c.args.bytes.now c.requires c.in-None.ensures.none
