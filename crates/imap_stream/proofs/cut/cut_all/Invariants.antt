use Rattle.std.proofs.Common.{◌≡◌, take}
use Rattle.std.specs.List.{flat_map}
use Rattle.imap_stream.specs.Commands.{heard_of, said_of, emptied}
use Rattle.imap_stream.proofs.cut.cut_all.Given as goal

-- what the pieces so far give
abbrev pub invariant-loop-piece : goal.invariant-loop-piece
invariant-loop-piece l =
    let stream = flat_map (λ piece. piece) (take l.piece-index l.pieces) in
    record { said : l.nexts ≡ said_of stream; rest : l.cutter ≡ emptied (heard_of stream) }
