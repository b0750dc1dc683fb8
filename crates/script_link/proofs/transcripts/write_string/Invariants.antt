use Rattle.std.proofs.Common.{◌≡◌, ◌++◌, length}
use Rattle.std.specs.List.{flat_map}
use Rattle.script_link.specs.Pieces.{pieces_of}
use Rattle.script_link.specs.Transcript.{piece_text}
use Rattle.script_link.proofs.transcripts.write_string.Given as goal

-- what is written, and the pieces that are left
abbrev pub invariant-loop-rest : goal.invariant-loop-rest
invariant-loop-rest l = l.out ++ flat_map (piece_text l.conn) (pieces_of l.rest) ≡ l.fn.out ++ flat_map (piece_text l.conn) (pieces_of l.bytes)

abbrev pub decreases-loop-rest : goal.decreases-loop-rest
decreases-loop-rest l = length l.rest
