use Rattle.std.proofs.Common.{◌≡◌, min, take}
use Rattle.imap_stream.specs.Holding.{octets_in}
use Rattle.imap_stream.proofs.held.octets_in.Given as goal

abbrev pub invariant-loop-text : goal.invariant-loop-text
invariant-loop-text l = l.total ≡ min (octets_in (take l.text-index l.texts)) 18446744073709551615
