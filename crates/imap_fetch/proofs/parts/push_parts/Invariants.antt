use Rattle.std.proofs.Common.{◌≡◌, ◌++◌, map, take}
use Rattle.imap_fetch.specs.Told.{part_of}
use Rattle.imap_fetch.proofs.parts.push_parts.Given as goal

abbrev pub invariant-loop-attribute : goal.invariant-loop-attribute
invariant-loop-attribute l = l.parts ≡ l.initial.parts ++ map (part_of l.message l.flags l.text) (take l.attribute-index l.attributes)
