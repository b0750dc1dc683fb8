use Rattle.std.proofs.Common.{◌≡◌, [], ◌∷◌, Some, None, arith}
use Rattle.verb_bytes.specs.Readers.{done, read1}
use Rattle.verb_bytes.proofs.Cases.{chosen}
use Rattle.verb_bytes.proofs.part.read_option.Goals as goal

pub returns : goal.returns
returns g c =
    let one : c.in_ok-byte.byte ≡ 1 = omega (arith, c.in_ok-byte.ensures.low, c.in_ok-byte.ensures.high) in
    chosen 0 1 (done None ∷ read1 Some g.T.Part.reader ∷ []) c.args.cursor.now.rest.now c.byte.new.self.rest.now c.read_some.new.cursor.rest.now c.in_ok-byte.byte 1 c.read_some.result c.in_ok-byte.ensures.gives one c.read_some.ensures
