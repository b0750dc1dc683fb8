use Rattle.std.proofs.Common.{◌≡◌, true, false, [], ◌∷◌, Ok, refl, arith}
use Rattle.verb_bytes.specs.Readers.{done}
use Rattle.verb_bytes.proofs.Cases.{chosen}
use Rattle.verb_bytes.proofs.cursor.Cursor.bool.Goals as goal

pub returns : goal.returns
returns c =
    let one : c.in_ok-byte.byte ≡ 1 = omega (arith, c.in_ok-byte.ensures.low, c.in_ok-byte.ensures.high) in
    chosen 0 1 (done false ∷ done true ∷ []) c.args.self.now.rest.now c.byte.new.self.rest.now c.byte.new.self.rest.now c.in_ok-byte.byte 1 (Ok true) c.in_ok-byte.ensures.gives one refl
