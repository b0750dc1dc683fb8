use Rattle.std.proofs.Common.{◌≡◌, [], ◌∷◌, Ok, refl, arith}
use Rattle.undo_base.specs.declared.asks.How.TheVariants.{Replace, Add, Take}
use Rattle.verb_bytes.specs.Readers.{done}
use Rattle.verb_bytes.proofs.Cases.{chosen}
use Rattle.verb_bytes.proofs.deeds.read_how.Goals as goal

pub returns : goal.returns
returns c =
    let last : c.in_ok-byte.byte ≡ 2 = omega (arith, c.in_ok-byte.ensures.low, c.in_ok-byte.ensures.high) in
    chosen 0 2 (done Replace ∷ done Add ∷ done Take ∷ []) c.args.cursor.now.rest.now c.byte.new.self.rest.now c.byte.new.self.rest.now c.in_ok-byte.byte 2 (Ok Take) c.in_ok-byte.ensures.gives last refl
