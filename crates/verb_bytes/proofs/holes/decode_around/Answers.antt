use Rattle.std.proofs.Common.{◌∙◌, List, ℕ, length, refl, subst}
use Rattle.verb_bytes.specs.Spelling.{Spells}
use Rattle.verb_bytes.proofs.holes.decode_around.Goals as goal

pub returns-then-has_hole-clause-around : goal.returns-then-has_hole-clause-around
returns-then-has_hole-clause-around c =
    let what = c.in-Ok-decode_record.what in
    let front = c.args.front.now in
    c.holes_are_filled.ensures.spells what (length front) c.args.count front c.args.back.now (c.has_hole.ensures c.if-has_hole.true) refl
    (subst (λ (bytes : List ℕ). Spells what bytes) (c.bytes-2.ensures.value ∙ c.in-Ok.ensures) c.in-Ok-decode_record.ensures.found)
