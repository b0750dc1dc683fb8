use Rattle.std.proofs.Common.{ap, length, ◌∙◌, ◌+◌}
use Rattle.std.specs.Prelude.{min}
use Rattle.verb_bytes.specs.Fields.{most_of_four}
use Rattle.verb_bytes.proofs.Along.{counts_all, counts_next}
use Rattle.verb_bytes.proofs.places.names_size.Goals as goal

pub loop-name-preserved : goal.loop-name-preserved
loop-name-preserved c =
    counts_next c.args.names.now c.loop-name.name-index c.loop-name.size c.added-size.result c.name-item.result c.loop-name-test.true c.name-item.is (c.added-size.ensures ∙ ap (λ n. min (c.loop-name.size + (1 + length n)) most_of_four) c.bytes.ensures.value) c.loop-name.invariant

pub returns : goal.returns
returns c = counts_all c.args.names.now c.loop-name.name-index c.loop-name.size c.loop-name-test.false c.loop-name.invariant
