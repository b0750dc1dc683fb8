use Rattle.verb_bytes.proofs.Along.{walks_all, walks_next}
use Rattle.verb_bytes.proofs.places.place_each.Goals as goal

pub loop-item-preserved : goal.loop-item-preserved
loop-item-preserved g c =
    walks_next g.T.Part.fields g.T.Placed.place c.args.items.now c.loop-item.item-index c.args.from c.args.places.now c.loop-item.at c.in_ok-at.at c.loop-item.places c.place.new.places c.item-item.result c.loop-item-test.true c.item-item.is c.in_ok-at.ensures.0 c.in_ok-at.ensures.1 c.loop-item.invariant

pub returns : goal.returns
returns g c = walks_all g.T.Part.fields g.T.Placed.place c.args.items.now c.loop-item.item-index c.args.from c.args.places.now c.loop-item.at c.loop-item.places c.loop-item-test.false c.loop-item.invariant
