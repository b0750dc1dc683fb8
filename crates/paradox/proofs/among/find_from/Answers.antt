use Rattle.paradox.proofs.Searching.{found_behind, found_before}
use Rattle.paradox.proofs.among.find_from.Goals as goal

pub returns-in-Some-clause-found : goal.returns-in-Some-clause-found
returns-in-Some-clause-found g c = found_behind (g.S.Sameness.same c.args.wanted.now) c.args.items.now c.split_at.result.0.now c.split_at.result.1.now c.args.from c.split_at.ensures.front c.split_at.ensures.back c.in-Some.place c.in-Some.ensures

pub returns-in-None-clause-found : goal.returns-in-None-clause-found
returns-in-None-clause-found g c = found_before (g.S.Sameness.same c.args.wanted.now) c.args.items.now c.split_at.result.0.now c.split_at.result.1.now c.args.from c.split_at.ensures.front c.split_at.ensures.back c.find_place-in-None.result c.in-None.ensures c.find_place-in-None.ensures
