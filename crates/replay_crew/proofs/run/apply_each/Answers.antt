use Rattle.std.proofs.Common.{◌≡◌, ◌∷◌, [], length, map, sym, ap, ◌∙◌, arith}
use Rattle.std.specs.Vec.Iter.{into_iter_items}
use Rattle.replay_crew.specs.Working.{applied_each, put_each, shown_at}
use Rattle.replay_crew.proofs.Loops.{at_err, nothing_left}
use Rattle.replay_crew.proofs.run.apply_each.Goals as goal

pub loop-one-preserved : goal.loop-one-preserved
loop-one-preserved g c =
    let at = c.loop-one in
    let x = c.in-Some.one in
    let rest = into_iter_items c.next.new.self in
    let steps : into_iter_items at.one-iterator ≡ x ∷ rest = c.in-Some.ensures.steps.0 in
    let done = c.in_ok-apply_made.ensures in
    record {
      long = let was = at.invariant.long in let gone = c.in-Some.ensures.steps.1 in let short = ap length steps in omega arith;
      store = ap (applied_each rest) done.store ∙ ap (λ ms. applied_each ms at.store.store) (sym steps) ∙ at.invariant.store;
      shows = ap (put_each (map shown_at rest)) done.shows ∙ ap (λ ms. put_each (map shown_at ms) at.shows.items) (sym steps) ∙ at.invariant.shows;
      steps = omega (arith, done.step, ap length steps, at.invariant.steps);
    }

pub returns-in_err-apply_made-clause-most : goal.returns-in_err-apply_made-clause-most
returns-in_err-apply_made-clause-most g c =
    let at = c.loop-one in
    let steps : into_iter_items at.one-iterator ≡ c.in-Some.one ∷ into_iter_items c.next.new.self = c.in-Some.ensures.steps.0 in
    let all = c.into_iter-one-iterator.ensures.into_iter_gives.0 in
    at_err c.from_residual.result (omega (arith, c.in_err-apply_made.ensures.no_step, ap length steps, at.invariant.steps, ap length all))

pub returns : goal.returns
returns g c =
    let at = c.loop-one in
    let none = c.in-None.ensures.steps in
    let empty : into_iter_items at.one-iterator ≡ [] = nothing_left _ (sym at.invariant.long ∙ none.0) in
    let all = c.into_iter-one-iterator.ensures.into_iter_gives.0 in
    record {
      store = sym (ap (λ ms. applied_each ms at.store.store) empty) ∙ at.invariant.store ∙ ap (λ ms. applied_each ms c.args.store.now.store) all;
      shows = sym (ap (λ ms. put_each (map shown_at ms) at.shows.items) empty) ∙ at.invariant.shows ∙ ap (λ ms. put_each (map shown_at ms) c.args.shows.now.items) all;
      steps = omega (arith, at.invariant.steps, ap length empty, ap length all);
      most = tt;
    }
