use Rattle.std.proofs.Common.{◌≡◌, ◌*◌, ◌≤◌, length, map, sym, subst, arith, ℕ, Vec}
use Rattle.std.specs.Prelude.{IfOk}
use Rattle.std.specs.List.{AllByRecursion}
use Rattle.std.specs.declared.alloc.Global.{Global}
use Rattle.replay_crew.specs.declared.made.Made.{Made}
use Rattle.replay_crew.specs.Working.{IsMade, run_length}
use Rattle.replay_crew.proofs.Loops.{first_if, level_made, second_if}
use Rattle.replay_crew.proofs.level.make_level.Goals as goal
use Rattle.replay_crew.proofs.level.make_level.Goals.{After-joined}

made : (g : _) (c : After-joined g) → IfOk c.joined.result (λ (made : Vec Made Global). (map (λ (m : Made). m.place) made.items ≡ c.args.places.now) × AllByRecursion (IsMade c.args.store.now.store c.args.items.now) made.items)
made g c =
    let places = c.args.places.now in
    let runs = c.in_ok-runs.runs in
    let long : length runs.items ≡ c.run_count.result = omega (arith, runs.ok.0, c.in_ok-runs.ensures.len) in
    level_made c.args.store.now.store c.args.items.now places runs.items c.joined.result
    (subst (λ (n : ℕ). length places ≤ n * run_length (length places)) (sym long) c.run_count.ensures.all)
    (λ i d h. (c.in_ok-runs.ensures.each i d (omega (arith, h, long))).1.met)
    c.joined.ensures.joined c.joined.ensures.each

pub returns-clause-places : goal.returns-clause-places
returns-clause-places g c = first_if (λ (made : Vec Made Global). map (λ (m : Made). m.place) made.items ≡ c.args.places.now) (λ (made : Vec Made Global). AllByRecursion (IsMade c.args.store.now.store c.args.items.now) made.items) c.joined.result (made g (goal.at.returns-clause-places g c).After-joined)

pub returns-clause-made : goal.returns-clause-made
returns-clause-made g c = second_if (λ (made : Vec Made Global). map (λ (m : Made). m.place) made.items ≡ c.args.places.now) (λ (made : Vec Made Global). AllByRecursion (IsMade c.args.store.now.store c.args.items.now) made.items) c.joined.result (made g (goal.at.returns-clause-made g c).After-joined)
