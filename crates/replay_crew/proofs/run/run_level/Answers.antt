use Rattle.std.proofs.Common.{◌≡◌, ◌≤◌, ◌+◌, sym, ap, subst, ◌∙◌, arith}
use Rattle.verb_core.specs.Store.{IsValid}
use Rattle.replay_crew.specs.Working.{level_of, put_each}
use Rattle.replay_crew.proofs.LevelDone.{level_can, level_does, level_many, level_tells}
use Rattle.replay_crew.proofs.LevelsRun.{run_valid}
use Rattle.replay_crew.proofs.Loops.{on_err, on_ok}
use Rattle.replay_crew.proofs.run.run_level.Goals as goal

pub make_level-requires-clause-can : goal.make_level-requires-clause-can
make_level-requires-clause-can g c κs within = level_can c.args.store.now.store c.args.items.now c.args.places.now c.requires.level

pub returns-clause-store : goal.returns-clause-store
returns-clause-store g c =
    let made = c.in_ok-made.ensures in
    let does = level_does c.args.store.now.store c.args.items.now c.args.places.now c.in_ok-made.made.items c.requires.valid c.requires.level made.places made.made in
    on_ok c.apply_each.result (λ e. e ∙ does) c.apply_each.ensures.store

pub returns-clause-valid : goal.returns-clause-valid
returns-clause-valid g c =
    let made = c.in_ok-made.ensures in
    let does = level_does c.args.store.now.store c.args.items.now c.args.places.now c.in_ok-made.made.items c.requires.valid c.requires.level made.places made.made in
    let valid = run_valid c.args.store.now.store (level_of c.args.items.now c.args.places.now) c.requires.valid c.requires.level.fit in
    on_ok c.apply_each.result (λ e. subst IsValid (sym (e ∙ does)) valid) c.apply_each.ensures.store

pub returns-clause-shows : goal.returns-clause-shows
returns-clause-shows g c =
    let made = c.in_ok-made.ensures in
    let tells = level_tells c.args.store.now.store c.args.items.now c.args.places.now c.in_ok-made.made.items c.requires.valid c.requires.level made.places made.made in
    on_ok c.apply_each.result (λ e. e ∙ ap (λ told. put_each told c.args.shows.now.items) tells) c.apply_each.ensures.shows

pub returns-clause-steps : goal.returns-clause-steps
returns-clause-steps g c =
    let made = c.in_ok-made.ensures in
    let many = level_many c.args.store.now.store c.args.items.now c.args.places.now c.in_ok-made.made.items c.requires.valid c.requires.level made.places made.made in
    on_ok c.apply_each.result (λ (e : c.apply_each.new.steps ≡ c.args.steps.now + _). omega (arith, e, many, c.in_ok-made.made.ok.0)) c.apply_each.ensures.steps

pub returns-clause-most : goal.returns-clause-most
returns-clause-most g c =
    let made = c.in_ok-made.ensures in
    let many = level_many c.args.store.now.store c.args.items.now c.args.places.now c.in_ok-made.made.items c.requires.valid c.requires.level made.places made.made in
    on_err c.apply_each.result (λ (e : c.apply_each.new.steps ≤ c.args.steps.now + _). omega (arith, e, many, c.in_ok-made.made.ok.0)) c.apply_each.ensures.most
