use Rattle.std.proofs.Common.{◌≡◌, ℕ, ◌+◌, List, length, map, sym, ap, subst, ◌∙◌, arith}
use Rattle.std.specs.List.{enumerate_from}
use Rattle.verb_core.specs.declared.item.Resolved.{Resolved}
use Rattle.replay_crew.specs.Orders.{levels_at, run_levels, told_by_levels}
use Rattle.replay_crew.specs.Resolving.{turn_of}
use Rattle.replay_crew.specs.Working.{AreLevels, put_each}
use Rattle.replay_crew.proofs.PlanRun.{plan_answers, plan_levels, plan_runs, plan_steps}
use Rattle.replay_crew.proofs.Loops.{at_err}
use Rattle.replay_crew.proofs.run.run_plan.Goals as goal

pub run_each_level-requires-clause-levels : goal.run_each_level-requires-clause-levels
run_each_level-requires-clause-levels g c κs within =
    let s = c.args.store.store in
    let from = c.requires.resolved in
    subst (λ (all : List Resolved). AreLevels s all c.args.plan.now) (sym c.as_slice-items.ensures)
    (subst (AreLevels s c.args.items.now) (sym c.requires.plan) (plan_levels s from.0 c.args.items.now c.requires.valid from.1))

pub returns-clause-store : goal.returns-clause-store
returns-clause-store g c = λ timeline from.
    let s = c.args.store.store in
    c.in_ok-run_each_level.ensures.store
    ∙ ap (λ (all : List Resolved). run_levels s (levels_at (enumerate_from 0 (map turn_of all)) c.args.plan.now)) c.as_slice-items.ensures
    ∙ ap (λ (plan : List (List ℕ)). run_levels s (levels_at (enumerate_from 0 (map turn_of c.args.items.now)) plan)) c.requires.plan
    ∙ plan_runs s timeline c.args.items.now c.requires.valid from

pub returns-clause-shows : goal.returns-clause-shows
returns-clause-shows g c = λ timeline from.
    let s = c.args.store.store in
    let shows = c.in_ok-shows.shows.items in
    let long : length shows ≡ length c.args.items.now = c.in_ok-shows.ensures ∙ ap length c.as_slice-items.ensures in
    c.from_vec.ensures
    ∙ c.in_ok-run_each_level.ensures.shows
    ∙ ap (λ (all : List Resolved). put_each (told_by_levels s (levels_at (enumerate_from 0 (map turn_of all)) c.args.plan.now)) shows) c.as_slice-items.ensures
    ∙ ap (λ (plan : List (List ℕ)). put_each (told_by_levels s (levels_at (enumerate_from 0 (map turn_of c.args.items.now)) plan)) shows) c.requires.plan
    ∙ plan_answers s timeline c.args.items.now c.requires.valid from shows long

pub returns-clause-steps : goal.returns-clause-steps
returns-clause-steps g c =
    let s = c.args.store.store in
    let from = c.requires.resolved in
    let all_is = ap (λ (all : List Resolved). length (told_by_levels s (levels_at (enumerate_from 0 (map turn_of all)) c.args.plan.now))) c.as_slice-items.ensures in
    let plan_is = ap (λ (plan : List (List ℕ)). length (told_by_levels s (levels_at (enumerate_from 0 (map turn_of c.args.items.now)) plan))) c.requires.plan in
    c.in_ok-run_each_level.ensures.steps
    ∙ ap (λ n. c.args.steps.now + n) (all_is ∙ plan_is ∙ plan_steps s from.0 c.args.items.now c.requires.valid from.1)

pub returns-in_err-run_each_level-clause-most : goal.returns-in_err-run_each_level-clause-most
returns-in_err-run_each_level-clause-most g c =
    let s = c.args.store.store in
    let from = c.requires.resolved in
    let all_is = ap (λ (all : List Resolved). length (told_by_levels s (levels_at (enumerate_from 0 (map turn_of all)) c.args.plan.now))) c.as_slice-items.ensures in
    let plan_is = ap (λ (plan : List (List ℕ)). length (told_by_levels s (levels_at (enumerate_from 0 (map turn_of c.args.items.now)) plan))) c.requires.plan in
    let many = all_is ∙ plan_is ∙ plan_steps s from.0 c.args.items.now c.requires.valid from.1 in
    at_err c.from_residual-in_err-run_each_level.result (omega (arith, c.in_err-run_each_level.ensures.most, many))
