use Rattle.std.proofs.Common.{◌≡◌, ℕ, ◌+◌, ◌∷◌, List, drop, length, map, sym, ap, subst, ◌∙◌, arith, length-append}
use Rattle.std.specs.List.{enumerate_from}
use Rattle.verb_core.specs.Store.{MailStore}
use Rattle.replay_crew.specs.Orders.{Placed, run_levels, run_turns, levels_at, told_by_levels}
use Rattle.replay_crew.specs.Resolving.{turn_of}
use Rattle.replay_crew.specs.Working.{AreLevels, answers_on, level_of, put_each}
use Rattle.replay_crew.proofs.LevelDone.{length_map}
use Rattle.replay_crew.proofs.Loops.{at_err, drop_next}
use Rattle.replay_crew.proofs.Placed.{put_join}
use Rattle.replay_crew.proofs.run.run_each_level.Goals as goal

pub loop-places-preserved : goal.loop-places-preserved
loop-places-preserved g c =
    let at = c.loop-places in
    let s : MailStore = at.store.store in
    let items = c.args.items.now in
    let all : List Placed = enumerate_from 0 (map turn_of items) in
    let plan = c.args.plan.now in
    let places : List ℕ = c.as_slice.result.now in
    let rest : List (List ℕ) = drop (at.places-index + 1) plan in
    let level : List Placed = level_of items places in
    let behind : MailStore = run_turns s level in
    let new : MailStore = c.run_level.new.store.store in
    let item : c.places-item.result ≡ places = sym c.as_slice.ensures in
    let shown : List (List ℕ) = c.as_slice-places-items.result.now in
    let next : drop at.places-index plan ≡ places ∷ rest =
    subst (λ (p : List (List ℕ)). drop at.places-index p ≡ places ∷ drop (at.places-index + 1) p) c.as_slice-places-items.ensures
    (drop_next shown at.places-index c.places-item.result c.loop-places-test.true c.places-item.is ∙ ap (λ x. x ∷ drop (at.places-index + 1) shown) item) in
    let done = c.in_ok-run_level.ensures in
    let levels : AreLevels s items (places ∷ rest) = subst (AreLevels s items) next at.invariant.levels in
    let told : List (ℕ × _) = told_by_levels behind (levels_at all rest) in
    record {
      valid = done.valid;
      levels = subst (λ (u : MailStore). AreLevels u items rest) (sym done.store) levels.1;
      store = ap (λ (u : MailStore). run_levels u (levels_at all rest)) done.store ∙ ap (λ (p : List (List ℕ)). run_levels s (levels_at all p)) (sym next) ∙ at.invariant.store;
      shows =
          ap (λ (u : MailStore). put_each (told_by_levels u (levels_at all rest)) c.run_level.new.shows.items) done.store
          ∙ ap (put_each told) done.shows
          ∙ sym (put_join (answers_on s level) told at.shows.items)
          ∙ ap (λ (p : List (List ℕ)). put_each (told_by_levels s (levels_at all p)) at.shows.items) (sym next)
          ∙ at.invariant.shows;
      steps =
          let new_told : length (told_by_levels new (levels_at all rest)) ≡ length told = ap (λ (u : MailStore). length (told_by_levels u (levels_at all rest))) done.store in
          let old_told : length (told_by_levels s (levels_at all (drop at.places-index plan))) ≡ length level + length told =
          ap (λ (p : List (List ℕ)). length (told_by_levels s (levels_at all p))) next ∙ length-append (answers_on s level) told ∙ ap (λ n. n + length told) (length_map _ level) in
          omega (arith, done.steps, new_told, old_told, at.invariant.steps);
    }

pub returns-in_err-run_level-clause-most : goal.returns-in_err-run_level-clause-most
returns-in_err-run_level-clause-most g c =
    let at = c.loop-places in
    let s : MailStore = at.store.store in
    let items = c.args.items.now in
    let all : List Placed = enumerate_from 0 (map turn_of items) in
    let plan = c.args.plan.now in
    let places : List ℕ = c.as_slice.result.now in
    let rest : List (List ℕ) = drop (at.places-index + 1) plan in
    let level : List Placed = level_of items places in
    let item : c.places-item.result ≡ places = sym c.as_slice.ensures in
    let shown : List (List ℕ) = c.as_slice-places-items.result.now in
    let next : drop at.places-index plan ≡ places ∷ rest =
    subst (λ (p : List (List ℕ)). drop at.places-index p ≡ places ∷ drop (at.places-index + 1) p) c.as_slice-places-items.ensures
    (drop_next shown at.places-index c.places-item.result c.loop-places-test.true c.places-item.is ∙ ap (λ x. x ∷ drop (at.places-index + 1) shown) item) in
    let told : List (ℕ × _) = told_by_levels (run_turns s level) (levels_at all rest) in
    let old_told : length (told_by_levels s (levels_at all (drop at.places-index plan))) ≡ length level + length told =
    ap (λ (p : List (List ℕ)). length (told_by_levels s (levels_at all p))) next ∙ length-append (answers_on s level) told ∙ ap (λ n. n + length told) (length_map _ level) in
    at_err c.from_residual.result (omega (arith, c.in_err-run_level.ensures.most, old_told, at.invariant.steps))
