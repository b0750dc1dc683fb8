use Rattle.std.proofs.Common.{ℕ, ◌*◌, ◌<◌, ◌∙◌, ap, subst, sym}
use Rattle.std.specs.Int.{div_ceil}
use Rattle.replay_crew.specs.Working.{run_length}
use Rattle.replay_crew.proofs.Loops.{runs_begin, some_run}
use Rattle.replay_crew.proofs.level.run_count.Goals as goal

pub returns-clause-each : goal.returns-clause-each
returns-clause-each c =
    let count = c.args.count in
    let size = run_length count in
    subst (λ (n : ℕ). (run : ℕ) → run < n → run * size < count) (sym (c.div_ceil.ensures ∙ ap (div_ceil count) c.run_size.ensures)) (λ run h. runs_begin count size run (some_run count c.requires) h)
