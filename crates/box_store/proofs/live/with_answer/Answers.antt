use Rattle.std.proofs.Common.{◌∙◌, ap, false}
use Rattle.verb_core.specs.Step.{shown}
use Rattle.box_store.specs.Kept.{Kept}
use Rattle.box_store.proofs.live.with_answer.Goals as goal

pub returns-in-Ok : goal.returns-in-Ok
returns-in-Ok c =
    let rows = c.as_slice.ensures.value ∙ ap (λ (k : Kept). k.store.boxes) c.store.view_is in
    let shows = c.in-Ok.ensures ∙ (λ j. shown false (c.who_acts.ensures j) c.args.deed (rows j)) in
    λ j. record { number = c.args.number; at = c.args.at; by = c.args.by; rev = 0; deed = c.args.deed; shown = shows j }
