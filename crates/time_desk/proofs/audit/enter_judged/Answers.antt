use Rattle.std.proofs.Common.{◌∙◌, ap}
use Rattle.verb_core.specs.Step.{step}
use Rattle.store_kept.specs.Kept.{Kept, performed, store_of}
use Rattle.time_desk.proofs.Judging.{shows_step}
use Rattle.time_desk.proofs.audit.enter_judged.Goals as goal

pub returns-in-Ok-clause-judged : goal.returns-in-Ok-clause-judged
returns-in-Ok-clause-judged c =
    shows_step c.args.desk.now.kept c.args.item c.in-Ok.ready.item c.enter_shown-item.result.0 c.enter_shown-item.result.1 c.shows-same.result c.enter_shown-item.new.self.kept c.in-Ok.ensures.item c.enter_shown-item.ensures.item
    (c.enter_shown-item.ensures.shown ∙ ap (λ (k : Kept). (step (store_of k) c.in-Ok.ready.item).1) c.in-Ok.ensures.kept)
    (c.enter_shown-item.ensures.kept ∙ ap (λ (k : Kept). performed k c.in-Ok.ready.item) c.in-Ok.ensures.kept) c.shows-same.ensures.same c.shows-same.ensures.other
