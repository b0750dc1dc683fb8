use Rattle.std.proofs.Common.{◌∙◌, ap, subst, sym}
use Rattle.verb_core.specs.Store.{MailStore}
use Rattle.store_kept.specs.Kept.{Kept}
use Rattle.time_desk.specs.Serving.{CanServe}
use Rattle.time_desk.proofs.beginning.at_first.Goals as goal

pub returns-in-Ok-clause-serves : goal.returns-in-Ok-clause-serves
returns-in-Ok-clause-serves c =
    subst (λ (s : MailStore). CanServe c.args.desk.now.kept 0 s) (sym (c.in-Ok.ensures.store ∙ ap (λ (k : Kept). k.base) c.begun.ensures)) (c.fronts_serve.ensures 0)
