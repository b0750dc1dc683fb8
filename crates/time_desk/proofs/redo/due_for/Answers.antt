use Rattle.std.proofs.Common.{◌≡◌, IfErr, subst, sym}
use Rattle.store_kept.specs.Kept.{Kept}
use Rattle.cycle_rules.specs.Asking.{due_anew}
use Rattle.mail_cycle.specs.Refusing.{IsRefusalBy, IsRefusalOf}
use Rattle.mail_cycle.specs.declared.refused.CycleRefused.{CycleRefused}
use Rattle.time_desk.specs.declared.request.Request.{Request}
use Rattle.time_desk.specs.Requests.{anew_of, wanted_of}
use Rattle.time_desk.specs.Serving.{unmarked}
use Rattle.time_desk.proofs.Requests.{refused_as}
use Rattle.time_desk.proofs.Standings.{if_err}
use Rattle.time_desk.proofs.redo.due_for.Goals as goal

pub returns-in-Cycle-clause-refused : goal.returns-in-Cycle-clause-refused
returns-in-Cycle-clause-refused c =
    let kept = c.args.desk.now.kept in
    let ask = c.in-Cycle.ask.now in
    subst (λ (asked : Request). IfErr c.cycle.result (IsRefusalBy kept (wanted_of asked) (anew_of kept c.args.at asked))) (sym c.in-Cycle.is)
    (if_err c.cycle.result (λ (why : CycleRefused). IsRefusalBy (unmarked kept) ask.point (due_anew kept c.args.at ask) why) (λ (why : CycleRefused). IsRefusalBy kept ask.point (due_anew kept c.args.at ask) why)
    (λ why is. refused_as kept ask.point (due_anew kept c.args.at ask) why is)
    (subst (λ (k : Kept). IfErr c.cycle.result (IsRefusalOf k ask (due_anew k c.args.at ask))) c.begun.ensures c.cycle.ensures.refused))
