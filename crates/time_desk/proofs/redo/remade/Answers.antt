use Rattle.std.proofs.Common.{List, ap, ap₂, ℕ}
use Rattle.mail_desk.specs.declared.remake.Left.{Left}
use Rattle.mail_desk.specs.Remaking.{left_as}
use Rattle.time_desk.proofs.Standings.{if_ok}
use Rattle.time_desk.proofs.redo.remade.Goals as goal

pub returns-clause-made : goal.returns-clause-made
returns-clause-made c = if_ok c.remake.result _ _ (λ made is. ap₂ (λ (key : List ℕ) (left : Left). left_as c.args.desk.now.kept key left) is.key is.left) c.remake.ensures.remakes

pub returns-clause-report : goal.returns-clause-report
returns-clause-report c = if_ok c.remake.result _ _ (λ made is. ap (λ (left : Left). left.report) is.left) c.remake.ensures.remakes

pub returns-clause-notes : goal.returns-clause-notes
returns-clause-notes c = if_ok c.remake.result _ _ (λ made is. is.notes) c.remake.ensures.remakes

pub returns-clause-place : goal.returns-clause-place
returns-clause-place c = if_ok c.remake.result _ _ (λ made is. ap (λ (left : Left). left.place) is.left) c.remake.ensures.remakes

pub returns-clause-ready : goal.returns-clause-ready
returns-clause-ready c = if_ok c.remake.result _ _ (λ made is. is.ready) c.remake.ensures.remakes
