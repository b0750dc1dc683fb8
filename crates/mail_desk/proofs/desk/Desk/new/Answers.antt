use Rattle.std.proofs.Common.{IsTrue, subst, sym}
use Rattle.std.specs.List.{list_all}
use Rattle.verb_core.specs.Store.{is_known}
use Rattle.store_kept.specs.Kept.{Origin}
use Rattle.mail_desk.proofs.desk.Desk.new.Goals as goal

pub begun_over-requires-clause-aliases : goal.begun_over-requires-clause-aliases
begun_over-requires-clause-aliases c =
    subst (λ (o : Origin). IsTrue (list_all (λ a. list_all (is_known o.house) a.users) o.opening.aliases)) (sym c.new-base.ensures) c.requires.aliases
