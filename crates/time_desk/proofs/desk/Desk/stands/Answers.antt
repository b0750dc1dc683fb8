use Rattle.std.proofs.Common.{subst}
use Rattle.store_kept.specs.Kept.{IsRun}
use Rattle.desk_journal.specs.Lasting.{Lasting}
use Rattle.desk_journal.specs.Permanence.{IsSound}
use Rattle.time_desk.proofs.desk.Desk.stands.Goals as goal

pub returns-clause-sound : goal.returns-clause-sound
returns-clause-sound g c =
    let told = c.stands.ensures in
    subst (λ (l : Lasting g.row.D.Denot). IsRun l.kept → IsSound l.kept) c.self.view_is (λ runs. record {
      house = told.house;
      aliases = told.aliases;
      base = told.base;
      runs = runs;
      timeline = told.timeline;
      below = told.below;
      named = told.named;
      fresh = told.fresh;
      undone = told.undone;
    })
