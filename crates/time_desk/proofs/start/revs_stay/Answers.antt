use Rattle.std.proofs.Common.{[], ◌∷◌, ap}
use Rattle.std.specs.Prelude.{option_and_then}
use Rattle.store_kept.specs.Kept.{Kept}
use Rattle.desk_journal.specs.Records.{after_records}
use Rattle.time_desk.proofs.start.revs_stay.Goals as goal

pub returns-clause-revs : goal.returns-clause-revs
returns-clause-revs g what next runs revs back is =
    g.records_let_uids_last.ensures.revs g.args.desk.now.kept next (what ∷ []) (record {
      house = g.stands.ensures.house;
      aliases = g.stands.ensures.aliases;
      base = g.stands.ensures.base;
      runs = runs;
      timeline = g.stands.ensures.timeline;
      below = g.stands.ensures.below;
      named = g.stands.ensures.named;
      fresh = g.stands.ensures.fresh;
      undone = g.stands.ensures.undone;
    }) revs back (ap (option_and_then (λ (k : Kept). after_records k [])) is)

pub returns-clause-back : goal.returns-clause-back
returns-clause-back g what next runs revs back is =
    g.records_let_uids_last.ensures.back g.args.desk.now.kept next (what ∷ []) (record {
      house = g.stands.ensures.house;
      aliases = g.stands.ensures.aliases;
      base = g.stands.ensures.base;
      runs = runs;
      timeline = g.stands.ensures.timeline;
      below = g.stands.ensures.below;
      named = g.stands.ensures.named;
      fresh = g.stands.ensures.fresh;
      undone = g.stands.ensures.undone;
    }) revs back (ap (option_and_then (λ (k : Kept). after_records k [])) is)

pub returns-clause-runs : goal.returns-clause-runs
returns-clause-runs g what next runs is =
    (g.records_let_uids_last.ensures.sound g.args.desk.now.kept next (what ∷ []) (record {
      house = g.stands.ensures.house;
      aliases = g.stands.ensures.aliases;
      base = g.stands.ensures.base;
      runs = runs;
      timeline = g.stands.ensures.timeline;
      below = g.stands.ensures.below;
      named = g.stands.ensures.named;
      fresh = g.stands.ensures.fresh;
      undone = g.stands.ensures.undone;
    }) (ap (option_and_then (λ (k : Kept). after_records k [])) is)).runs
