use Rattle.std.proofs.Common.{[], ◌∷◌, Some, ap}
use Rattle.std.specs.Prelude.{option_and_then}
use Rattle.store_kept.specs.Kept.{Kept}
use Rattle.cut_laws.proofs.States.{state_cut}
use Rattle.cut_laws.proofs.laws.journals_can_be_cut.Goals as goal

pub returns : goal.returns
returns c =
    state_cut c.reports_are_kept.ensures.rising c.states_are_sound.ensures.sound
    (λ old new r sound is. c.records_let_uids_last.ensures.sound old new (r ∷ []) sound (ap (option_and_then (λ (k : Kept). Some k)) is))
