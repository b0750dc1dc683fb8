use Rattle.std.proofs.Common.{[], ◌∷◌, Some, ap}
use Rattle.std.specs.Prelude.{option_and_then}
use Rattle.store_kept.specs.Kept.{Kept}
use Rattle.kept_laws.proofs.Again.{each_again}
use Rattle.kept_laws.proofs.Staying.{state_hold}
use Rattle.kept_laws.proofs.laws.items_can_be_kept_again.Goals as goal

pub returns : goal.returns
returns c = λ records kept is.
    each_again kept
    (state_hold (λ old new r sound e. c.records_let_uids_last.ensures.sound old new (r ∷ []) sound (ap (option_and_then (λ (k : Kept). Some k)) e)) c.fronts_are_sound.ensures.sound records kept is)
