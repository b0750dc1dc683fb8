use Rattle.std.proofs.Common.{[], ◌∷◌, Some, ap}
use Rattle.std.specs.Prelude.{option_and_then}
use Rattle.store_kept.specs.Kept.{Kept}
use Rattle.kept_laws.proofs.Again.{base_again}
use Rattle.kept_laws.proofs.Staying.{state_hold}
use Rattle.kept_laws.proofs.laws.bases_can_be_recorded.Goals as goal

pub returns : goal.returns
returns c = λ records kept place is framed uids.
    base_again c.mail_is_kept.ensures (λ house conf boxes. (c.rows_make_valid_stores.ensures.valid house conf boxes).1) kept place
    (state_hold (λ old new r sound e. c.records_let_uids_last.ensures.sound old new (r ∷ []) sound (ap (option_and_then (λ (k : Kept). Some k)) e)) c.fronts_are_sound.ensures.sound records kept is)
    (c.states_are_sound.ensures.revs records kept is) (c.journals_can_be_cut.ensures records kept is) framed uids
