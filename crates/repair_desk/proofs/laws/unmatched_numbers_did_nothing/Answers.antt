use Rattle.repair_desk.proofs.Vain.{dropped_met, replaced_met}
use Rattle.repair_desk.proofs.laws.unmatched_numbers_did_nothing.Goals as goal

pub returns : goal.returns
returns c = record { drops = dropped_met; replaces = replaced_met }
