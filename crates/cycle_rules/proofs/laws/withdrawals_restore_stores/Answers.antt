use Rattle.cycle_rules.proofs.Restoring.{store_restored, taken_back}
use Rattle.cycle_rules.proofs.laws.withdrawals_restore_stores.Goals as goal

pub returns : goal.returns
returns c = record {
  store = store_restored;
  itself = λ s at later ask place within. taken_back s at ask place within later;
}
