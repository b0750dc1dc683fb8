use Rattle.std.proofs.Common.{◌≡◌, ◌+◌, drop}
use Rattle.verb_core.specs.Step.{run}
use Rattle.verb_core.specs.Store.{IsValid}
use Rattle.mail_cycle.proofs.settling.perform_all.Given as goal

-- the notices that are left, performed on the store so far, lead to the store of all
abbrev pub invariant-loop-notice : goal.invariant-loop-notice
invariant-loop-notice g l = record {
  store : run l.store.store (drop l.notice-index l.notices) ≡ run l.initial.store.store l.notices;
  valid : IsValid l.store.store;
  house : l.store.store.house ≡ l.initial.store.store.house;
  steps : l.steps ≡ l.initial.steps + l.notice-index;
}
