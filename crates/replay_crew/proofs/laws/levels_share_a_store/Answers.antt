use Rattle.replay_crew.proofs.OneStore.{level_kept, level_names, level_answer}
use Rattle.replay_crew.proofs.AimsHeld.{level_aims}
use Rattle.replay_crew.proofs.laws.levels_share_a_store.Goals as goal

pub returns : goal.returns
returns c = record {
  mailboxes = λ s level p. level_kept level s p;
  names = λ s level p. level_names level s p;
  answer = λ s level p. level_answer level s p;
  aims = λ s level p. level_aims level s p;
}
