use Rattle.store_kept.specs.Kept.{origin_of}
use Rattle.store_kept.proofs.Coming.{comes_on, texts_on}
use Rattle.store_kept.proofs.laws.what_can_come_back_stays.Goals as goal

pub returns : goal.returns
returns c = record {
  items = λ kept item e h. comes_on (origin_of kept) kept.timeline kept.next item kept.undone e h;
  texts = λ kept item e h t. texts_on (origin_of kept) kept.timeline kept.next item kept.undone e h t;
}
