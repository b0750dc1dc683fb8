use Rattle.paradox.specs.Answers.{looks_at_texts}
use Rattle.paradox.proofs.Told.{own_is_told, broken_is_told, told_is_known, who_is_told}
use Rattle.paradox.proofs.laws.broken_items_are_told.Goals as goal

pub returns : goal.returns
returns c = record {
  broken = λ house item now reason formed is. broken_is_told house item (looks_at_texts item.deed) now reason formed is;
  own = λ house item reason formed by. own_is_told house item reason formed by;
  user = λ house item reason told formed is. told_is_known house item reason told formed is;
  notice = λ house before told after known. who_is_told house before told after known;
}
