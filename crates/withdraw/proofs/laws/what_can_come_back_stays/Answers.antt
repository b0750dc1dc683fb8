use Rattle.withdraw.proofs.Back.{stays_back, texts_stay}
use Rattle.withdraw.proofs.laws.what_can_come_back_stays.Goals as goal

pub returns : goal.returns
returns c = record {
  items = λ house present i last lt back. stays_back house present last back i lt;
  texts = λ house present i last lt back texts. texts_stay house present last back i lt texts;
}
