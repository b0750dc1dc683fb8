use Rattle.store_kept.proofs.Named.{whole_is}
use Rattle.store_kept.proofs.laws.named_texts_are_whole.Goals as goal

pub returns : goal.returns
returns c = λ named boxes rising names. whole_is named boxes rising names
