use Rattle.mail_rows.proofs.KeyPlaces.{beside_found}
use Rattle.mail_rows.proofs.key_index.KeyIndex.of_rising.Goals as goal

pub returns : goal.returns
returns c = λ key. beside_found c.args.entries.now key
