use Rattle.copy_laws.proofs.Cutting.{mended_at}
use Rattle.copy_laws.proofs.laws.damages_are_mended.Goals as goal

pub returns : goal.returns
returns c = λ image new place damaged written. mended_at damaged.payloads image damaged.rest new place damaged.short damaged.split damaged.place_is written
