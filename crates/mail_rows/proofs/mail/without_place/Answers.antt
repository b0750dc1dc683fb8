use Rattle.std.proofs.Common.{◌∙◌, ap}
use Rattle.verb_core.specs.KeyOrder.{keys_rise}
use Rattle.mail_rows.proofs.Gone.{left_rises}
use Rattle.mail_rows.proofs.mail.without_place.Goals as goal

pub from_parts-requires : goal.from_parts-requires
from_parts-requires c = λ t. ap keys_rise c.remove.ensures.items ∙ left_rises c.args.list.items c.args.place c.requires.rising
