use Rattle.verb_bytes.proofs.AskedRanges.{item_is_spelled}
use Rattle.dialog_laws.proofs.Live.{live_asked, live_delivery}
use Rattle.dialog_laws.proofs.ranges.live_items_have_spellings.Goals as goal

pub returns-clause-asked : goal.returns-clause-asked
returns-clause-asked c = live_asked

pub returns-clause-spelled : goal.returns-clause-spelled
returns-clause-spelled c s number at by ask deep item valid stored h user le timely e = item_is_spelled item (live_asked s number at by ask deep item valid stored h user le timely e)

pub returns-clause-delivered : goal.returns-clause-delivered
returns-clause-delivered c = live_delivery
