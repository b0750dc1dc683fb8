use Rattle.std.proofs.Common.{length}
use Rattle.std.proofs.lemmas.List.{take_min}
use Rattle.console_head.proofs.Reading.{min_swapped}
use Rattle.console_head.proofs.request.front.Goals as goal

pub returns : goal.returns
returns c = rw (c.before-2.ensures, c.min.ensures, min_swapped (length c.args.bytes.now)) (take_min 16384 c.args.bytes.now)
