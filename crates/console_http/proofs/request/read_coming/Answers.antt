use Rattle.console_http.proofs.Asking.{asks_of, asks_refused, learns_of}
use Rattle.console_http.proofs.Bodies.{target_is_text}
use Rattle.console_http.proofs.request.read_coming.Goals as goal

pub returns-in-Ok-clause-asks : goal.returns-in-Ok-clause-asks
returns-in-Ok-clause-asks c = asks_of c.args.house.now c.args.bytes.now _ c.read_asked.result c.in-Ok.ensures.says c.read_asked.ensures

pub returns-in-Err-clause-asks : goal.returns-in-Err-clause-asks
returns-in-Err-clause-asks c = rw c.head_refused.ensures (asks_refused c.args.house.now c.args.bytes.now c.in-Err.refused c.in-Err.ensures.says)

pub returns-in-Ok-clause-learns : goal.returns-in-Ok-clause-learns
returns-in-Ok-clause-learns c =
    learns_of c.args.house.now c.read.new.self c.args.bytes.now c.in-Ok.request c.read_asked.result c.read_asked.ensures c.in-Ok.ensures.learnt

pub read_asked-requires-clause-text : goal.read_asked-requires-clause-text
read_asked-requires-clause-text c = target_is_text c.args.bytes.now c.in-Ok.request c.in-Ok.ensures.says
