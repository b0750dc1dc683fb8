use Rattle.std.proofs.Common.{Some, None, arith, inl}
use Rattle.console_head.proofs.Reading.{known_more, too_short, within_bytes, same_fields, says_by, known_behind, known_none, none_short, none_long, all_looked_at}
use Rattle.console_head.proofs.request.Coming.read.Goals as goal

pub returns-then-bytes-self-clause-says : goal.returns-then-bytes-self-clause-says
returns-then-bytes-self-clause-says c = too_short c.args.self.now c.args.bytes.now c.requires (omega (arith, c.if-bytes-self.true))

pub returns-then-bytes-self-clause-known : goal.returns-then-bytes-self-clause-known
returns-then-bytes-self-clause-known c = known_more c.args.self.now c.args.bytes.now c.requires

pub read_behind-requires-clause-within : goal.read_behind-requires-clause-within
read_behind-requires-clause-within c = within_bytes c.args.bytes.now c.front.result.now c.in-Some.head.size c.front.ensures c.in-Some.ensures.within

pub read_behind-requires-clause-fields : goal.read_behind-requires-clause-fields
read_behind-requires-clause-fields c =
    same_fields c.args.bytes.now c.front.result.now c.in-Some.head c.front.ensures c.in-Some.ensures.value c.in-Some.ensures.within

pub returns-in-Some-clause-says : goal.returns-in-Some-clause-says
returns-in-Some-clause-says c =
    says_by c.args.bytes.now c.front.result.now (Some c.in-Some.head) _ c.front.ensures c.in-Some.ensures.value c.read_behind.ensures.says

pub returns-in-Some-clause-known : goal.returns-in-Some-clause-known
returns-in-Some-clause-known c =
    known_more c.read_behind.new.self c.args.bytes.now
    (known_behind c.read_behind.new.self c.args.bytes.now c.front.result.now c.in-Some.head c.args.self.now.least c.front.ensures
    (rw c.read_behind.ensures.lines c.in-Some.ensures.first) c.in-Some.ensures.stays (omega (arith, c.if-bytes-self.false)) c.read_behind.ensures.least)

pub returns-in-None-clause-says : goal.returns-in-None-clause-says
returns-in-None-clause-says c = says_by c.args.bytes.now c.front.result.now None _ c.front.ensures c.in-None.ensures.value (none_short _ c.if-bytes-lt-MOST_HEAD.true)

pub returns-in-None-clause-known : goal.returns-in-None-clause-known
returns-in-None-clause-known c =
    known_more _ c.args.bytes.now (known_none _ c.args.bytes.now c.front.result.now c.front.ensures c.in-None.ensures.first (omega (arith, c.if-bytes-self.false)))

pub returns-in-None-2-clause-says : goal.returns-in-None-2-clause-says
returns-in-None-2-clause-says c = says_by c.args.bytes.now c.front.result.now None _ c.front.ensures c.in-None-2.ensures.value (none_long _ c.if-bytes-lt-MOST_HEAD.false)

pub returns-in-None-2-clause-known : goal.returns-in-None-2-clause-known
returns-in-None-2-clause-known c =
    known_more _ c.args.bytes.now (known_none _ c.args.bytes.now c.front.result.now c.front.ensures c.in-None-2.ensures.first (omega (arith, c.if-bytes-self.false)))

pub returns-in-None-clause-learnt : goal.returns-in-None-clause-learnt
returns-in-None-clause-learnt c = inl (all_looked_at c.args.bytes.now c.front.result.now _ c.front.ensures c.if-bytes-lt-MOST_HEAD.true c.in-None.ensures.all)
