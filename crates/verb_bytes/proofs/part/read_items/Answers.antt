use Rattle.std.proofs.Common.{ap, length, arith}
use Rattle.std.proofs.lemmas.List.{length-append}
use Rattle.std.proofs.lemmas.Result.{err_from_is_err_and}
use Rattle.verb_bytes.proofs.TimesLoop.{begins, goes_on, ends, times_none, times_push}
use Rattle.verb_bytes.proofs.part.read_items.Goals as goal

pub loop-init : goal.loop-init
loop-init g c = record {
  goes = rw c.requires.none (begins g.T.Part.reader c.args.count c.args.cursor.now.rest.now);
  size = ap length c.requires.none;
  came = rw c.requires.none (times_none g.T.Part.reader c.args.cursor.now.rest.now);
  room = (let most = c.requires.room in omega arith);
}

pub loop-preserved : goal.loop-preserved
loop-preserved g c = record {
  goes = rw c.in_ok-push_read.ensures.ok (goes_on g.T.Part.reader c.args.count c.loop.counter c.args.cursor.now.rest.now c.loop.items.items c.loop.cursor.rest.now c.in_ok-item.item c.read.new.cursor.rest.now c.loop-test.true c.in_ok-item.ensures c.loop.invariant.goes);
  size = rw c.in_ok-push_read.ensures.ok (simp length-append (omega (arith, c.loop.invariant.size)));
  came = rw c.in_ok-push_read.ensures.ok (times_push g.T.Part.reader c.loop.counter c.args.cursor.now.rest.now c.loop.items.items c.loop.cursor.rest.now c.in_ok-item.item c.read.new.cursor.rest.now c.loop.invariant.came c.in_ok-item.ensures);
  room = (let room = c.in_ok-push_read.ensures.room in let size = c.push_read.new.items.ok.0 in omega arith);
}

pub returns-in_err-item-clause-err : goal.returns-in_err-item-clause-err
returns-in_err-item-clause-err g c =
    let p = err_from_is_err_and c.from_residual.result c.from_residual.ensures.1 in
    rw (p.1, p.2) (ends g.T.Part.reader c.args.count c.loop.counter c.args.cursor.now.rest.now c.loop.items.items c.loop.cursor.rest.now c.read.new.cursor.rest.now c.in_err-item.field-0.0 c.loop-test.true c.in_err-item.ensures c.loop.invariant.goes)

pub returns-in_err-item-clause-came : goal.returns-in_err-item-clause-came
returns-in_err-item-clause-came g c = (c.loop.cursor.rest.now, rw c.loop.invariant.size c.loop.invariant.came)

pub returns-in_err-push_read-clause-came : goal.returns-in_err-push_read-clause-came
returns-in_err-push_read-clause-came g c = (c.loop.cursor.rest.now, rw (c.in_err-push_read.ensures.err, c.loop.invariant.size) c.loop.invariant.came)

pub returns-clause-came : goal.returns-clause-came
returns-clause-came g c = (c.loop.cursor.rest.now, rw c.loop.invariant.size c.loop.invariant.came)
