use Rattle.std.proofs.Common.{ap, length, arith}
use Rattle.std.proofs.lemmas.List.{length-append}
use Rattle.std.proofs.lemmas.Result.{err_from_is_err_and}
use Rattle.verb_bytes.specs.Reading.{scope_at, scoped_at}
use Rattle.verb_bytes.proofs.TimesLoop.{begins, goes_on, ends, is_done}
use Rattle.verb_bytes.proofs.scopes.read_each_scoped.Goals as goal

pub loop-init : goal.loop-init
loop-init c = record {
  goes = rw c.requires.none (begins (scoped_at scope_at) c.args.count c.args.cursor.now.rest.now);
  size = ap length c.requires.none;
  room = (let most = c.requires.room in omega arith);
}

pub loop-preserved : goal.loop-preserved
loop-preserved c = record {
  goes = rw c.in_ok-push_read.ensures.ok (goes_on (scoped_at scope_at) c.args.count c.loop.counter c.args.cursor.now.rest.now c.loop.filters.items c.loop.cursor.rest.now c.in_ok-filter.filter c.read_scoped.new.cursor.rest.now c.loop-test.true c.in_ok-filter.ensures c.loop.invariant.goes);
  size = rw c.in_ok-push_read.ensures.ok (simp length-append (omega (arith, c.loop.invariant.size)));
  room = (let room = c.in_ok-push_read.ensures.room in let size = c.push_read.new.items.ok.0 in omega arith);
}

pub returns-in_err-filter-clause-err : goal.returns-in_err-filter-clause-err
returns-in_err-filter-clause-err c =
    let p = err_from_is_err_and c.from_residual.result c.from_residual.ensures.1 in
    rw (p.1, p.2) (ends (scoped_at scope_at) c.args.count c.loop.counter c.args.cursor.now.rest.now c.loop.filters.items c.loop.cursor.rest.now c.read_scoped.new.cursor.rest.now c.in_err-filter.field-0.0 c.loop-test.true c.in_err-filter.ensures c.loop.invariant.goes)

pub returns-clause-ok : goal.returns-clause-ok
returns-clause-ok c = is_done (scoped_at scope_at) c.args.count c.loop.counter c.args.cursor.now.rest.now c.loop.filters.items c.loop.cursor.rest.now (omega arith) c.loop.invariant.goes
