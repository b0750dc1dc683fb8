use Rattle.std.proofs.Common.{◌≡◌, Some, Err, subst}
use Rattle.std.proofs.lemmas.Result.{err_from_is_err_and}
use Rattle.verb_bytes.specs.Spelling.{scoped_fields}
use Rattle.verb_bytes.specs.Writing.{written, Puts}
use Rattle.verb_bytes.proofs.Puts.{writes_next, writes_none, writes_all}
use Rattle.verb_bytes.proofs.scopes.put_each_scoped.Goals as goal

pub returns-in_err-put_scoped : goal.returns-in_err-put_scoped
returns-in_err-put_scoped c =
    let p = err_from_is_err_and c.from_residual.result c.from_residual.ensures.1 in
    let this = subst (λ x. Puts {A = Unit {0}} (scoped_fields 0 x) c.loop-filter.out c.put_scoped.new.out (Err c.in_err-put_scoped.field-0.0)) c.filter-item.is c.in_err-put_scoped.ensures in
    rw (p.1, p.2) (writes_none (scoped_fields 0) c.args.filters.now c.loop-filter.filter-index c.args.out.now c.loop-filter.out c.put_scoped.new.out c.put_scoped.new.out c.filter-item.result c.in_err-put_scoped.field-0.0 c.loop-filter-test.true this c.loop-filter.invariant)

pub loop-filter-preserved : goal.loop-filter-preserved
loop-filter-preserved c =
    let this = subst (λ x. written c.loop-filter.out (scoped_fields 0 x) ≡ Some c.put_scoped.new.out) c.filter-item.is c.in_ok-put_scoped.ensures in
    writes_next (scoped_fields 0) c.args.filters.now c.loop-filter.filter-index c.args.out.now c.loop-filter.out c.put_scoped.new.out c.filter-item.result c.loop-filter-test.true this c.loop-filter.invariant

pub returns : goal.returns
returns c = writes_all (scoped_fields 0) c.args.filters.now c.loop-filter.filter-index c.args.out.now c.loop-filter.out c.loop-filter-test.false c.loop-filter.invariant
