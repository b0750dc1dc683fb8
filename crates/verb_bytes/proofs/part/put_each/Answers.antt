use Rattle.std.proofs.Common.{◌≡◌, Some, Err, subst}
use Rattle.std.proofs.lemmas.Result.{err_from_is_err_and}
use Rattle.verb_bytes.specs.Writing.{written, Puts}
use Rattle.verb_bytes.proofs.Puts.{writes_next, writes_none, writes_all}
use Rattle.verb_bytes.proofs.part.put_each.Goals as goal

pub returns-in_err-put : goal.returns-in_err-put
returns-in_err-put g c =
    let p = err_from_is_err_and c.from_residual.result c.from_residual.ensures.1 in
    let this = subst (λ x. Puts {A = Unit {0}} (g.T.Part.fields x) c.loop-item.out c.put.new.out (Err c.in_err-put.field-0.0)) c.item-item.is c.in_err-put.ensures in
    rw (p.1, p.2) (writes_none g.T.Part.fields c.args.items.now c.loop-item.item-index c.args.out.now c.loop-item.out c.put.new.out c.put.new.out c.item-item.result c.in_err-put.field-0.0 c.loop-item-test.true this c.loop-item.invariant)

pub loop-item-preserved : goal.loop-item-preserved
loop-item-preserved g c =
    let this = subst (λ x. written c.loop-item.out (g.T.Part.fields x) ≡ Some c.put.new.out) c.item-item.is c.in_ok-put.ensures in
    writes_next g.T.Part.fields c.args.items.now c.loop-item.item-index c.args.out.now c.loop-item.out c.put.new.out c.item-item.result c.loop-item-test.true this c.loop-item.invariant

pub returns : goal.returns
returns g c = writes_all g.T.Part.fields c.args.items.now c.loop-item.item-index c.args.out.now c.loop-item.out c.loop-item-test.false c.loop-item.invariant
