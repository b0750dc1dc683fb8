use Rattle.std.proofs.lemmas.List.{take_all}
use Rattle.std.proofs.Common.{◌≡◌, ◌+◌, List, arith, length, take, length-take-le, subst}
use Rattle.verb_core.specs.declared.item.Act.{Act}
use Rattle.desk_journal.specs.Placing.{GivenLie}
use Rattle.desk_journal.proofs.Spots.{act_keeps, act_noted}
use Rattle.desk_journal.proofs.fresh.note_given.Goals as goal

pub loop-act-preserved : goal.loop-act-preserved
loop-act-preserved c =
    let next : c.in_ok-number.number ≡ c.loop-act.number + 1 = c.in_ok-number.ensures in
    let now : c.loop-act.number ≡ c.args.cycle + c.loop-act.act-index = c.loop-act.invariant.number in
    let number_is : c.in_ok-number.number ≡ c.args.cycle + c.loop-act.act-index + 1 = omega arith in
    let counted : length (take c.loop-act.act-index c.args.acts.now) ≡ c.loop-act.act-index = length-take-le c.loop-act.act-index c.args.acts.now (omega arith) in
    record {
      number = omega arith;
      given = λ at bytes all.
          act_noted c.args.cycle at c.args.acts.now c.loop-act.act-index c.act-item.result c.in_ok-number.number c.args.place bytes c.loop-act.rest.now c.in_ok-rest.rest.now c.loop-act.shelf.notes c.note_act.new.shelf.notes
          c.loop-act-test.true c.act-item.is number_is counted c.in_ok-rest.ensures (c.loop-act.invariant.given at bytes all);
      kept = act_keeps c.args.place c.in_ok-number.number c.act-item.result c.loop-act.rest.now c.in_ok-rest.rest.now c.args.shelf.now.notes c.loop-act.shelf.notes c.note_act.new.shelf.notes
          c.in_ok-rest.ensures c.loop-act.invariant.kept;
    }

pub returns-clause-given : goal.returns-clause-given
returns-clause-given c = λ at bytes all.
    let whole : take c.loop-act.act-index c.args.acts.now ≡ c.args.acts.now = take_all c.loop-act.act-index c.args.acts.now (omega (arith, c.loop-act-test.false)) in
    subst (λ (xs : List Act). GivenLie c.args.cycle at xs c.args.place bytes c.loop-act.shelf.notes) whole (c.loop-act.invariant.given at bytes all).1
