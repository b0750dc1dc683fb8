use Rattle.std.proofs.Common.{◌∙◌, ◌++◌, ◌+◌, List, ap, drop, arith}
use Rattle.undo_base.specs.declared.keys.User.{User}
use Rattle.paradox.proofs.Telling.{told_from, told_more}
use Rattle.paradox.proofs.letters.users_told.Goals as goal

pub loop-place-preserved : goal.loop-place-preserved
loop-place-preserved c =
    ap (λ (t : List User). t ++ told_from c.args.list.now (c.loop-place.place + 1) (drop (c.loop-place.place + 1) c.args.house.now.accounts)) c.in_ok-push_told.ensures
    ∙ told_more c.args.list.now c.loop-place.users c.loop-place.place c.loop-place.place c.args.house.now.accounts (omega (arith, c.loop-place-test.true, c.len-place-end.ensures, c.loop-place.auto.place-end))
    ∙ c.loop-place.invariant
