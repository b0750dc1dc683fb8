use Rattle.std.proofs.Common.{◌∙◌, ◌++◌, ◌+◌, List, ap, drop, arith}
use Rattle.undo_base.specs.declared.keys.User.{User}
use Rattle.mail_rows.proofs.Reached.{meant_from, meant_more}
use Rattle.mail_rows.proofs.reach.recipients.Goals as goal

pub loop-place-preserved : goal.loop-place-preserved
loop-place-preserved c =
    ap (λ (t : List User). t ++ meant_from c.args.meanings.now (c.loop-place.place + 1) (drop (c.loop-place.place + 1) c.args.house.now.accounts)) c.in_ok-push_meant.ensures
    ∙ meant_more c.args.meanings.now c.loop-place.users c.loop-place.place c.loop-place.place c.args.house.now.accounts (omega (arith, c.loop-place-test.true, c.len-place-end.ensures, c.loop-place.auto.place-end))
    ∙ c.loop-place.invariant
