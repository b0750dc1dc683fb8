use Rattle.std.proofs.Common.{◌∙◌, ℕ, ap, set, arith, get_or}
use Rattle.std.proofs.lemmas.List.{get_or_default}
use Rattle.std.proofs.lemmas.List.Edits.{map_over_more}
use Rattle.mail_rows.specs.Confs.{lowered}
use Rattle.mail_rows.proofs.filter_order.lower.Goals as goal

pub loop-place-preserved : goal.loop-place-preserved
loop-place-preserved c =
    ap (λ (p : ℕ). set c.loop-place.place-items c.loop-place.place-index p) c.lowered.ensures
    ∙ map_over_more (lowered c.args.gone) c.args.order.now.items c.loop-place.place-items c.loop-place.place-index (get_or c.loop-place.place-items c.loop-place.place-index 0) (omega (arith, c.loop-place-test.true)) c.loop-place.invariant
    (get_or_default c.loop-place.place-items c.loop-place.place-index 0 (get_or c.loop-place.place-items c.loop-place.place-index 0) (omega (arith, c.loop-place-test.true)))
