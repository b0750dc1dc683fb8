use Rattle.std.proofs.Common.{arith, ap, ◌∙◌}
use Rattle.imap_session.specs.Searching.{found_from}
use Rattle.imap_session.proofs.Found.{found_step, found_end}
use Rattle.imap_session.proofs.search.matching.Goals as goal

pub loop-place-preserved : goal.loop-place-preserved
loop-place-preserved c =
    found_step c.args.searching.now c.args.texts.now c.as_slice-rows.result.now c.loop-place.place _ c.loop-place.found _ _ (omega arith) c.loop-place.invariant c.in_ok-keep.ensures

pub returns : goal.returns
returns c =
    found_end c.args.searching.now c.args.texts.now c.as_slice-rows.result.now c.loop-place.place c.loop-place.found _ (omega arith) c.loop-place.invariant
    ∙ ap (found_from c.args.searching.now c.args.texts.now 0) c.as_slice-rows.ensures
