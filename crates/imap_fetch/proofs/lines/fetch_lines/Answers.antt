use Rattle.std.proofs.Common.{arith}
use Rattle.imap_fetch.proofs.Fetched.{fetch_more, fetch_end}
use Rattle.imap_fetch.proofs.lines.fetch_lines.Goals as goal

pub loop-index-preserved : goal.loop-index-preserved
loop-index-preserved c =
    fetch_more c.args.form.now c.as_slice-texts.result.now c.as_slice-rows.result.now c.loop-index.index _ _ _ _ (omega arith) c.loop-index.invariant c.text_beside.ensures c.in_ok-push_fetched.ensures

pub returns : goal.returns
returns c =
    fetch_end c.args.form.now c.as_slice-texts.result.now _ c.as_slice-rows.result.now _ c.loop-index.index _ (omega arith) c.loop-index.invariant c.as_slice-rows.ensures c.as_slice-texts.ensures
