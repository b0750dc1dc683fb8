use Rattle.std.proofs.Common.{◌++◌, arith, ap, refl, ◌∙◌}
use Rattle.imap_text.specs.Words.{space_before}
use Rattle.imap_text.proofs.WordLemmas.{spaced_step}
use Rattle.imap_fetch.proofs.labels.push_names.Goals as goal

pub loop-index-preserved : goal.loop-index-preserved
loop-index-preserved c =
    let name = c.index-names-index.result in
    let i = c.loop-index.index in
    let out = c.loop-index.out in
    spaced_step (λ name. name) c.args.names.now i name c.args.out.now out (out ++ space_before i) c.push_name.new.out (omega arith) c.loop-index.invariant refl
    (c.in_ok-push_name.ensures ∙ ap (λ n. (out ++ space_before i) ++ n) c.index-names-index.is)
