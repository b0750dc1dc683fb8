use Rattle.std.proofs.Common.{◌∙◌, ◌++◌, ◌+◌, List, ℕ, ap, drop, sym}
use Rattle.std.specs.List.{cons_option}
use Rattle.std.proofs.lemmas.List.{drop_more}
use Rattle.verb_core.specs.Patterns.{matches}
use Rattle.mail_rows.proofs.pattern.shortened.Goals as goal

pub loop-byte-preserved : goal.loop-byte-preserved
loop-byte-preserved c =
    c.in_ok-push_byte.ensures (drop (c.loop-byte.byte-index + 1) c.args.pattern.now)
    ∙ ap (λ (rest : List ℕ). matches (c.loop-byte.front.items ++ cons_option c.loop-byte.last rest)) (sym (drop_more c.args.pattern.now c.loop-byte.byte-index 0 c.loop-byte-test.true))
    ∙ c.loop-byte.invariant
