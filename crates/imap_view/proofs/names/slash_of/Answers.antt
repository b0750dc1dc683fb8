use Rattle.std.proofs.Common.{length, sym, arith}
use Rattle.verb_core.specs.Names.{is_slash}
use Rattle.std.proofs.lemmas.List.Sums.{position_or_len_is}
use Rattle.imap_view.proofs.names.slash_of.Goals as goal

pub returns-then-is_slash-clause-value : goal.returns-then-is_slash-clause-value
returns-then-is_slash-clause-value c =
    sym (position_or_len_is is_slash c.args.bytes.now c.loop-place.place 0 (omega arith) c.loop-place.invariant (λ _. sym c.if-is_slash.ensures))

pub returns-clause-value : goal.returns-clause-value
returns-clause-value c =
    sym (position_or_len_is is_slash c.args.bytes.now (length c.args.bytes.now) 0 (omega arith) (λ k lt. c.loop-place.invariant k (omega arith)) (λ lt. absurd (omega arith)))
