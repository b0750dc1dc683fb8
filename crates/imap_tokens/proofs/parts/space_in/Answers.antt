use Rattle.std.proofs.Common.{length, sym, arith, eq-eqb}
use Rattle.std.proofs.lemmas.List.Sums.{position_or_len_is}
use Rattle.imap_tokens.specs.Parts.{is_space}
use Rattle.imap_tokens.proofs.parts.space_in.Goals as goal

pub returns-then-byte-eq32-clause-value : goal.returns-then-byte-eq32-clause-value
returns-then-byte-eq32-clause-value c =
    sym (position_or_len_is is_space c.args.bytes.now c.loop-place.place 0 (omega arith) c.loop-place.invariant (λ _. eq-eqb _ _ c.if-byte-eq32.true))

pub returns-clause-value : goal.returns-clause-value
returns-clause-value c =
    sym (position_or_len_is is_space c.args.bytes.now (length c.args.bytes.now) 0 (omega arith) (λ k lt. c.loop-place.invariant k (omega arith)) (λ lt. absurd (omega arith)))
