use Rattle.std.proofs.Common.{length, sym, arith, eq-eqb}
use Rattle.header_fields.specs.Values.{is_colon}
use Rattle.std.proofs.lemmas.List.Sums.{position_or_len_is}
use Rattle.header_fields.proofs.values.colon_of.Goals as goal

pub returns-then-byte-eq58-clause-value : goal.returns-then-byte-eq58-clause-value
returns-then-byte-eq58-clause-value c =
    sym (position_or_len_is is_colon c.args.field.now c.loop-place.place 0 (omega arith) c.loop-place.invariant (λ _. eq-eqb _ _ c.if-byte-eq58.true))

pub returns-clause-value : goal.returns-clause-value
returns-clause-value c =
    sym (position_or_len_is is_colon c.args.field.now (length c.args.field.now) 0 (omega arith) (λ k lt. c.loop-place.invariant k (omega arith)) (λ lt. absurd (omega arith)))
