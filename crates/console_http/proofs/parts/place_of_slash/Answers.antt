use Rattle.std.proofs.Common.{◌==◌, length, sym, arith, eq-eqb}
use Rattle.std.proofs.lemmas.List.Sums.{position_or_len_is}
use Rattle.console_http.proofs.parts.place_of_slash.Goals as goal

pub returns-then-byte-eq47-clause-value : goal.returns-then-byte-eq47-clause-value
returns-then-byte-eq47-clause-value c =
    sym (position_or_len_is (λ b. b == 47) c.args.path.now c.loop-place.place 0 (omega arith) c.loop-place.invariant (λ _. eq-eqb _ _ c.if-byte-eq47.true))

pub returns-clause-value : goal.returns-clause-value
returns-clause-value c =
    sym (position_or_len_is (λ b. b == 47) c.args.path.now (length c.args.path.now) 0 (omega arith) (λ k lt. c.loop-place.invariant k (omega arith)) (λ lt. absurd (omega arith)))
