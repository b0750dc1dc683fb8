use Rattle.std.proofs.Common.{ap, sym, subst}
use Rattle.std.specs.Io.KnownBytes.{prepend_known}
use Rattle.host_outside.specs.Streams.{IsGiven}
use Rattle.host_outside.proofs.connection.Connection.take.Goals as goal

pub returns-then-len-gt0-clause-given : goal.returns-then-len-gt0-clause-given
returns-then-len-gt0-clause-given g c =
    let old = c.args.self.now in
    let it = c.take_kept in
    let remaining = g.S.Read.remaining in
    subst (λ stream. IsGiven (prepend_known old.kept (remaining old.stream)) (prepend_known it.new.self.kept (remaining stream)) it.new.buf it.result)
    (sym (ap (λ s. s.stream) {y = record old { kept = it.new.self.kept; line = it.new.self.line }} it.ensures.same)) (it.ensures.given (remaining old.stream))
