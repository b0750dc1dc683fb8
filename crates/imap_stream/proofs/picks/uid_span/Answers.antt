use Rattle.std.proofs.Common.{subst, ◌+◌}
use Rattle.imap_stream.specs.Spans.{IsBelow}
use Rattle.imap_stream.proofs.Covering.{uid_span_is}
use Rattle.imap_stream.proofs.picks.uid_span.Goals as goal

pub returns-clause-places : goal.returns-clause-places
returns-clause-places c =
    λ inc.
    let uids = c.args.uids.now in
    uid_span_is uids c.args.low c.args.high c.below.result c.below-2.result (subst (λ n. IsBelow n uids c.below.result) c.from.ensures (c.below.ensures.point inc))
    (subst (λ n. IsBelow (n + 1) uids c.below-2.result) c.from-2.ensures (c.below-2.ensures.point inc))
