use Rattle.std.proofs.Common.{ℕ, subst, get_or}
use Rattle.std.proofs.lemmas.List.{length-map}
use Rattle.imap_stream.specs.Spans.{IsSpanOf}
use Rattle.imap_stream.proofs.Covering.{uid_span_is}
use Rattle.imap_view.specs.declared.messages.Known.{Known}
use Rattle.imap_view.specs.Views.{uids_of}
use Rattle.imap_view.proofs.picks.uid_span.Goals as goal

pub returns-clause-places : goal.returns-clause-places
returns-clause-places c =
    let uids = uids_of c.args.view.now in
    subst (λ (n : ℕ). IsSpanOf (λ p. get_or uids p 0) n c.args.low c.args.high (record { from = c.below.result; to = c.up_to.result })) (length-map c.args.view.now (λ (k : Known). k.uid))
    (uid_span_is uids c.args.low c.args.high c.below.result c.up_to.result c.below.ensures.point c.up_to.ensures.point)
