use Rattle.std.proofs.Common.{◌≡◌, ap, ◌∙◌}
use Rattle.std.proofs.lemmas.Result.{IfOk-weaker}
use Rattle.imap_stream.specs.Sets.{places_in}
use Rattle.imap_stream.specs.Spans.{in_any}
use Rattle.imap_stream.proofs.Joining.{places_same}
use Rattle.imap_stream.proofs.picks.join_spans.Goals as goal

pub returns : goal.returns
returns c =
    IfOk-weaker c.join.result _ (λ places. places ≡ places_in (in_any c.args.spans.items) 0 c.args.count)
    (λ places e. e ∙ places_same (in_any c.deref.result.now) (in_any c.args.spans.items) 0 c.args.count
    (λ p low high. ap (λ l. in_any l p) c.deref.ensures.value ∙ c.sort.ensures.same p)) c.join.ensures
