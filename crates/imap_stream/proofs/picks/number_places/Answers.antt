use Rattle.std.proofs.Common.{◌≡◌, ◌<◌, ◌+◌, ◌∙◌, arith}
use Rattle.std.proofs.lemmas.Result.{IfOk-weaker}
use Rattle.imap_stream.specs.Sets.{places_in, covered}
use Rattle.imap_stream.specs.Spans.{in_any}
use Rattle.imap_stream.proofs.Joining.{places_same}
use Rattle.imap_stream.proofs.picks.number_places.Goals as goal

pub returns : goal.returns
returns c =
    let count = c.args.count in
    let set = c.args.set.now in
    IfOk-weaker c.join_spans.result _ (λ places. places ≡ places_in (λ p. covered count set (p + 1)) 0 count)
    (λ places e. e ∙ places_same (in_any c.in_ok-spans.spans.items) (λ p. covered count set (p + 1)) 0 count
    (λ p low high. let inside : p < count = omega arith in c.in_ok-spans.ensures.places p inside)) c.join_spans.ensures
