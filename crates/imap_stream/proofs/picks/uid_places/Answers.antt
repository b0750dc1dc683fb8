use Rattle.std.proofs.Common.{◌≡◌, ◌<◌, ◌∙◌, true, length, arith}
use Rattle.std.proofs.lemmas.Result.{IfOk-weaker}
use Rattle.std.specs.List.Sorted.{IsStrictlyIncreasing}
use Rattle.imap_stream.specs.Sets.{picked, covered, greatest_of, number_at}
use Rattle.imap_stream.specs.Spans.{in_any}
use Rattle.imap_stream.proofs.Joining.{places_same}
use Rattle.imap_stream.proofs.picks.uid_places.Goals as goal

pub returns : goal.returns
returns c =
    let uids = c.args.uids.now in
    let set = c.args.set.now in
    IfOk-weaker c.join_spans.result _ (λ places. IsStrictlyIncreasing uids → places ≡ picked set uids true)
    (λ places e inc. e ∙ places_same (in_any c.in_ok-spans.spans.items) (λ p. covered (greatest_of true uids) set (number_at true uids p)) 0 (length uids)
    (λ p low high. let inside : p < length uids = omega arith in c.in_ok-spans.ensures.places inc p inside)) c.join_spans.ensures
