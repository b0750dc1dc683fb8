use Rattle.std.proofs.Common.{◌≡◌, ◌<◌, ◌∙◌, ap, sym, true, length, arith}
use Rattle.std.proofs.lemmas.List.{length-map}
use Rattle.std.proofs.lemmas.Result.{IfOk-weaker}
use Rattle.imap_stream.specs.Sets.{picked, covered, greatest_of, number_at, places_in}
use Rattle.imap_stream.specs.Spans.{in_any}
use Rattle.imap_stream.proofs.Joining.{places_same}
use Rattle.imap_view.specs.declared.messages.Known.{Known}
use Rattle.imap_view.specs.Views.{uids_of}
use Rattle.imap_view.proofs.picks.pick_uids.Goals as goal

pub returns : goal.returns
returns c =
    let view = c.args.view.now in
    let uids = uids_of view in
    let set = c.args.set.now in
    IfOk-weaker c.join_spans.result _ (λ places. places ≡ picked set uids true)
    (λ places e. e ∙ places_same (in_any c.in_ok-spans.spans.items) (λ p. covered (greatest_of true uids) set (number_at true uids p)) 0 (length view)
    (λ p low high. let inside : p < length view = omega arith in c.in_ok-spans.ensures.places p inside)
    ∙ ap (places_in (λ p. covered (greatest_of true uids) set (number_at true uids p)) 0) (sym (length-map view (λ (k : Known). k.uid)))) c.join_spans.ensures
