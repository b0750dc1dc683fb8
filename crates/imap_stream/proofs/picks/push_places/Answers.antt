use Rattle.std.proofs.Common.{◌≡◌, ◌+◌, ◌-◌, ◌++◌, ◌∷◌, [], ap, sym, ◌∙◌, arith}
use Rattle.std.proofs.lemmas.List.{append_assoc}
use Rattle.imap_stream.specs.Sets.{run_from}
use Rattle.imap_stream.proofs.Joining.{run_more}
use Rattle.imap_stream.proofs.picks.push_places.Goals as goal

pub loop-place-preserved : goal.loop-place-preserved
loop-place-preserved c =
    let from = c.args.from in
    let place = c.loop-place.place in
    let low = c.loop-place.auto.place in
    let count : (place - from) + 1 ≡ place + 1 - from = omega arith in
    let here : from + (place - from) ≡ place = omega arith in
    c.in_ok-push.ensures.ok ∙ ap (λ l. l ++ place ∷ []) c.loop-place.invariant ∙ append_assoc c.args.places.now (run_from from (place - from)) (place ∷ [])
    ∙ ap (λ l. c.args.places.now ++ l) (ap (λ k. run_from from (place - from) ++ k ∷ []) (sym here) ∙ sym (run_more from (place - from)) ∙ ap (run_from from) count)

pub returns : goal.returns
returns c =
    let from = c.args.from in
    let same : c.loop-place.place - from ≡ c.args.to - from = omega arith in
    c.loop-place.invariant ∙ ap (λ n. c.args.places.now ++ run_from from n) same
