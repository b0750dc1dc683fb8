use Rattle.std.proofs.Common.{◌∙◌, ◌≡◌, ◌++◌, ◌∷◌, ◌+◌, [], List, ℕ, ap, map, sym, take}
use Rattle.std.proofs.lemmas.List.{append_assoc, map_more, map_push}
use Rattle.verb_core.specs.declared.mailbox.BoxId.{BoxId}
use Rattle.verb_core.specs.declared.mailbox.Mailbox.{Mailbox}
use Rattle.box_store.specs.declared.effect.Move.{Move}
use Rattle.box_store.specs.Plans.{move_of}
use Rattle.box_store.proofs.names.push_moves.Goals as goal

pub loop-row-preserved : goal.loop-row-preserved
loop-row-preserved c =
    let f : List ℕ → Move = move_of c.args.source.now c.args.target.now in
    let name : BoxId × Mailbox → List ℕ = λ r. r.0.name in
    let front : List (List ℕ) = map (λ (r : BoxId × Mailbox). r.0.name) (take c.loop-row.row-index c.args.rows.now) in
    let names : map name (take (c.loop-row.row-index + 1) c.args.rows.now) ≡ front ++ c.row-item.result.0.name ∷ [] =
    map_more name c.args.rows.now c.loop-row.row-index c.row-item.result c.loop-row-test.true ∙ (λ j. front ++ name (sym c.row-item.is j) ∷ []) in
    c.in_ok-push.ensures.ok
    ∙ (λ j. c.loop-row.invariant j ++ c.in_ok-move_of.ensures j ∷ [])
    ∙ append_assoc c.args.moves.now (map f front) (f c.row-item.result.0.name ∷ [])
    ∙ ap (λ (made : List Move). c.args.moves.now ++ made) (sym (ap (map f) names ∙ map_push f front c.row-item.result.0.name))
