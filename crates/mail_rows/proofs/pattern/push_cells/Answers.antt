use Rattle.std.proofs.Common.{◌∙◌, ◌≡◌, ◌++◌, ◌∷◌, ◌+◌, [], false, List, ℕ, ap, get_or, map, sym, take}
use Rattle.std.proofs.lemmas.List.{append_assoc, map_more, map_push}
use Rattle.verb_core.specs.Patterns.{Letter}
use Rattle.mail_rows.specs.declared.pattern.Cell.{Cell}
use Rattle.mail_rows.specs.Patterns.{cell_of}
use Rattle.mail_rows.proofs.pattern.push_cells.Goals as goal

pub loop-byte-preserved : goal.loop-byte-preserved
loop-byte-preserved c =
    let letter : ℕ → Letter = λ b. record { byte = b; any_case = c.args.any_case } in
    let cell : Letter → Cell = cell_of false in
    let front : List Letter = map letter (take c.loop-byte.byte-index c.args.bytes.now) in
    let more : map letter (take (c.loop-byte.byte-index + 1) c.args.bytes.now) ≡ front ++ letter (get_or c.args.bytes.now c.loop-byte.byte-index 0) ∷ [] =
    map_more letter c.args.bytes.now c.loop-byte.byte-index 0 c.loop-byte-test.true in
    c.in_ok-push.ensures.items
    ∙ ap (λ (cells : List Cell). cells ++ cell (letter (get_or c.args.bytes.now c.loop-byte.byte-index 0)) ∷ []) c.loop-byte.invariant
    ∙ append_assoc c.args.cells.now.items (map cell front) (cell (letter (get_or c.args.bytes.now c.loop-byte.byte-index 0)) ∷ [])
    ∙ ap (λ (laid : List Cell). c.args.cells.now.items ++ laid) (sym (ap (map cell) more ∙ map_push cell front (letter (get_or c.args.bytes.now c.loop-byte.byte-index 0))))
