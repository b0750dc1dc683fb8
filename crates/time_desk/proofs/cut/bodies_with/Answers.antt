use Rattle.std.proofs.Common.{◌++◌, ℕ, List, append-nil, ap, map, sym, ◌∙◌}
use Rattle.time_desk.specs.Cutting.{key_body}
use Rattle.time_desk.proofs.cut.bodies_with.Goals as goal

pub returns : goal.returns
returns c =
    let l = c.loop-key in
    sym (append-nil l.bodies)
    ∙ ap (λ (rest : List (ℕ × ℕ)). l.bodies ++ map key_body rest) (sym c.in-None.ensures.steps.0)
    ∙ l.invariant
