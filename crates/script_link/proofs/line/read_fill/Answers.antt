use Rattle.std.proofs.Common.{List, ℕ, Option, ap, ◌∙◌}
use Rattle.undo_outside.specs.declared.event.What.{What}
use Rattle.script_link.specs.Line.{first_part, happens, happens_at, filled, fill_line}
use Rattle.script_link.proofs.line.read_fill.Goals as goal

pub returns : goal.returns
unfolding fill_line
returns c =
    c.event_at.ensures
    ∙ ap (λ (conn : List ℕ). happens (happens_at c.args.at conn c.in_ok-what.what)) c.before_space.ensures
    ∙ ap (λ (what : Option What). happens (happens_at c.args.at (first_part c.args.rest.now) what)) (c.in_ok-what.ensures ∙ ap filled c.behind_space.ensures)
