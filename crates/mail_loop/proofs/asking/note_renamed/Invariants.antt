use Rattle.std.proofs.Common.{◌≡◌, ◌++◌, ℕ, filter, map, take}
use Rattle.verb_core.specs.declared.mailbox.BoxId.{BoxId}
use Rattle.verb_core.specs.Boxes.{is_at_or_below}
use Rattle.mail_loop.proofs.asking.note_renamed.Given as goal

abbrev pub invariant-loop-row : goal.invariant-loop-row
invariant-loop-row l = l.gone ≡ l.initial.gone ++ filter (is_at_or_below l.user l.name) (map (λ (r : BoxId × ℕ). r.0) (take l.row-index l.rows))
