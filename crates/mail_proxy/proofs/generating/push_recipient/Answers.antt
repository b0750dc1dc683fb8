use Rattle.std.proofs.Common.{◌≡◌, ◌++◌, ◌∷◌, [], ℕ, List, OnOk, ◌∙◌, subst}
use Rattle.undo_outside.specs.declared.event.What.TheVariants.{Bytes}
use Rattle.script_link.specs.Line.{event_of, said}
use Rattle.mail_proxy.proofs.generating.push_recipient.Goals as goal

pub returns : goal.returns
returns c =
    subst (λ (line : List ℕ). OnOk c.push_line.result (c.push_line.new.events ≡ c.args.events.now ++ event_of 1 c.args.at (Bytes (said line)) ∷ []))
    (c.bytes.ensures.value ∙ c.in_ok-line.ensures) c.push_line.ensures
