use Rattle.std.proofs.Common.{◌≡◌, ◌++◌, ◌∷◌, [], ℕ, List, OnOk, subst}
use Rattle.undo_outside.specs.declared.event.What.TheVariants.{Bytes, Joined}
use Rattle.undo_outside.specs.declared.event.Role.TheVariants.{Http}
use Rattle.std.proofs.lemmas.Result.{on_ok_weaker}
use Rattle.script_link.specs.Line.{event_of}
use Rattle.mail_proxy.proofs.Rounds.{followed}
use Rattle.mail_proxy.proofs.generating.push_repair.Goals as goal

pub returns : goal.returns
returns c =
    subst (λ (bytes : List ℕ). OnOk c.push_bytes.result (c.push_bytes.new.events ≡ c.args.events.now ++ event_of 3 c.args.at (Joined Http) ∷ event_of 3 c.args.at (Bytes bytes) ∷ []))
    c.in_ok-of.ensures (on_ok_weaker c.push_bytes.result (λ last. followed _ _ _ _ _ c.in_ok-push_joined.ensures last) c.push_bytes.ensures)
