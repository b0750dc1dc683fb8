use Rattle.std.proofs.Common.{◌≡◌, ◌++◌, ℕ, OnOk, subst}
use Rattle.std.proofs.lemmas.Result.{on_ok_weaker}
use Rattle.mail_proxy.specs.Generated.{round_lines, sends}
use Rattle.mail_proxy.proofs.Rounds.{followed}
use Rattle.mail_proxy.proofs.generating.push_round.Goals as goal

pub returns : goal.returns
returns c =
    subst (λ (at : ℕ). OnOk c.push_line-4.result (c.push_line-4.new.events ≡ c.args.events.now ++ sends 1 at (round_lines c.args.round))) c.moment_of-at.ensures
    (on_ok_weaker c.push_line-4.result
    (λ last. followed _ _ _ _ _ c.in_ok-push_line.ensures (followed _ _ _ _ _ c.in_ok-push_recipient.ensures
    (followed _ _ _ _ _ c.in_ok-push_line-2.ensures (followed _ _ _ _ _ c.in_ok-push_numbered.ensures
    (followed _ _ _ _ _ c.in_ok-push_line-3.ensures (followed _ _ _ _ _ c.in_ok-push_numbered-2.ensures last)))))) c.push_line-4.ensures)
