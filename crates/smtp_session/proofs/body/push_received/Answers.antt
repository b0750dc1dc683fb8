use Rattle.std.specs.Prelude.{codes, ◌++◌}
use Rattle.std.proofs.Common.{◌∙◌, ap, List, ℕ}
use Rattle.std.proofs.lemmas.Result.{on_ok_weaker}
use Rattle.civil_dates.specs.Dates.{mail_date}
use Rattle.smtp_session.specs.Bytes.{said}
use Rattle.smtp_session.proofs.Parts.{six_parts}
use Rattle.smtp_session.proofs.body.push_received.Goals as goal

pub returns : goal.returns
returns c =
    on_ok_weaker c.push_end.result (λ last.
    six_parts c.args.out.now (codes "Received: from ") c.args.client.now (codes " by ") c.args.host.now (codes "; ") (said (mail_date c.args.at))
    c.extend.new.self c.extend-2.new.self c.extend-3.new.self c.extend-4.new.self c.push_end.new.out
    c.in_ok-extend.ensures.ok c.in_ok-extend-2.ensures.ok c.in_ok-extend-3.ensures.ok
    (c.in_ok-extend-4.ensures.ok ∙ ap (λ (host : List ℕ). c.extend-3.new.self ++ host) c.bytes.ensures.value) last) c.push_end.ensures
