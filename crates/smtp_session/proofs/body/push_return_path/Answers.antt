use Rattle.std.specs.Prelude.{codes}
use Rattle.std.proofs.lemmas.Result.{on_ok_weaker}
use Rattle.smtp_session.specs.Bytes.{said}
use Rattle.smtp_session.proofs.Parts.{three_parts}
use Rattle.smtp_session.proofs.body.push_return_path.Goals as goal

pub returns : goal.returns
returns c =
    on_ok_weaker c.extend-3.result (λ last.
    three_parts c.args.out.now (codes "Return-Path: <") c.args.path.now (said (codes ">")) c.extend.new.self c.extend-2.new.self c.extend-3.new.self
    c.in_ok-extend.ensures.ok c.in_ok-extend-2.ensures.ok last) c.extend-3.ensures.ok
