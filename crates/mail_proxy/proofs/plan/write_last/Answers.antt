use Rattle.std.proofs.Common.{refl, sym, ◌∙◌}
use Rattle.mail_proxy.specs.Lines.{line_text}
use Rattle.mail_proxy.proofs.LastLines.{some_line}
use Rattle.base_cut.proofs.Streams.{wrote_none}
use Rattle.mail_proxy.proofs.plan.write_last.Goals as goal

pub returns-in-Err : goal.returns-in-Err
returns-in-Err g c =
    wrote_none (g.W.Sink.told c.args.out.now) (line_text c.args.last) _ (some_line c.args.last (sym c.is_nothing.ensures ∙ c.if-is_nothing.false)) refl
