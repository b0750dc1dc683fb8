use Rattle.std.proofs.Common.{ap, refl, ◌∙◌, ◌++◌}
use Rattle.std.specs.Prelude.{is_ok}
use Rattle.smtp_lines.specs.Holding.{Buffered, seen}
use Rattle.smtp_lines.proofs.Shortened.{fed_kept, fed_seen}
use Rattle.smtp_lines.proofs.buffer.Buffer.feed.Goals as goal

pub invariant_of-self-2 : goal.invariant_of-self-2
invariant_of-self-2 c =
    let fed = fed_kept c.self.inside.over (is_ok c.extend_from_slice.result) c.self.inside.given c.self.inside.passed c.self.inside.bytes.items c.args.bytes.now c.extend_from_slice.new.self.items c.self.invariant.0
    c.self.invariant.1 c.extend_from_slice.ensures.items in
    (fed.0, fed.1, λ other. refl)

pub returns-clause-ok : goal.returns-clause-ok
returns-clause-ok c =
    let old = c.self.inside in
    ap (seen old.over old.given) c.in_ok-extend_from_slice.ensures.items ∙ fed_seen old.over old.given old.passed old.bytes.items c.args.bytes.now c.self.invariant.0 c.self.invariant.1
    ∙ ap (λ (b : Buffered). b.stream ++ c.args.bytes.now) c.self.view_is
