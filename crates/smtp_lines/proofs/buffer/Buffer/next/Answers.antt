use Rattle.std.proofs.Common.{◌≡◌, ◌≤◌, ap, ◌∙◌, sym, subst, []}
use Rattle.smtp_lines.specs.Lines.{lines_of, held_of}
use Rattle.smtp_lines.specs.Line.{smtp_lines_of}
use Rattle.smtp_lines.specs.Holding.{IsKept, seen}
use Rattle.smtp_lines.proofs.Marked.{none_kept, held_most}
use Rattle.smtp_lines.proofs.buffer.Buffer.next.Goals as goal

pub shorten-requires-clause-none : goal.shorten-requires-clause-none
shorten-requires-clause-none c =
    let found = rw c.in-None.is at c.in_ok-found.ensures.found in
    subst (λ b. lines_of (seen c.find_line.new.over c.find_line.new.given b) ≡ []) c.deref.ensures.value
    (none_kept (lines_of (seen c.find_line.new.over c.find_line.new.given c.deref.result.now)) (ap smtp_lines_of found.2 ∙ found.0))

pub returns-in-None-clause-held : goal.returns-in-None-clause-held
returns-in-None-clause-held c none =
    let new = c.shorten.new in
    let before = subst (λ b. IsKept c.find_line.new.over c.find_line.new.given c.find_line.new.passed b) c.deref.ensures.value c.in_ok-found.ensures.kept in
    let kept = subst (λ n. IsKept new.over n c.find_line.new.passed new.bytes.items) c.shorten.ensures.given (c.shorten.ensures.kept c.find_line.new.passed before) in
    subst (λ n. held_of (seen new.over n new.bytes.items) ≤ 1048577) (sym c.shorten.ensures.given) (held_most new.over c.find_line.new.passed new.bytes.items kept c.shorten.ensures.most)

pub held_in-held-requires-clause-kept : goal.held_in-held-requires-clause-kept
held_in-held-requires-clause-kept c =
    let before = subst (λ b. IsKept c.find_line.new.over c.find_line.new.given c.find_line.new.passed b) c.deref.ensures.value c.in_ok-found.ensures.kept in
    (c.find_line.new.passed, subst (λ b. IsKept c.shorten.new.over c.shorten.new.given c.find_line.new.passed b) (sym c.deref-in-None.ensures.value) (c.shorten.ensures.kept c.find_line.new.passed before))
