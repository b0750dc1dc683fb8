use Rattle.std.proofs.Common.{Some, None, cond, sym, ap, ◌∙◌}
use Rattle.imap_tokens.proofs.Commas.{set_bad, set_step, set_end}
use Rattle.imap_tokens.proofs.sets.read_set.Goals as goal

pub returns-then-not-branch : goal.returns-then-not-branch
returns-then-not-branch c =
    set_bad c.loop-range.set c.push_range.new.set c.loop-range.rest.now c.in-Some.range.now c.in-Some.more.now c.in_ok-push_range.field-0 _
    c.in-Some.ensures.value c.in_ok-push_range.ensures c.if-not-branch.true c.loop-range.invariant

pub loop-range-preserved : goal.loop-range-preserved
loop-range-preserved c =
    set_step c.loop-range.set c.push_range.new.set c.loop-range.rest.now c.in-Some.range.now c.in-Some.more.now c.in_ok-push_range.field-0 _
    c.in-Some.ensures.value c.in_ok-push_range.ensures c.if-not-branch.false c.loop-range.invariant

pub returns-then-branch : goal.returns-then-branch
returns-then-branch c =
    sym (ap (λ g. cond g (Some c.push_range-2.new.set) None) c.if-branch.true)
    ∙ set_end c.loop-range.set c.push_range-2.new.set c.loop-range.rest.now c.in_ok-push_range-2.field-0 _ c.in_default.ensures.value c.in_ok-push_range-2.ensures c.loop-range.invariant

pub returns-else-branch : goal.returns-else-branch
returns-else-branch c =
    sym (ap (λ g. cond g (Some c.push_range-2.new.set) None) c.if-branch.false)
    ∙ set_end c.loop-range.set c.push_range-2.new.set c.loop-range.rest.now c.in_ok-push_range-2.field-0 _ c.in_default.ensures.value c.in_ok-push_range-2.ensures c.loop-range.invariant
