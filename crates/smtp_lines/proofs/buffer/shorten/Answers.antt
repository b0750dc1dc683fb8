use Rattle.std.proofs.Common.{◌≡◌, ◌<◌, ◌≤◌, ◌++◌, nat_lt, length, take, drop, ap, arith, refl, sym, ◌∙◌}
use Rattle.std.proofs.lemmas.Bool.Decides.{Decides-ltb}
use Rattle.std.proofs.lemmas.List.{length-drop}
use Rattle.smtp_lines.specs.Lines.{last_byte}
use Rattle.smtp_lines.proofs.Marked.{shorten_once, shorten_none, few_left, not_over}
use Rattle.smtp_lines.proofs.buffer.shorten.Goals as goal

pub returns-then-is_over-clause-same : goal.returns-then-is_over-clause-same
returns-then-is_over-clause-same c =
    let s = drop c.args.given.now c.args.bytes.now.items in
    let long : 1048577 < length s = (Decides-ltb 1048577 (length s)).0 (sym (c.is_over.ensures ∙ ap (λ l. nat_lt 1048577 (length l)) (c.deref.ensures.value ∙ c.drop_front.ensures)) ∙ c.if-is_over.true) in
    let new = c.leave_out.ensures ∙ ap (λ l. take 1048576 l ++ last_byte l) c.drop_front.ensures in
    (shorten_once c.args.over.now c.args.given.now c.requires.kept.0 c.args.bytes.now.items c.leave_out.new.bytes.items c.requires.kept.1 c.requires.within long new c.requires.none).0

pub returns-then-is_over-clause-kept : goal.returns-then-is_over-clause-kept
returns-then-is_over-clause-kept c passed kept =
    let s = drop c.args.given.now c.args.bytes.now.items in
    let long : 1048577 < length s = (Decides-ltb 1048577 (length s)).0 (sym (c.is_over.ensures ∙ ap (λ l. nat_lt 1048577 (length l)) (c.deref.ensures.value ∙ c.drop_front.ensures)) ∙ c.if-is_over.true) in
    let new = c.leave_out.ensures ∙ ap (λ l. take 1048576 l ++ last_byte l) c.drop_front.ensures in
    let size : length c.leave_out.new.bytes.items ≡ 1048577 = ap length new ∙ few_left s long in
    let most : 1048577 ≤ length c.leave_out.new.bytes.items = omega arith in
    (refl, most, (shorten_once c.args.over.now c.args.given.now passed c.args.bytes.now.items c.leave_out.new.bytes.items kept c.requires.within long new c.requires.none).1)

pub returns-then-is_over-clause-most : goal.returns-then-is_over-clause-most
returns-then-is_over-clause-most c =
    let s = drop c.args.given.now c.args.bytes.now.items in
    let long : 1048577 < length s = (Decides-ltb 1048577 (length s)).0 (sym (c.is_over.ensures ∙ ap (λ l. nat_lt 1048577 (length l)) (c.deref.ensures.value ∙ c.drop_front.ensures)) ∙ c.if-is_over.true) in
    let new = c.leave_out.ensures ∙ ap (λ l. take 1048576 l ++ last_byte l) c.drop_front.ensures in
    let size : length c.leave_out.new.bytes.items ≡ 1048577 = ap length new ∙ few_left s long in
    omega arith

pub returns-else-is_over-clause-same : goal.returns-else-is_over-clause-same
returns-else-is_over-clause-same c =
    let s = drop c.args.given.now c.args.bytes.now.items in
    let short : length s ≤ 1048577 = not_over (length s) (sym (c.is_over.ensures ∙ ap (λ l. nat_lt 1048577 (length l)) (c.deref.ensures.value ∙ c.drop_front.ensures)) ∙ c.if-is_over.false) in
    shorten_none c.args.over.now c.args.given.now c.requires.kept.0 c.args.bytes.now.items c.drop_front.new.bytes.items c.requires.kept.1 c.requires.within short c.drop_front.ensures

pub returns-then-is_over-clause-fewer : goal.returns-then-is_over-clause-fewer
returns-then-is_over-clause-fewer c =
    let s = drop c.args.given.now c.args.bytes.now.items in
    let long : 1048577 < length s = (Decides-ltb 1048577 (length s)).0 (sym (c.is_over.ensures ∙ ap (λ l. nat_lt 1048577 (length l)) (c.deref.ensures.value ∙ c.drop_front.ensures)) ∙ c.if-is_over.true) in
    let new = c.leave_out.ensures ∙ ap (λ l. take 1048576 l ++ last_byte l) c.drop_front.ensures in
    let size : length c.leave_out.new.bytes.items ≡ 1048577 = ap length new ∙ few_left s long in
    omega (arith, length-drop c.args.given.now c.args.bytes.now.items)
