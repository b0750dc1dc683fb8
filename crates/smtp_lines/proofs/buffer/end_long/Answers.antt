use Rattle.std.proofs.Common.{◌+◌, ◌-◌, ◌≤◌, ◌∷◌, length, drop, ap, arith, refl, subst, sym, ◌∙◌}
use Rattle.std.proofs.lemmas.List.{length-drop}
use Rattle.smtp_lines.specs.declared.line.SmtpLine.{SmtpLine}
use Rattle.smtp_lines.specs.Line.{smtp_lines_of}
use Rattle.smtp_lines.specs.Holding.{seen}
use Rattle.smtp_lines.proofs.Marked.{marked_none, marked_line, on_err}
use Rattle.smtp_lines.proofs.buffer.end_long.Goals as goal

pub returns-in_default-clause-found : goal.returns-in_default-clause-found
returns-in_default-clause-found c =
    let b = c.args.bytes.now in
    let none = marked_none b c.after.result.now c.requires.kept.1 c.requires.kept.2 c.after.ensures c.in_default.ensures.none.0 c.in_default.ensures.none.1 in
    (none.0, none.1, ap (λ o. seen o c.args.given.now b) c.requires.over)

pub returns-in_default-clause-none : goal.returns-in_default-clause-none
returns-in_default-clause-none c =
    let b = c.args.bytes.now in
    let none = marked_none b c.after.result.now c.requires.kept.1 c.requires.kept.2 c.after.ensures c.in_default.ensures.none.0 c.in_default.ensures.none.1 in
    (λ _. none.0, λ _. refl)

pub returns-in_err-line-clause-err : goal.returns-in_err-line-clause-err
returns-in_err-line-clause-err c =
    let b = c.args.bytes.now in
    let some = marked_line b c.after.result.now _ c.in-Some.end c.requires.kept.1 c.requires.kept.2 c.after.ensures c.in-Some.ensures.line c.in-Some.ensures.rest in
    on_err c.from_residual.result (refl, refl, λ none. let wrong = sym some.0 ∙ none in cc)

pub returns-clause-within : goal.returns-clause-within
returns-clause-within c =
    let end = c.in-Some.ensures.within in
    let is : c.in-Some.end + 2 ≤ length c.args.bytes.now - 1048576 = subst (λ n. c.in-Some.end + 2 ≤ n) (ap length c.after.ensures ∙ length-drop 1048576 c.args.bytes.now) end in
    let l = c.requires.kept.1 in
    omega arith

pub returns-clause-found : goal.returns-clause-found
returns-clause-found c =
    let b = c.args.bytes.now in
    let some = marked_line b c.after.result.now _ c.in-Some.end c.requires.kept.1 c.requires.kept.2 c.after.ensures c.in-Some.ensures.line c.in-Some.ensures.rest in
    (some.0 ∙ ap (λ (l : SmtpLine). l ∷ smtp_lines_of (drop (1048576 + (c.in-Some.end + 2)) b)) (sym c.in_ok-line.ensures), some.1)

pub returns-clause-none : goal.returns-clause-none
returns-clause-none c =
    let b = c.args.bytes.now in
    let some = marked_line b c.after.result.now _ c.in-Some.end c.requires.kept.1 c.requires.kept.2 c.after.ensures c.in-Some.ensures.line c.in-Some.ensures.rest in
    (λ e. cc, λ none. absurd (let wrong = sym some.0 ∙ none in cc))
