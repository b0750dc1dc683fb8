use Rattle.console_head.proofs.Cut.{line_taken, none_taken}
use Rattle.console_head.proofs.lines.Lines.take_line.Goals as goal

pub returns-in_default-clause-found : goal.returns-in_default-clause-found
returns-in_default-clause-found c =
    let none = c.in_default.ensures.none in
    none_taken c.args.self.now c.args.bytes.now c.requires (rw c.after-rest.ensures at none)

pub returns-clause-first : goal.returns-clause-first
returns-clause-first c =
    let within = c.in-Some.ensures.found.0 in
    let before = c.in-Some.ensures.before in
    let here = c.in-Some.ensures.found.1 in
    rw (c.pass.ensures.lines, c.before-line.ensures, c.after-rest.ensures)
    (line_taken c.args.self.now c.args.bytes.now c.in-Some.place c.requires (rw c.after-rest.ensures at within) (rw c.after-rest.ensures at before) (rw c.after-rest.ensures at here)).0

pub returns-clause-found : goal.returns-clause-found
returns-clause-found c =
    let within = c.in-Some.ensures.found.0 in
    let before = c.in-Some.ensures.before in
    let here = c.in-Some.ensures.found.1 in
    rw (c.pass.ensures.found, c.pass.ensures.lines, c.before-line.ensures, c.after-rest.ensures)
    (line_taken c.args.self.now c.args.bytes.now c.in-Some.place c.requires (rw c.after-rest.ensures at within) (rw c.after-rest.ensures at before) (rw c.after-rest.ensures at here)).1
