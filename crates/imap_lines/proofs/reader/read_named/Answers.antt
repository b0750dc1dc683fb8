use Rattle.std.proofs.lemmas.Result.{err_from_is_err_and}
use Rattle.imap_lines.proofs.Tagged.{is_tagged}
use Rattle.imap_lines.proofs.reader.read_named.Goals as goal

pub returns-in_err-tag : goal.returns-in_err-tag
returns-in_err-tag c =
    let p = err_from_is_err_and c.from_residual.result c.from_residual.ensures.1 in
    rw (p.1, p.2) (is_tagged c.args.tag.now c.args.line.now c.args.lines.now c.args.literals.now)
