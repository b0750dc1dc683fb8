use Rattle.std.proofs.Common.{◌≡◌, ◌==◌, List, ℕ, false, true, length, ap, sym, ◌∙◌, subst, Err}
use Rattle.undo_outside.specs.Calls.{Sends}
use Rattle.mail_loop.specs.Stands.{said_of}
use Rattle.mail_loop.proofs.Links.{told_not}
use Rattle.mail_loop.proofs.serve.tell.Goals as goal

pub returns-in-Err : goal.returns-in-Err
returns-in-Err g c =
    let told = g.L.Link.told in
    let letter = c.args.letter.now in
    let value = c.bytes-bytes.ensures in
    told_not (told c.args.link.now) (told c.send.new.self) letter.conn (said_of letter.said) letter.closes c.in-Err.field-0
    (λ none.
    let some : (length c.bytes-bytes.result.now == 0) ≡ false = sym c.is_empty.ensures ∙ c.if-is_empty.false in
    let empty : (length c.bytes-bytes.result.now == 0) ≡ true = ap (λ (b : List ℕ). length b == 0) (value ∙ none) in
    let wrong : true ≡ false = sym empty ∙ some in cc)
    (subst (λ (b : List ℕ). Sends (told c.args.link.now) (told c.send.new.self) letter.conn b (Err c.in-Err.field-0)) value c.in-Err.ensures)
