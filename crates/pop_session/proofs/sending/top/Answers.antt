use Rattle.std.proofs.Common.{◌≡◌, ℕ, List, take, ◌∙◌, subst}
use Rattle.header_fields.specs.Lines.{joined, lines_of}
use Rattle.pop_session.proofs.Sent.{top_is}
use Rattle.pop_session.proofs.sending.top.Goals as goal

pub returns : goal.returns
returns c =
    c.before-2.ensures ∙ top_is c.args.bytes.now c.header_len-head.result c.lines_len-more.result c.args.count c.header_len-head.ensures.within c.header_len-head.ensures.header
    (subst (λ (r : List ℕ). take c.lines_len-more.result r ≡ joined (take c.args.count (lines_of r))) c.after-rest.ensures c.lines_len-more.ensures.value)
