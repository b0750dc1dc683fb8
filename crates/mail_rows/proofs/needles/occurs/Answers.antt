use Rattle.std.proofs.Common.{subst}
use Rattle.std.specs.Prelude.{IsTrue, ◌↔◌}
use Rattle.bstr.specs.Text.{Contains}
use Rattle.mail_rows.proofs.Occurrences.{found_is_occurs}
use Rattle.mail_rows.proofs.needles.occurs.Goals as goal

pub returns : goal.returns
returns c =
    let found = subst (λ needle. IsTrue c.contains_str.result ↔ Contains c.args.bytes.now needle) c.bytes.ensures.value c.contains_str.ensures in
    found_is_occurs c.args.bytes.now c.args.needle.now c.contains_str.result found
