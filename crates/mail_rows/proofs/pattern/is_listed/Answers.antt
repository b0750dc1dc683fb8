use Rattle.std.proofs.Common.{◌<◌, List, ℕ, length, subst}
use Rattle.mail_rows.proofs.Patterns.{too_short}
use Rattle.mail_rows.proofs.pattern.is_listed.Goals as goal

pub returns-then-bytes-letters : goal.returns-then-bytes-letters
returns-then-bytes-letters c =
    too_short c.args.pattern.now c.args.name.now c.args.letters c.requires (subst (λ (bytes : List ℕ). length bytes < c.args.letters) c.bytes.ensures.value c.if-bytes-letters.true)
