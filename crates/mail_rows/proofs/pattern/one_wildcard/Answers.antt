use Rattle.std.proofs.Common.{ℕ, Bool, ap, sym}
use Rattle.std.specs.Prelude.{◌==◌, if◌then◌else◌}
use Rattle.std.proofs.lemmas.Bool.{ne_eqb}
use Rattle.mail_rows.proofs.pattern.one_wildcard.Goals as goal

pub returns-then-second-eq42 : goal.returns-then-second-eq42
returns-then-second-eq42 c = ap {B = ℕ} (λ (n : ℕ). if n == 42 then 42 else c.args.first) (sym c.if-second-eq42.true)

pub returns-else-second-eq42 : goal.returns-else-second-eq42
returns-else-second-eq42 c = ap {B = ℕ} (λ (b : Bool). if b then 42 else c.args.first) (sym (ne_eqb c.args.second 42 c.if-second-eq42.false))
