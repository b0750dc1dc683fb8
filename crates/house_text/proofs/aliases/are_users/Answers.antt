use Rattle.std.proofs.Common.{arith, ◌∙◌}
use Rattle.house_text.specs.Configuration as spec
use Rattle.house_text.proofs.Lists.{some_pass}
use Rattle.house_text.proofs.aliases.are_users.Goals as goal

pub returns-then-values-ge1 : goal.returns-then-values-ge1
returns-then-values-ge1 c = c.are_all_users.ensures ∙ some_pass (spec.is_user c.args.accounts.now) c.args.values.now (omega arith)
