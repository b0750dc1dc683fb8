use Rattle.std.proofs.Common.{sym, ◌∙◌}
use Rattle.toml.specs.View.{table_view}
use Rattle.house_text.proofs.Begins.{config_begins}
use Rattle.house_text.proofs.read.read_config.Goals as goal

pub returns-in-Some-clause-begins : goal.returns-in-Some-clause-begins
returns-in-Some-clause-begins c =
    let (house, conf) = c.in-Some.config in
    let read = c.in_ok-config-in-Ok.ensures in
    config_begins (table_view c.in-Ok.table) house conf (sym read.value ∙ c.in-Some.is) (rw c.in-Some.is at read.house) (rw c.in-Some.is at read.rising)
