use Rattle.console_http.proofs.Knowing.{ask_knows}
use Rattle.console_http.proofs.laws.acts_name_known_users.Goals as goal

pub returns : goal.returns
returns c = ask_knows
