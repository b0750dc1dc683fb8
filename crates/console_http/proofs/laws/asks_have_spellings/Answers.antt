use Rattle.console_http.proofs.Knowing.{ask_records}
use Rattle.console_http.proofs.laws.asks_have_spellings.Goals as goal

pub returns : goal.returns
returns c = ask_records
