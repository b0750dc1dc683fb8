use Rattle.std.proofs.Common.{arith}
use Rattle.verb_bytes.proofs.Found.{body_text_lies}
use Rattle.verb_bytes.proofs.Sizes.{before_text_is}
use Rattle.verb_bytes.proofs.places.body_text_from.Goals as goal

pub returns-clause-from : goal.returns-clause-from
returns-clause-from c = λ body text. omega (arith, before_text_is body)

pub returns-clause-lies : goal.returns-clause-lies
returns-clause-lies c = λ body text. body_text_lies body text 13 (omega (arith, before_text_is body))
