use Rattle.std.proofs.Common.{ap, ◌∙◌, map, string_bytes}
use Rattle.std.proofs.lemmas.Bool.{false_from_ne_true}
use Rattle.clap.specs.Words.{App, takes}
use Rattle.command_words.specs.Program.{program}
use Rattle.command_words.proofs.program.let_clap_read.Goals as goal

pub returns-clause-usage : goal.returns-clause-usage
returns-clause-usage c = λ refused.
    let words = map string_bytes c.args.words.now in
    false_from_ne_true (takes program words)
    (λ taken. c.refused.ensures.usage refused (c.kind.ensures ∙ c.in-Err.ensures.passes (ap (λ (a : App). takes a words) c.in-Ok.ensures ∙ taken)))
