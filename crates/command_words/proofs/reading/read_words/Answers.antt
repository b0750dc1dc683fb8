use Rattle.std.proofs.Common.{map, string_bytes}
use Rattle.command_words.proofs.Readings.{refused_is_none, same_refusal}
use Rattle.command_words.proofs.reading.read_words.Goals as goal

pub returns-in-Err-clause-usage : goal.returns-in-Err-clause-usage
returns-in-Err-clause-usage c = λ refused.
    refused_is_none (map string_bytes c.args.words.now.items) (rw c.as_slice-words.ensures.value at (c.in-Err.ensures.usage (same_refusal _ _ refused)))
