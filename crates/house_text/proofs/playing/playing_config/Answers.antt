use Rattle.std.proofs.Common.{sym, ◌∙◌}
use Rattle.std.proofs.lemmas.Option.{same_Some}
use Rattle.house_text.proofs.Played.{house_is_played, house_is_utf8, house_is_no_refusal}
use Rattle.house_text.proofs.playing.playing_config.Goals as goal

pub returns-in-Ok-clause-value : goal.returns-in-Ok-clause-value
returns-in-Ok-clause-value c = same_Some _ _ (sym c.in-Ok.ensures.value.1 ∙ house_is_played)

pub unreachable-requires : goal.unreachable-requires
unreachable-requires c = house_is_no_refusal ((rw c.in-Err-Text.field-0-is at c.in-Err-Text.ensures.value) house_is_utf8)
