use Rattle.std.proofs.Common.{◌∙◌, ap}
use Rattle.std.specs.Prelude.{option_map}
use Rattle.std.specs.Option.{option_to_list}
use Rattle.verb_bytes.specs.Places.{placed}
use Rattle.verb_bytes.proofs.Found.{act_place_found}
use Rattle.verb_bytes.proofs.places.act_text_places.Goals as goal

pub returns : goal.returns
returns c = λ number at. act_place_found number at c.args.act.now c.act_text_from.result c.in_ok-places.places (c.act_text_from.ensures.from number at) (c.in_ok-places.ensures.place ∙ ap (λ t. option_to_list (option_map (placed c.act_text_from.result) t)) c.text.ensures)
