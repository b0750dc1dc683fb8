use Rattle.std.proofs.Common.{◌∙◌, ap}
use Rattle.std.specs.Prelude.{option_map}
use Rattle.std.specs.Option.{option_to_list}
use Rattle.verb_bytes.specs.Places.{placed}
use Rattle.verb_bytes.proofs.Found.{kept_place_found}
use Rattle.verb_bytes.proofs.places.kept_text_places.Goals as goal

pub returns : goal.returns
returns c = kept_place_found c.args.item.now c.kept_text_from.result c.in_ok-places.places c.kept_text_from.ensures.from c.in_ok-places.ensures.small (c.in_ok-places.ensures.place ∙ ap (λ t. option_to_list (option_map (placed c.kept_text_from.result) t)) c.text.ensures)
