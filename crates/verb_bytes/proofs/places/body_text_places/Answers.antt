use Rattle.verb_bytes.proofs.Found.{body_place_found}
use Rattle.verb_bytes.proofs.places.body_text_places.Goals as goal

pub returns : goal.returns
returns c = λ body. body_place_found body c.args.text.now c.body_text_from.result c.in_ok-places.places (c.body_text_from.ensures.from body c.args.text.now) c.in_ok-places.ensures.place
