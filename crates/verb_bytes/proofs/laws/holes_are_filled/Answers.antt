use Rattle.verb_bytes.proofs.Around.{filled_again, filled_places, hole_filled, hole_lies}
use Rattle.verb_bytes.proofs.laws.holes_are_filled.Goals as goal

pub returns : goal.returns
returns c = record { spells = hole_filled; places = filled_places; lies = hole_lies; again = filled_again }
