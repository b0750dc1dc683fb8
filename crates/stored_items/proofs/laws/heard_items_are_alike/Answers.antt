use Rattle.verb_core.specs.Items.{IsWellFormed}
use Rattle.stored_items.proofs.Alike.{formed_heard}
use Rattle.stored_items.proofs.Heard.{all_heard_themselves, apart_heard, below_alike, handed_on, heard_joined, heard_longer, length_alike, mapped_alike, timeline_heard, up_to_alike}
use Rattle.stored_items.proofs.laws.heard_items_are_alike.Goals as goal

pub returns : goal.returns
returns c = record {
  themselves = all_heard_themselves;
  longer = heard_longer;
  joined = heard_joined;
  same = mapped_alike;
  as_many = length_alike;
  apart = apart_heard;
  timeline = timeline_heard;
  formed = λ house. handed_on (IsWellFormed house) (formed_heard house);
  below = below_alike;
  up_to = up_to_alike;
}
