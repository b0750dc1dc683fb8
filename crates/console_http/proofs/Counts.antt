-- How many members an object has.
use Rattle.std.proofs.Common.{◌≡◌, List, length, Option, Some, sym, ap, ◌∙◌}
use Rattle.std.specs.Prelude.{option_map}
use Rattle.serde_json.specs.Data.{Members}
use Rattle.serde_json.specs.Events.{members_len}
use Rattle.serde_json.specs.View.{members_view}
use Rattle.serde_json.proofs.Views.{Entry, members_len-members_view}

pub members_counted : (es : List Entry) (o : Option Members) → Some (members_view es) ≡ o → Some (length es) ≡ option_map members_len o
members_counted es o e = ap Some (sym (members_len-members_view es)) ∙ ap (λ (m : Option Members). option_map members_len m) e
