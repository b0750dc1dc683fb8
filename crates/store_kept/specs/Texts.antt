-- Where the texts of what is kept come from.
use Rattle.std.specs.Prelude.{ℕ, Bool, nat_le, ◌&&◌, List, [], ◌++◌, map, is_some, Option, Some, None, unwrap_or}
use Rattle.std.specs.FinMap.Entries as rows
use Rattle.std.specs.List.{list_all}
use Rattle.std.specs.Option.{option_or}
use Rattle.verb_core.specs.declared.item.Item.{Item}
use Rattle.verb_core.specs.declared.mailbox.Body.{Body}
use Rattle.verb_core.specs.declared.mailbox.BoxId.{BoxId}
use Rattle.verb_core.specs.declared.mailbox.Entry.{Entry}
use Rattle.verb_core.specs.declared.mailbox.Mailbox.{Mailbox}
use Rattle.verb_core.specs.Deeds.{is_notice}
use Rattle.verb_core.specs.Items.{text_of}
use Rattle.withdraw.specs.declared.undone.UndoneBehind.{UndoneBehind}
use Rattle.store_kept.specs.Kept.{BaseTexts, Kept, body_cmp}

-- whether a test passes at the body of each entry
abbrev pub all_bodies : (Body → Bool) → List (BoxId × Mailbox) → Bool
all_bodies test boxes = list_all (λ (r : BoxId × Mailbox). list_all (λ (e : Entry). test e.body) r.1.entries) boxes

-- ---- the text of a body

-- the text of a body that comes with a base
abbrev pub text_before : BaseTexts → Body → Option (List ℕ)
text_before texts body = rows.find body_cmp body texts

-- the text of a body that one of these items brings, or else comes with a base
abbrev pub text_with : BaseTexts → List Item → Body → Option (List ℕ)
text_with texts items body = option_or (text_of items body) (text_before texts body)

abbrev pub has_text_with : BaseTexts → List Item → Body → Bool
has_text_with texts items body = is_some (text_with texts items body)

-- the text of a body, where these are the items in force
abbrev pub text_among : Kept → List Item → Body → Option (List ℕ)
text_among kept items body = text_with kept.texts items body

abbrev pub has_text_among : Kept → List Item → Body → Bool
has_text_among kept items body = has_text_with kept.texts items body

-- the text of a body that is kept
abbrev pub text_kept : Kept → Body → Option (List ℕ)
text_kept kept body = text_among kept kept.timeline body

-- whether a body has a text that is kept
abbrev pub has_text_kept : Kept → Body → Bool
has_text_kept kept body = is_some (text_kept kept body)

-- the texts of bodies, in order
abbrev pub texts_kept : Kept → List Body → List (List ℕ)
texts_kept kept bodies = map (λ (body : Body). unwrap_or (text_kept kept body) []) bodies

-- the items that can come back: those that stood behind the point of the cycle that can be withdrawn, if one can
abbrev pub items_behind : Option UndoneBehind → List Item
items_behind None = []
items_behind (Some last) = last.later

-- the items whose texts may be asked for: those in force, and those that can come back
abbrev pub items_asked : Kept → List Item
items_asked kept = kept.timeline ++ items_behind kept.undone

-- the text of a body that is kept, or that can come back: over all that happens a body has one of these at most
abbrev pub text_at_hand : Kept → Body → Option (List ℕ)
text_at_hand kept body = text_among kept (items_asked kept) body

-- whether an item's text is in memory, where numbers are drawn from the first one on: a cycle or a withdrawal of this journal makes a
-- notice's, and no record has it. A notice of before has a lower number, and a record of its own
abbrev pub is_in_memory : ℕ → Item → Bool
is_in_memory first i = is_notice i.deed && nat_le first i.number
