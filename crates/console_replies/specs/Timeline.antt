-- Items of the timeline as JSON data.
use Rattle.std.specs.Prelude.{ℕ, List, [], codes, map, unwrap_or, Option, Some, None}
use Rattle.serde_json.specs.Data.{Data, string, array, object, no_members, member}
use Rattle.serde_json.specs.View.{items_of}
use Rattle.undo_base.specs.declared.keys.User.{User}
use Rattle.verb_core.specs.declared.conf.House.{House}
use Rattle.verb_core.specs.declared.item.Item.{Item}
use Rattle.verb_core.specs.Deeds.{deed_word, mailbox_in}
use Rattle.paradox.specs.Letters.{user_name}
use Rattle.console_replies.specs.Bodies.{counted}

-- who did it, or no bytes
abbrev pub actor_name : House → Option User → List ℕ
actor_name house None = []
actor_name house (Some user) = user_name house user

abbrev pub item_data : House → Item → Data
item_data house i =
    object (member (codes "at") (counted i.at) (member (codes "box") (string (unwrap_or (mailbox_in i.deed) [])) (member (codes "by") (string (actor_name house i.by))
    (member (codes "number") (counted i.number) (member (codes "verb") (string (deed_word i.deed)) no_members)))))

-- items of the timeline, in order
abbrev pub timeline_data : House → List Item → Data
timeline_data house items = object (member (codes "items") (array (items_of (map (item_data house) items))) no_members)
