-- The report of a cycle as JSON data.
use Rattle.std.specs.Prelude.{ℕ, List, codes, map}
use Rattle.serde_json.specs.Data.{Data, string, array, object, no_members, member}
use Rattle.serde_json.specs.View.{items_of}
use Rattle.verb_core.specs.declared.conf.House.{House}
use Rattle.verb_core.specs.declared.mailbox.BoxId.{BoxId}
use Rattle.paradox.specs.declared.reports.BrokenItem.{BrokenItem}
use Rattle.paradox.specs.declared.reports.Report.{Report}
use Rattle.paradox.specs.Words.{verb_word, reason_text}
use Rattle.paradox.specs.Letters.{user_name}
use Rattle.console_replies.specs.Bodies.{counted}

-- an item whose answer no longer holds, or that was withdrawn
abbrev pub broken_data : House → BrokenItem → Data
broken_data house b =
    object (member (codes "item") (counted b.number) (member (codes "reason") (string (reason_text b.reason)) (member (codes "user") (string (user_name house b.user))
    (member (codes "verb") (string (verb_word b.verb)) no_members))))

-- a mailbox with its new stamp
abbrev pub renewal_data : House → BoxId × ℕ → Data
renewal_data house r =
    object (member (codes "box") (string r.0.name) (member (codes "stamp") (counted r.1) (member (codes "user") (string (user_name house r.0.user)) no_members)))

abbrev pub numbers_told : List ℕ → Data
numbers_told numbers = array (items_of (map counted numbers))

-- the broken items, the cycle's number, how many items were kept, the notices, the point, the new stamps, and what was asked in vain
abbrev pub report_data : House → Report → Data
report_data house r =
    object (member (codes "broken") (array (items_of (map (broken_data house) r.broken))) (member (codes "cycle") (counted r.cycle) (member (codes "kept") (counted r.kept)
    (member (codes "notices") (numbers_told r.notices) (member (codes "point") (counted r.point)
    (member (codes "renewed") (array (items_of (map (renewal_data house) r.renewed))) (member (codes "unmatched") (numbers_told r.unmatched) no_members)))))))
