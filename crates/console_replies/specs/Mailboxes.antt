-- A mailbox as JSON data.
use Rattle.std.specs.Prelude.{ℕ, Bool, List, [], ◌++◌, codes, map, if◌then◌else◌}
use Rattle.serde_json.specs.Data.{Data, string, array, object, no_members, member}
use Rattle.serde_json.specs.View.{items_of}
use Rattle.undo_base.specs.declared.keys.Flags.{Flags}
use Rattle.verb_core.specs.declared.mailbox.Entry.{Entry}
use Rattle.verb_core.specs.declared.mailbox.Mailbox.{Mailbox}
use Rattle.console_replies.specs.Bodies.{counted}

abbrev pub letter : Bool → List ℕ → List ℕ
letter has text = if has then text else []

-- Answered, Flagged, Deleted, Seen, Draft
abbrev pub letters : Flags → List ℕ
letters f = letter f.answered (codes "A") ++ letter f.flagged (codes "F") ++ letter f.deleted (codes "D") ++ letter f.seen (codes "S") ++ letter f.draft (codes "R")

abbrev pub entry_data : Entry → Data
entry_data e =
    object (member (codes "at") (counted e.at) (member (codes "flags") (string (letters e.flags)) (member (codes "index") (counted e.key.index) (member (codes "item") (counted e.key.item)
    (member (codes "origin") (counted e.body.origin) (member (codes "rev") (counted e.body.rev) (member (codes "uid") (counted e.uid) no_members)))))))

-- the entries by UID, the next UID and the stamp
abbrev pub box_data : Mailbox → ℕ → Data
box_data box stamp =
    object (member (codes "entries") (array (items_of (map entry_data box.entries))) (member (codes "next") (counted box.next) (member (codes "stamp") (counted stamp) no_members)))
