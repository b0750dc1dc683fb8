-- What follows an event's turns for the other connections: who is told, and closed.
use Rattle.std.specs.Prelude.{ℕ, filter, Bool, true, false, not, List, [], ◌∷◌, ◌++◌, map, Option, None, Some, if◌then◌else◌}
use Rattle.std.specs.List.{list_any}
use Rattle.verb_core.specs.declared.mailbox.BoxId.{BoxId}
use Rattle.verb_core.specs.declared.mailbox.Mailbox.{Mailbox}
use Rattle.verb_core.specs.Boxes.{has_row}
use Rattle.imap_session.specs.Dialog as imap
use Rattle.imap_session.specs.Words.{changed_text}
use Rattle.store_kept.specs.Kept.{Kept, store_of}
use Rattle.mail_loop.specs.declared.aftermath.Aftermath.{Aftermath}
use Rattle.mail_loop.specs.declared.aftermath.Aftermath.TheVariants.{Quiet, TookAway, Rewound, Upgraded}
use Rattle.mail_loop.specs.State.{Seat, Smtp, Imap, Http, Pop, role_of}
use Rattle.mail_loop.specs.Roles.{row_of}

-- the mailboxes that are taken away between two stores: those of the first that have none of their name in the second
abbrev pub taken_away : List (BoxId × Mailbox) → List (BoxId × Mailbox) → List BoxId
taken_away before after = filter (λ (id : BoxId). not (has_row id after)) (map (λ (r : BoxId × Mailbox). r.0) before)

-- the same, between what was kept and what is kept
abbrev pub gone_between : Kept → Kept → List BoxId
gone_between before after = taken_away (store_of before).boxes (store_of after).boxes

-- mailboxes were taken away, or none was
abbrev pub taking : List BoxId → Aftermath
taking [] = Quiet
taking (box ∷ boxes) = TookAway (box ∷ boxes)

-- what follows two, one behind the other
abbrev pub both_follow : Aftermath → Aftermath → Aftermath
both_follow Quiet next = next
both_follow (TookAway boxes) Quiet = TookAway boxes
both_follow (TookAway boxes) (TookAway more) = TookAway (boxes ++ more)
both_follow (TookAway boxes) Rewound = Rewound
both_follow (TookAway boxes) Upgraded = Upgraded
both_follow Rewound next = Rewound
both_follow Upgraded Quiet = Upgraded
both_follow Upgraded (TookAway boxes) = Upgraded
both_follow Upgraded Rewound = Rewound
both_follow Upgraded Upgraded = Upgraded

abbrev pub is_quiet : Aftermath → Bool
is_quiet Quiet = true
is_quiet (TookAway boxes) = false
is_quiet Rewound = false
is_quiet Upgraded = false

-- whether a session has one of these mailboxes selected
abbrev pub holds_one : List BoxId → Seat → Bool
holds_one boxes (Smtp unserved d) = false
holds_one boxes (Http came) = false
holds_one boxes (Pop unserved d) = false
holds_one boxes (Imap stream d) = list_any (λ (box : BoxId). imap.holds d box.user box.name) boxes

-- the last words to another connection, behind which it is closed; none where it goes on
abbrev pub last_words : Aftermath → Seat → Option (List ℕ)
last_words Quiet seat = None
last_words (TookAway boxes) seat = if holds_one boxes seat then Some changed_text else None
last_words Rewound seat = (row_of (role_of seat)).at_rewind
last_words Upgraded seat = (row_of (role_of seat)).at_upgrade
