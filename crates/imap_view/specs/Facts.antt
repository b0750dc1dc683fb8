-- What the store tells of a mailbox (RFC 3501, 6.3.1 and 7.2.4).
use Rattle.std.specs.Prelude.{ℕ, Bool, true, false, List, Option, is_some, unwrap_or}
use Rattle.std.specs.List.{list_any}
use Rattle.undo_base.specs.declared.asks.StatusAsk.{StatusAsk}
use Rattle.undo_base.specs.declared.asks.StatusAsk.TheVariants.{Messages, Recent, UidNext, UidValidity, Unseen}
use Rattle.undo_base.specs.declared.keys.User.{User}
use Rattle.imap_text.specs.declared.facts.BoxFacts.{BoxFacts}
use Rattle.verb_core.specs.declared.mailbox.BoxId.{BoxId}
use Rattle.verb_core.specs.Boxes.{box_of, next_at, row_at}
use Rattle.verb_core.specs.Live.{asker, mail_of}
use Rattle.verb_core.specs.Store.{MailStore}
use Rattle.imap_view.specs.Views.{facts_of}

-- the UIDVALIDITY of a mailbox
abbrev pub stamp_of : List (BoxId × ℕ) → Option User → List ℕ → ℕ
stamp_of stamps by name = unwrap_or (row_at (box_of (asker by) name) stamps) 0

-- what a user's mailbox tells of itself
abbrev pub facts_at : MailStore → List (BoxId × ℕ) → Option User → List ℕ → BoxFacts
facts_at s stamps by name = facts_of (mail_of s by name) (next_at (box_of (asker by) name) s.boxes) (stamp_of stamps by name)

-- the unseen messages are asked for
abbrev pub is_unseen_asked : StatusAsk → Bool
is_unseen_asked Messages = false
is_unseen_asked Recent = false
is_unseen_asked UidNext = false
is_unseen_asked UidValidity = false
is_unseen_asked Unseen = true

abbrev pub asks_unseen : List StatusAsk → Bool
asks_unseen asked = list_any is_unseen_asked asked

-- the user's mailbox is there
abbrev pub is_there : MailStore → Option User → List ℕ → Bool
is_there s by name = is_some (row_at (box_of (asker by) name) s.boxes)
