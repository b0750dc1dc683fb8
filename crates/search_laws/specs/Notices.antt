-- What a SEARCH has shown, and when that no longer holds.
use Rattle.std.specs.Prelude.{ℕ, Bool, false, List, Option, if◌then◌else◌}
use Rattle.std.specs.List.{list_all, list_any}
use Rattle.undo_base.specs.declared.keys.User.{User}
use Rattle.verb_core.specs.declared.item.Deed.{Deed}
use Rattle.verb_core.specs.declared.item.Deed.TheVariants as deed
use Rattle.verb_core.specs.declared.item.Sight.{Sight}
use Rattle.verb_core.specs.Live.{mail_of}
use Rattle.verb_core.specs.Mailboxes.{sights}
use Rattle.verb_core.specs.Store.{MailStore}
use Rattle.search_verb.specs.Meets.{needed}
use Rattle.imap_session.specs.Searching.{found, is_of_more, keys_of}
use Rattle.imap_session.specs.declared.dialog.Searching.{Searching}
use Rattle.paradox.specs.Answers.{same_message, same_sight}

-- the FETCH as which a SEARCH is kept: of the messages that it found, and of their texts where it looked at texts or at sizes
abbrev pub search_deed : Searching → List (List ℕ) → Deed
search_deed q texts = deed.Fetch q.mailbox (keys_of (found q texts)) false (is_of_more (needed q.key))

-- the messages that it found which are in the asker's mailbox of a store, each with the rev of its text
abbrev pub sights_in : MailStore → Option User → Searching → List (List ℕ) → List Sight
sights_in s by q texts = sights (mail_of s by q.mailbox) (keys_of (found q texts))

-- a message that was shown is among those of now, with the text that it had where texts count
abbrev pub stays : Bool → List Sight → Sight → Bool
stays texts_count now shown = if texts_count then list_any (same_sight shown) now else list_any (same_message shown) now

-- so is each that was shown
abbrev pub all_stay : Searching → List Sight → List Sight → Bool
all_stay q shown now = list_all (stays (is_of_more (needed q.key)) now) shown
