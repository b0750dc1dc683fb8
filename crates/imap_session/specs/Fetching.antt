-- What a FETCH asks of the store, and the texts that it needs (RFC 3501, 6.4.5).
use Rattle.std.specs.Prelude.{Bool, not, ◌&&◌, ◌||◌, ◌==◌, nat_lt, List, [], map, length, if◌then◌else◌}
use Rattle.verb_core.specs.declared.mailbox.Body.{Body}
use Rattle.verb_core.specs.declared.ask.Ask.{Ask}
use Rattle.verb_core.specs.declared.ask.Ask.TheVariants as ask
use Rattle.imap_fetch.specs.declared.messages.Message.{Message}
use Rattle.imap_fetch.specs.Asked.{body_sections, shows_body}
use Rattle.imap_session.specs.declared.dialog.Fetching.{Fetching}

-- what a FETCH asks of the store
abbrev pub ask_of : Fetching → Ask
ask_of f = ask.Fetch f.mailbox f.keys f.form.sets_seen (shows_body f.form.attributes) (not f.form.by_uid) f.octets

-- the store is to refuse it: a message that a sequence number names is gone, or too much is asked
abbrev pub is_refused_unread : Fetching → Bool
is_refused_unread f = (not f.form.by_uid && nat_lt (length f.rows) (length f.keys)) || nat_lt 65536 (length f.keys) || nat_lt 268435456 f.octets

-- the bodies whose texts it needs: none where it shows no text, or is to be refused
abbrev pub bodies_of : Fetching → List Body
bodies_of f = if body_sections f.form.attributes == 0 || is_refused_unread f then [] else map (λ (m : Message). m.entry.body) f.rows
