-- The words of commands (RFC 3501, 9: command).
use Rattle.std.specs.Prelude.{codes, ℕ, List, [], ◌∷◌, Option, option_map}
use Rattle.std.specs.Option.{option_or}
use Rattle.imap_tokens.specs.Words.{row_of}
use Rattle.imap_lines.specs.declared.verbs.BareVerb.{BareVerb}
use Rattle.imap_lines.specs.declared.verbs.BareVerb.TheVariants.{Capability, Noop, Logout, Check, Close, Expunge}
use Rattle.imap_lines.specs.declared.verbs.MailboxVerb.{MailboxVerb}
use Rattle.imap_lines.specs.declared.verbs.MailboxVerb.TheVariants.{Select, Examine, Create, Delete, Subscribe, Unsubscribe}
use Rattle.imap_lines.specs.declared.verbs.Verb.{Verb}
use Rattle.imap_lines.specs.declared.verbs.Verb.TheVariants.{Bare, Mailbox, Login, Rename, List as ListVerb, Lsub, Status, Append, Fetch, Store, Copy, Search, Authenticate}

-- commands without arguments
abbrev pub bare_verbs : List (List ℕ × BareVerb)
bare_verbs =
    (codes "CAPABILITY", Capability)
    ∷ (codes "NOOP", Noop)
    ∷ (codes "LOGOUT", Logout)
    ∷ (codes "CHECK", Check)
    ∷ (codes "CLOSE", Close)
    ∷ (codes "EXPUNGE", Expunge) ∷ []

abbrev pub bare_verb : List ℕ → Option BareVerb
bare_verb word = row_of bare_verbs word

-- commands whose argument is a mailbox
abbrev pub mailbox_verbs : List (List ℕ × MailboxVerb)
mailbox_verbs =
    (codes "SELECT", Select)
    ∷ (codes "EXAMINE", Examine)
    ∷ (codes "CREATE", Create)
    ∷ (codes "DELETE", Delete)
    ∷ (codes "SUBSCRIBE", Subscribe)
    ∷ (codes "UNSUBSCRIBE", Unsubscribe) ∷ []

abbrev pub mailbox_verb : List ℕ → Option MailboxVerb
mailbox_verb word = row_of mailbox_verbs word

-- other commands
abbrev pub other_verbs : List (List ℕ × Verb)
other_verbs =
    (codes "LOGIN", Login)
    ∷ (codes "RENAME", Rename)
    ∷ (codes "LIST", ListVerb)
    ∷ (codes "LSUB", Lsub)
    ∷ (codes "STATUS", Status)
    ∷ (codes "APPEND", Append)
    ∷ (codes "AUTHENTICATE", Authenticate) ∷ []

abbrev pub other_verb : List ℕ → Option Verb
other_verb word = row_of other_verbs word

-- commands that have a form with UIDs
abbrev pub message_verbs : List (List ℕ × Verb)
message_verbs =
    (codes "FETCH", Fetch)
    ∷ (codes "STORE", Store)
    ∷ (codes "COPY", Copy)
    ∷ (codes "SEARCH", Search) ∷ []

abbrev pub message_verb : List ℕ → Option Verb
message_verb word = row_of message_verbs word

-- the command of a word
abbrev pub verb_in : List ℕ → Option Verb
verb_in word = option_or (option_map Bare (bare_verb word)) (option_or (option_map Mailbox (mailbox_verb word)) (option_or (other_verb word) (message_verb word)))
