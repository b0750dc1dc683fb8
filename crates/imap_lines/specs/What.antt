-- What a command asks, by its verb and its arguments (RFC 3501, 6 and 9: command).
use Rattle.std.specs.Prelude.{ℕ, Bool, true, false, ◌==◌, List, [], length, Option, None, Some, option_map, option_and_then, if◌then◌else◌}
use Rattle.imap_lines.specs.Append.{append_in}
use Rattle.imap_lines.specs.Arguments.{last_string, two_strings, string_and_pattern, string_and_list}
use Rattle.imap_lines.specs.Asks.{statuses_from}
use Rattle.imap_lines.specs.Messages.{fetch_of, store_of, copy_of, search_of}
use Rattle.imap_tokens.specs.declared.tokens.Token.{Token}
use Rattle.imap_lines.specs.declared.verbs.BareVerb.{BareVerb}
use Rattle.imap_lines.specs.declared.verbs.BareVerb.TheVariants as bare_verb
use Rattle.imap_lines.specs.declared.verbs.MailboxVerb.{MailboxVerb}
use Rattle.imap_lines.specs.declared.verbs.MailboxVerb.TheVariants as mailbox_verb
use Rattle.imap_lines.specs.declared.verbs.Verb.{Verb}
use Rattle.imap_lines.specs.declared.verbs.Verb.TheVariants as verb
use Rattle.imap_lines.specs.declared.command.ImapWhat.{ImapWhat}
use Rattle.imap_lines.specs.declared.command.ImapWhat.TheVariants.{Capability, Noop, Logout, Login, Select, Examine, Create, Delete, Rename, Subscribe, Unsubscribe, List as Listed, Lsub, Status, Check, Close, Expunge, Authenticate}

abbrev pub bare : BareVerb → ImapWhat
bare bare_verb.Capability = Capability
bare bare_verb.Noop = Noop
bare bare_verb.Logout = Logout
bare bare_verb.Check = Check
bare bare_verb.Close = Close
bare bare_verb.Expunge = Expunge

-- a command without arguments
abbrev pub bare_in : BareVerb → List Token → Option ImapWhat
bare_in v tokens = if length tokens == 0 then Some (bare v) else None

abbrev pub with_mailbox : MailboxVerb → List ℕ → ImapWhat
with_mailbox mailbox_verb.Select mailbox = Select mailbox
with_mailbox mailbox_verb.Examine mailbox = Examine mailbox
with_mailbox mailbox_verb.Create mailbox = Create mailbox
with_mailbox mailbox_verb.Delete mailbox = Delete mailbox
with_mailbox mailbox_verb.Subscribe mailbox = Subscribe mailbox
with_mailbox mailbox_verb.Unsubscribe mailbox = Unsubscribe mailbox

-- a command whose argument is a mailbox
abbrev pub mailbox_in : MailboxVerb → List Token → Option ImapWhat
mailbox_in v tokens = option_map (λ mailbox. with_mailbox v mailbox) (last_string tokens)

abbrev pub login_in : List Token → Option ImapWhat
login_in tokens = option_map (λ r. Login r.0 r.1) (two_strings tokens)

abbrev pub rename_in : List Token → Option ImapWhat
rename_in tokens = option_map (λ r. Rename r.0 r.1) (two_strings tokens)

-- LSUB, or LIST
abbrev pub with_list : Bool → List ℕ → List ℕ → ImapWhat
with_list subscribed reference pattern = if subscribed then Lsub reference pattern else Listed reference pattern

abbrev pub list_in : Bool → List Token → Option ImapWhat
list_in subscribed tokens = option_map (λ r. with_list subscribed r.0 r.1) (string_and_pattern tokens)

abbrev pub status_in : List Token → Option ImapWhat
status_in tokens = option_and_then (λ r. option_map (λ asked. Status r.0 asked) (statuses_from true [] r.1)) (string_and_list tokens)

-- what a verb asks with these arguments
unfoldable pub what_in : Verb → Bool → List Token → Option ImapWhat
what_in (verb.Bare v) by_uid tokens = bare_in v tokens
what_in (verb.Mailbox v) by_uid tokens = mailbox_in v tokens
what_in verb.Login by_uid tokens = login_in tokens
what_in verb.Rename by_uid tokens = rename_in tokens
what_in verb.List by_uid tokens = list_in false tokens
what_in verb.Lsub by_uid tokens = list_in true tokens
what_in verb.Status by_uid tokens = status_in tokens
what_in verb.Append by_uid tokens = append_in tokens
what_in verb.Fetch by_uid tokens = fetch_of by_uid tokens
what_in verb.Store by_uid tokens = store_of by_uid tokens
what_in verb.Copy by_uid tokens = copy_of by_uid tokens
what_in verb.Search by_uid tokens = search_of by_uid tokens
what_in verb.Authenticate by_uid tokens = Some Authenticate
