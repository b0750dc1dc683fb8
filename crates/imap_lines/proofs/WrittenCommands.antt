-- Each command is read as it is written.
use Rattle.std.proofs.Common.{ℕ, ◌≤◌, Option, None, Some}
use Rattle.imap_lines.specs.PlainCommands.{IsMoment, IsWritable}
use Rattle.imap_lines.specs.declared.verbs.BareVerb.TheVariants as bare_verb
use Rattle.imap_lines.specs.declared.verbs.MailboxVerb.TheVariants as mailbox_verb
use Rattle.imap_lines.specs.declared.command.ImapWhat.{ImapWhat}
use Rattle.imap_lines.specs.declared.command.ImapWhat.TheVariants as what
use Rattle.imap_lines.proofs.WrittenHeads.{IsRead}
use Rattle.imap_lines.proofs.WrittenStrings.{bare_read, mailbox_read, login_read, rename_read, list_read, lsub_read, status_read, authenticate_read}
use Rattle.imap_lines.proofs.WrittenFlags.{IsDated, append_read, store_read, copy_read}
use Rattle.imap_lines.proofs.WrittenFetch.{fetch_read}

dated : ((at : ℕ) → at ≤ 253402300799 → IsDated (Some at)) → (moment : Option ℕ) → IsMoment moment → IsDated moment
dated dates None is = tt
dated dates (Some at) is = dates at is

pub command_read : ((at : ℕ) → at ≤ 253402300799 → IsDated (Some at)) → (asked : ImapWhat) → IsWritable asked → IsRead asked
command_read dates what.Capability is = bare_read bare_verb.Capability
command_read dates what.Noop is = bare_read bare_verb.Noop
command_read dates what.Logout is = bare_read bare_verb.Logout
command_read dates (what.Login user password) is = login_read user password
command_read dates (what.Select mailbox) is = mailbox_read mailbox_verb.Select mailbox
command_read dates (what.Examine mailbox) is = mailbox_read mailbox_verb.Examine mailbox
command_read dates (what.Create mailbox) is = mailbox_read mailbox_verb.Create mailbox
command_read dates (what.Delete mailbox) is = mailbox_read mailbox_verb.Delete mailbox
command_read dates (what.Rename mailbox target) is = rename_read mailbox target
command_read dates (what.Subscribe mailbox) is = mailbox_read mailbox_verb.Subscribe mailbox
command_read dates (what.Unsubscribe mailbox) is = mailbox_read mailbox_verb.Unsubscribe mailbox
command_read dates (what.List reference pattern) is = list_read reference pattern
command_read dates (what.Lsub reference pattern) is = lsub_read reference pattern
command_read dates (what.Status mailbox asked) is = status_read mailbox asked is
command_read dates (what.Append mailbox flags moment text) is = append_read mailbox flags moment text (dated dates moment is)
command_read dates what.Check is = bare_read bare_verb.Check
command_read dates what.Close is = bare_read bare_verb.Close
command_read dates what.Expunge is = bare_read bare_verb.Expunge
command_read dates (what.Fetch set asked by_uid) is = fetch_read set asked by_uid is.0 is.1
command_read dates (what.Store set how silent flags by_uid) is = store_read set how silent flags by_uid is
command_read dates (what.Copy set target by_uid) is = copy_read set target by_uid is
command_read dates (what.Search charset key by_uid) is = absurd is
command_read dates what.Authenticate is = authenticate_read
