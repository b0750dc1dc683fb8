-- The verbs of users, the reasons for which an answer no longer holds, and the items that are told of.
use Rattle.std.specs.Prelude.{ℕ, List, codes, Option, Some, None, option_map, option_and_then}
use Rattle.verb_core.specs.declared.item.Item.{Item}
use Rattle.verb_core.specs.declared.item.Deed.{Deed}
use Rattle.verb_core.specs.declared.item.Deed.TheVariants as deed
use Rattle.verb_core.specs.Deeds.{mailbox_in}
use Rattle.paradox.specs.declared.words.Verb.{Verb}
use Rattle.paradox.specs.declared.words.Verb.TheVariants as verb
use Rattle.paradox.specs.declared.words.Reason.{Reason}
use Rattle.paradox.specs.declared.words.Reason.TheVariants.{Missing, Changed, NoName, Fewer, Redirected, Left, Renamed, Moved, Withdrawn}
use Rattle.paradox.specs.declared.reports.BrokenItem.{BrokenItem}

abbrev pub verb_word : Verb → List ℕ
verb_word verb.Deliver = codes "DELIVER"
verb_word verb.Append = codes "APPEND"
verb_word verb.Fetch = codes "FETCH"
verb_word verb.Store = codes "STORE"
verb_word verb.Copy = codes "COPY"
verb_word verb.List = codes "LIST"
verb_word verb.Status = codes "STATUS"
verb_word verb.Select = codes "SELECT"
verb_word verb.Expunge = codes "EXPUNGE"
verb_word verb.Close = codes "CLOSE"
verb_word verb.Create = codes "CREATE"
verb_word verb.Rename = codes "RENAME"
verb_word verb.Delete = codes "DELETE"

-- a reason in words
abbrev pub reason_text : Reason → List ℕ
reason_text Missing = codes "a message is missing"
reason_text Changed = codes "a message was changed"
reason_text NoName = codes "a mailbox is missing"
reason_text Fewer = codes "fewer messages"
reason_text Redirected = codes "the mail went to Lost+Found"
reason_text Left = codes "a message was kept"
reason_text Renamed = codes "the mailbox was not renamed"
reason_text Moved = codes "mail that you had not seen was kept"
reason_text Withdrawn = codes "withdrawn by the operator"

-- the verb of a deed: acts and notices are no verbs
abbrev pub verb_of : Deed → Option Verb
verb_of (deed.Deliver from to text) = Some verb.Deliver
verb_of (deed.Append mailbox flags moment text) = Some verb.Append
verb_of (deed.Fetch mailbox keys sets_seen shows_body) = Some verb.Fetch
verb_of (deed.Store mailbox keys how flags) = Some verb.Store
verb_of (deed.Copy mailbox keys target) = Some verb.Copy
verb_of (deed.List pattern) = Some verb.List
verb_of (deed.Status mailbox) = Some verb.Status
verb_of (deed.Select mailbox) = Some verb.Select
verb_of (deed.Expunge mailbox keys) = Some verb.Expunge
verb_of (deed.Close mailbox keys) = Some verb.Close
verb_of (deed.Create mailbox) = Some verb.Create
verb_of (deed.Rename mailbox target) = Some verb.Rename
verb_of (deed.Delete mailbox keys) = Some verb.Delete
verb_of (deed.Act act) = None
verb_of (deed.Notice user text) = None

-- an item as it is told of: only what a user did is told
abbrev pub told_of : Item → Reason → Option BrokenItem
told_of i reason =
    option_and_then (λ user. option_map (λ verb. record { number = i.number; user = user; verb = verb; mailbox = mailbox_in i.deed; reason = reason }) (verb_of i.deed)) i.by
