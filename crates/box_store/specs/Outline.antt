-- The outline of a store: which mailboxes there are, with no mail in them.
use Rattle.std.specs.Prelude.{map}
use Rattle.verb_core.specs.declared.mailbox.BoxId.{BoxId}
use Rattle.verb_core.specs.declared.mailbox.Mailbox.{Mailbox}
use Rattle.verb_core.specs.Mailboxes.{no_mail}
use Rattle.verb_core.specs.Step.{Boxes}
use Rattle.verb_core.specs.Store.{MailStore}

-- mailboxes of the same users and names, each a new one
abbrev pub outlined : Boxes → Boxes
outlined boxes = map (λ (r : BoxId × Mailbox). (r.0, no_mail)) boxes

-- the same house, the same configuration, and the same mailboxes without mail
abbrev pub outline : MailStore → MailStore
outline s = record s { boxes = outlined s.boxes }
