-- Two courses of serving, as examples: nothing is sealed in one, and a mail in the other.
use Rattle.std.specs.Prelude.{◌≡◌, ℕ, false, List, [], ◌∷◌, ◌++◌, codes, None, Ok}
use Rattle.undo_base.specs.LineEnd.{crlf}
use Rattle.undo_outside.specs.Disk.{DiskTold}
use Rattle.undo_outside.specs.declared.event.Role.TheVariants as role
use Rattle.undo_outside.specs.declared.event.What.{What}
use Rattle.undo_outside.specs.declared.event.What.TheVariants.{Joined, Bytes, Left}
use Rattle.seal_log.specs.Causes.{FindsMemory}
use Rattle.smtp_session.specs.Body.{body_of}
use Rattle.smtp_session.specs.Bytes.{said}
use Rattle.verb_core.specs.declared.ask.Ask.{Ask}
use Rattle.verb_core.specs.declared.ask.Ask.TheVariants.{Deliver}
use Rattle.verb_core.specs.declared.conf.Conf.{Conf}
use Rattle.verb_core.specs.declared.conf.House.{House}
use Rattle.verb_core.specs.declared.item.Item.{Item}
use Rattle.verb_bytes.specs.declared.journal.JournalRecord.TheVariants.{Verb}
use Rattle.store_kept.specs.Kept.{new_desk}
use Rattle.mail_desk.specs.Desk.{submitted}
use Rattle.desk_journal.specs.Lasting.{Lasting}
use Rattle.desk_journal.specs.Reading.{ReadsWell}
use Rattle.desk_journal.specs.Sealing.{Seals}
use Rattle.mail_loop.specs.Acknowledged.{Stretch}
use Rattle.mail_loop.specs.Machine.{IsPassed}
use Rattle.mail_loop.specs.Serving.{Step}

-- it happens on connection 1, and nothing hinders it
abbrev pub unhindered : What → Step
unhindered what = record { event = record { conn = 1; at = 0; what = what }; hindrances = record { unfed = false; turns = []; stage = Ok None; deliveries = []; keeping = IsPassed } }

-- a step in which a desk stays as it is
abbrev pub at_rest : {D : Type 0} → Lasting D → What → Stretch D
at_rest desk what = record { step = unhindered what; sealed = []; telling = desk; snapshot = []; after = desk }

-- an SMTP client joins, says that it does nothing, and leaves
abbrev pub a_visit : {D : Type 0} → Lasting D → List (Stretch D)
a_visit desk = at_rest desk (Joined role.Smtp) ∷ at_rest desk (Bytes (codes "NOOP" ++ crlf)) ∷ at_rest desk Left ∷ []

-- ---- a mail

-- a house of one user
abbrev pub a_house : House
a_house = record {
  host = codes "h";
  domains = codes "h" ∷ [];
  first = 2;
  accounts = record { name = codes "ann"; password = codes "x" } ∷ [];
  postmaster = record { 0 = 0 };
}

abbrev pub a_conf : Conf
a_conf = record { aliases = []; filters = [] }

-- what an SMTP client sends that has a mail for her
abbrev pub a_letter : List ℕ
a_letter = said (codes "HELO c") ++ said (codes "MAIL FROM:<a@b>") ++ said (codes "RCPT TO:<ann@h>") ++ said (codes "DATA") ++ said (codes "Hi") ++ said (codes ".")

-- what is asked of the desk for it: to deliver its text behind two trace lines
abbrev pub a_mail : Ask
a_mail = Deliver (codes "a@b") (codes "ann" ∷ []) (body_of (codes "h") 0 (codes "c") (codes "a@b") (said (codes "Hi")))

-- A new desk of that house delivers the mail, as this item, and seals its record: so it does by a call of `submit` of time_desk that answers Ok
-- (`deliver_mail`).
pub record Delivers {D : Type 0} (told : D → DiskTold) (old new : Lasting D) (item : Item) : Type 0 where
  pub is_open : old.closed ≡ false
  pub is_new : old.kept ≡ new_desk a_house a_conf
  pub ok : submitted old.kept 0 None a_mail ≡ record { outcome = Ok item; kept = new.kept }
  pub sealed : Seals told (Verb item ∷ []) [] old new
  pub reads : ReadsWell told old new
  pub finds_memory : FindsMemory (told old.disk) (told new.disk)

-- a step in which it is sent, and delivered as this item
abbrev pub sends_mail : {D : Type 0} → Lasting D → Item → Stretch D
sends_mail desk item = record { step = unhindered (Bytes a_letter); sealed = Verb item ∷ []; telling = desk; snapshot = []; after = desk }

-- the client joins, sends the mail in one event, and leaves
abbrev pub a_delivery : {D : Type 0} → Lasting D → Lasting D → Item → List (Stretch D)
a_delivery old new item = at_rest old (Joined role.Smtp) ∷ sends_mail new item ∷ at_rest new Left ∷ []
