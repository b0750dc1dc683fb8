-- Worked rows: short dialogs ask what they should, so that the laws speak of something.
use Rattle.std.proofs.Common.{◌≡◌, ℕ, false, List, [], ◌∷◌, length, codes, None, Some, refl}
use Rattle.smtp_lines.specs.Command.{spoken}
use Rattle.imap_lines.specs.What.{what_in}
use Rattle.verb_core.specs.declared.ask.Ask.TheVariants.{Select}
use Rattle.verb_core.specs.declared.conf.Conf.{Conf}
use Rattle.verb_core.specs.declared.conf.House.{House}
use Rattle.verb_core.specs.Store as store
use Rattle.smtp_session.specs.Dialog as client
use Rattle.imap_session.specs.Dialog as reader
use Rattle.dialog_laws.specs.SmtpClient as clients
use Rattle.dialog_laws.specs.ImapClient as readers

-- a house of one user, and its opening store
abbrev house : House
house = record {
  host = codes "h";
  domains = codes "h" ∷ [];
  first = 2;
  accounts = record { name = codes "ann"; password = codes "x" } ∷ [];
  postmaster = record { 0 = 0 };
}

abbrev conf : Conf
conf = record { aliases = []; filters = [] }

abbrev line : List ℕ → clients.Taken
line bytes = clients.Line conf 0 (record { bytes = bytes; long = false })

-- an SMTP client that sends one message asks for one delivery
one_delivery : length (clients.asked_in house client.opening (line (codes "HELO c") ∷ line (codes "MAIL FROM:<a@b>") ∷ line (codes "RCPT TO:<Ann@h>") ∷ line (codes "DATA") ∷ line (codes "Hi") ∷ line (codes ".") ∷ [])) ≡ 1
unfolding spoken
one_delivery = refl

-- and one that begins no transaction asks for none
no_delivery : clients.asked_in house client.opening (line (codes "HELO c") ∷ line (codes "DATA") ∷ line (codes ".") ∷ []) ≡ []
unfolding spoken
no_delivery = refl

abbrev command : List ℕ → readers.Taken
command bytes = readers.Command (store.opening house conf) (λ body. None) false (record { lines = bytes ∷ []; literals = [] })

-- an IMAP client that logs in and selects its INBOX, in any case, asks for it as user 0
one_ask : readers.asked_in house reader.opening (command (codes "a LOGIN ann x") ∷ command (codes "b SELECT inbox") ∷ []) ≡ record { user = Some (record { 0 = 0 }); ask = Select (codes "INBOX") } ∷ []
unfolding what_in
one_ask = refl
