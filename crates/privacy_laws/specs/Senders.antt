-- What an SMTP client is told of beside its own lines: which local parts mean somebody, the next number, and whether there is room for a mail.
use Rattle.std.specs.Prelude.{◌≡◌, ℕ, Bool, not, List, [], ◌∷◌, None}
use Rattle.verb_core.specs.declared.ask.Ask.{Ask}
use Rattle.verb_core.specs.declared.ask.Ask.TheVariants.{Deliver}
use Rattle.verb_core.specs.declared.conf.House.{House}
use Rattle.verb_core.specs.Live.{asked_item, is_uid_wide}
use Rattle.verb_core.specs.Names.{is_empty}
use Rattle.verb_core.specs.Recipients.{resolved}
use Rattle.store_kept.specs.Kept.{Kept, store_of}
use Rattle.mail_desk.specs.Desk.{submitted}

-- a mail that comes at a moment
pub record Mail : Type 0 where
  pub at : ℕ
  pub from : List ℕ
  pub to : List (List ℕ)
  pub text : List ℕ

-- its delivery
abbrev pub delivery_of : Mail → Ask
delivery_of m = Deliver m.from m.to m.text

-- one of the mailboxes to which it goes has no UID for it
abbrev pub is_full : Kept → Mail → Bool
is_full kept m = is_uid_wide (store_of kept) None (delivery_of m) (asked_item (store_of kept) kept.next m.at None (delivery_of m))

-- what is kept behind a mail, be it delivered or refused
abbrev pub taken : Kept → Mail → Kept
taken kept m = (submitted kept m.at None (delivery_of m)).kept

abbrev pub all_taken : Kept → List Mail → Kept
all_taken kept [] = kept
all_taken kept (m ∷ ms) = all_taken (taken kept m) ms

-- a local part means somebody
abbrev pub is_somebody : House → Kept → List ℕ → Bool
is_somebody house kept local = not (is_empty (resolved house (store_of kept).conf local))

-- Two stores of a house agree for SMTP clients. The next number is the same, and the same local parts mean somebody, be it whoever it is. Whatever mails
-- come to both, the next one finds room in both or in none. Of mailboxes and their messages nothing else is said.
pub record AgreeForMail (house : House) (k l : Kept) : Type 0 where
  pub one_house : k.house ≡ house
  pub other_house : l.house ≡ house
  pub next : k.next ≡ l.next
  pub known : (local : List ℕ) → is_somebody house k local ≡ is_somebody house l local
  pub room : (before : List Mail) (m : Mail) → is_full (all_taken k before) m ≡ is_full (all_taken l before) m
