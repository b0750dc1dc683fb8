-- Rows of which a store is made, as a snapshot has them.
use Rattle.std.specs.Prelude.{◌≡◌, ℕ, ◌+◌, ◌<◌, ◌≤◌, Bool, false, ◌&&◌, List, length, take, IsTrue}
use Rattle.std.specs.List.{list_all}
use Rattle.verb_core.specs.declared.mailbox.BoxId.{BoxId}
use Rattle.verb_core.specs.declared.mailbox.Mailbox.{Mailbox}
use Rattle.verb_core.specs.declared.conf.House.{House}
use Rattle.verb_core.specs.declared.conf.Conf.{Conf}
use Rattle.verb_core.specs.Boxes.{is_rising, has_superiors}
use Rattle.verb_core.specs.Store.{MailStore, is_house, is_known, is_row, has_fixed, users_of}

-- the store of these parts
abbrev pub store_of_rows : House → Conf → List (BoxId × Mailbox) → MailStore
store_of_rows house conf rows = record { house = house; conf = conf; boxes = rows }

-- Whether the users and names rise and each user is known; in each row the UIDs rise from at least 1 and stay below the next.
-- Each superior of a row's name has a row, which then stands before it.
abbrev pub are_rows : House → List (BoxId × Mailbox) → Bool
are_rows house rows = is_rising rows && list_all (is_row house) rows && list_all (has_superiors rows) rows

-- whether each user has the fixed mailboxes
abbrev pub have_fixed : House → List (BoxId × Mailbox) → Bool
have_fixed house rows = list_all (has_fixed rows) (users_of house)

-- whether each alias stands for users of the house
abbrev pub knows_aliases : House → Conf → Bool
knows_aliases house conf = list_all (λ a. list_all (is_known house) a.users) conf.aliases

-- whether these are a store's parts
abbrev pub makes_store : House → Conf → List (BoxId × Mailbox) → Bool
makes_store house conf rows = is_house house && are_rows house rows && have_fixed house rows && knows_aliases house conf

-- Rows are refused at a place: those before it can stand in a store, but not with the one that stands there. Where all of
-- them can, a fixed mailbox is missing, and the place is their number.
pub record IsRefusedAt (house : House) (rows : List (BoxId × Mailbox)) (place : ℕ) : Type 0 where
  pub before : IsTrue (are_rows house (take place rows))
  pub here : place < length rows → are_rows house (take (place + 1) rows) ≡ false
  pub missing : length rows ≤ place → have_fixed house rows ≡ false
  pub within : place ≤ length rows
