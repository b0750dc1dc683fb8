-- The notice to a user after a cycle, and whom a cycle sends one.
use Rattle.std.specs.Prelude.{ℕ, Bool, List, [], ◌++◌, codes, map, filter, get_or, slice_get, Option, Some, None, option_map, unwrap_or}
use Rattle.std.specs.Fmt.{decimal}
use Rattle.std.specs.List.{list_any, flat_map}
use Rattle.undo_base.specs.LineEnd.{crlf}
use Rattle.undo_base.specs.declared.keys.User.{User}
use Rattle.verb_core.specs.declared.conf.Account.{Account}
use Rattle.verb_core.specs.declared.conf.House.{House}
use Rattle.verb_core.specs.Boxes.{same_user}
use Rattle.verb_core.specs.Store.{users_of}
use Rattle.civil_dates.specs.Dates.{mail_date}
use Rattle.paradox.specs.Words.{verb_word, reason_text}
use Rattle.paradox.specs.declared.reports.BrokenItem.{BrokenItem}

-- a line and its end (RFC 5322, 2.1)
abbrev pub line : List ℕ → List ℕ
line text = text ++ crlf

-- a user's name: no bytes where the house has no such user
abbrev pub user_name : House → User → List ℕ
user_name house user = unwrap_or (option_map (λ (a : Account). a.name) (slice_get house.accounts user.0)) []

-- an address in the house's first domain
abbrev pub address : House → List ℕ → List ℕ
address house local = codes "<" ++ local ++ codes "@" ++ get_or house.domains 0 [] ++ codes ">"

-- a mailbox in a line, with a space before it
abbrev pub spaced_box : Option (List ℕ) → List ℕ
spaced_box None = []
spaced_box (Some mailbox) = codes " " ++ mailbox

-- an item: its number, its verb, its mailbox where it has one, and the reason
abbrev pub broken_line : BrokenItem → List ℕ
broken_line b = line (decimal b.number ++ codes " " ++ verb_word b.verb ++ spaced_box b.mailbox ++ codes ": " ++ reason_text b.reason)

-- the lines of a user's items, in the order of the list
abbrev pub broken_lines : User → List BrokenItem → List ℕ
broken_lines user list = flat_map broken_line (filter (λ b. same_user user b.user) list)

-- ---- the header lines, and the empty line behind them (RFC 5322, 3.6)

unfoldable pub from_line : House → List ℕ
from_line house = line (codes "From: undomail " ++ address house (codes "postmaster"))

unfoldable pub to_line : House → User → List ℕ
to_line house user = line (codes "To: " ++ address house (user_name house user))

unfoldable pub subject_line : ℕ → List ℕ
subject_line c = line (codes "Subject: Mail rewound and replayed, cycle " ++ decimal c)

unfoldable pub date_line : ℕ → List ℕ
date_line at = line (codes "Date: " ++ mail_date at)

abbrev pub head_lines : House → User → ℕ → ℕ → List ℕ
head_lines house user c at = from_line house ++ to_line house user ++ subject_line c ++ date_line at ++ line []

-- ---- the notice

-- the first line of its text
unfoldable pub first_line : List ℕ
first_line = line (codes "These answers that you were given no longer hold:")

-- the notice of cycle c to a user: it names exactly the user's items of the list
abbrev pub notice_text : House → User → ℕ → ℕ → List BrokenItem → List ℕ
notice_text house user c at list = head_lines house user c at ++ first_line ++ broken_lines user list

-- whether the list has an item of the user
abbrev pub is_told : List BrokenItem → User → Bool
is_told list user = list_any (λ b. same_user user b.user) list

-- whom a cycle sends a notice: each user with an item in the list, rising
abbrev pub users_told : House → List BrokenItem → List User
users_told house list = filter (is_told list) (users_of house)

-- the notices of cycle c, in user order
abbrev pub notices : House → ℕ → ℕ → List BrokenItem → List (User × List ℕ)
notices house c at list = map (λ user. (user, notice_text house user c at list)) (users_told house list)
