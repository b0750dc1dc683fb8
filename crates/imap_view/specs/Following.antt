-- What a client does that follows a view by what it is told (RFC 3501, 7.3.1 and 7.4.1), and what the store says of a view's messages.
use Rattle.std.specs.Prelude.{ℕ, ◌+◌, ◌-◌, Bool, not, ◌||◌, ◌==◌, nat_lt, List, [], ◌∷◌, ◌++◌, codes, decimal, drop, filter, take}
use Rattle.std.specs.List.{list_all}
use Rattle.imap_text.specs.Words.{line}
use Rattle.verb_core.specs.declared.mailbox.Entry.{Entry}
use Rattle.verb_core.specs.Mailboxes.{same_key}
use Rattle.imap_view.specs.declared.messages.Known.{Known}
use Rattle.imap_view.specs.Views.{is_lost, is_new}

-- the message with a number, from 1, goes, and those behind it move up
abbrev pub without_number : List Known → ℕ → List Known
without_number view n = take (n - 1) view ++ drop n view

-- messages go, one by one
abbrev pub without_numbers : List Known → List ℕ → List Known
without_numbers view [] = view
without_numbers view (n ∷ ns) = without_numbers (without_number view n) ns

-- the numbers that EXPUNGE lines tell, where so many went already
abbrev pub told_numbers : ℕ → List ℕ → List ℕ
told_numbers gone [] = []
told_numbers gone (n ∷ ns) = (n - gone) ∷ told_numbers (gone + 1) ns

abbrev pub expunge_line : ℕ → List ℕ
expunge_line n = line (decimal n ++ codes " EXPUNGE")

-- the messages of a view that are still there
abbrev pub kept_in : List Entry → List Known → List Known
kept_in entries view = filter (λ known. not (is_lost entries known)) view

-- those that the view lacks
abbrev pub new_in : List Entry → List Known → List Entry
new_in entries view = filter (is_new view) entries

-- what the view lacks came behind all that it knows
abbrev pub comes_behind : List Entry → List Known → Bool
comes_behind entries view = list_all (λ e. not (is_new view e) || list_all (λ (known : Known). nat_lt known.uid e.uid) view) entries

-- no message of the view has another UID in the mailbox
abbrev pub keeps_uids : List Entry → List Known → Bool
keeps_uids entries view = list_all (λ (known : Known). list_all (λ (e : Entry). not (same_key known.key e.key) || (known.uid == e.uid)) entries) view
