-- Mailboxes as commands name them (RFC 3501, 5.1), and accounts.
use Rattle.std.specs.Prelude.{ℕ, Bool, ◌&&◌, ◌-◌, List, ◌++◌, take, drop, length, nat_eq, nat_le, position, bytes_eq, codes, Option, None, Some, is_none, if◌then◌else◌}
use Rattle.std.specs.List.{ends_with, position_or_len}
use Rattle.std.specs.Str.{str_eq_ignore_ascii_case}
use Rattle.undo_base.specs.Name.{first_unprintable}
use Rattle.verb_core.specs.declared.conf.Account.{Account}
use Rattle.verb_core.specs.declared.conf.House.{House}
use Rattle.verb_core.specs.Names.{inbox, is_slash}

-- 1 to 200 printable bytes
abbrev pub is_name : List ℕ → Bool
is_name bytes = nat_le 1 (length bytes) && nat_le (length bytes) 200 && is_none (first_unprintable bytes)

abbrev pub name_of : List ℕ → Option (List ℕ)
name_of bytes = if is_name bytes then Some bytes else None

-- how long the part before the first `/` is: all, where no name has a superior
abbrev pub first_part : Bool → List ℕ → ℕ
first_part deep bytes = if deep then position_or_len is_slash bytes else length bytes

-- an argument in which INBOX, in any case, is written INBOX: alone, or as the part before the first `/`
abbrev pub with_inbox : Bool → List ℕ → List ℕ
with_inbox deep bytes =
    if str_eq_ignore_ascii_case (take (first_part deep bytes) bytes) inbox then inbox ++ drop (first_part deep bytes) bytes else bytes

-- the mailbox that an argument names, and bytes that are no name name none
abbrev pub mailbox_of : Bool → List ℕ → Option (List ℕ)
mailbox_of deep bytes = name_of (with_inbox deep bytes)

-- without one `/` at its end, which only says that mailboxes are to be made below it (RFC 3501, 6.3.3)
abbrev pub without_slash : List ℕ → List ℕ
without_slash bytes = if ends_with nat_eq bytes (codes "/") then take (length bytes - 1) bytes else bytes

-- the mailbox that CREATE names by its argument
abbrev pub made_mailbox_of : Bool → List ℕ → Option (List ℕ)
made_mailbox_of deep bytes = mailbox_of deep (if deep then without_slash bytes else bytes)

-- the account has this name, in any case, and this password
abbrev pub is_account : List ℕ → List ℕ → Account → Bool
is_account user password a = str_eq_ignore_ascii_case a.name user && bytes_eq a.password password

-- the number of the user with this name and password
abbrev pub account_of : House → List ℕ → List ℕ → Option ℕ
account_of house user password = position (is_account user password) house.accounts
