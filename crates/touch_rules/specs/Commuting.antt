-- Which items are independent, and which commute, by their touches.
use Rattle.std.specs.Prelude.{ℕ, Bool, true, false, not, ◌&&◌, ◌||◌, ◌==◌, List, Option, Some, None, bytes_eq}
use Rattle.std.specs.List.{list_all, list_any}
use Rattle.undo_base.specs.declared.keys.User.{User}
use Rattle.undo_base.specs.declared.keys.Key.{Key}
use Rattle.verb_core.specs.Mailboxes.{is_among}
use Rattle.verb_core.specs.Boxes.{same_user}
use Rattle.touch_rules.specs.declared.touched.Touch.{Touch}
use Rattle.touch_rules.specs.declared.touched.Touch.TheVariants.{Keys, Tail, Whole, Names, Every}

-- ---- the place of a touch: a user's mailbox, or the user's names, or all places of a user

abbrev pub user_of : Touch → User
user_of (Keys u mailbox keys writes) = u
user_of (Tail u mailbox number) = u
user_of (Whole u mailbox writes) = u
user_of (Names u writes) = u
user_of (Every u) = u

-- whether it is of all places of its user
abbrev pub is_every : Touch → Bool
is_every (Keys u mailbox keys writes) = false
is_every (Tail u mailbox number) = false
is_every (Whole u mailbox writes) = false
is_every (Names u writes) = false
is_every (Every u) = true

-- the mailbox, where the place is one
abbrev pub mailbox_of : Touch → Option (List ℕ)
mailbox_of (Keys u mailbox keys writes) = Some mailbox
mailbox_of (Tail u mailbox number) = Some mailbox
mailbox_of (Whole u mailbox writes) = Some mailbox
mailbox_of (Names u writes) = None
mailbox_of (Every u) = None

abbrev pub same_mailbox : Option (List ℕ) → Option (List ℕ) → Bool
same_mailbox (Some a) (Some b) = bytes_eq a b
same_mailbox None None = true
same_mailbox _ _ = false

-- whether two touches have a common place: one of all places of a user has it with each of that user
abbrev pub share_place : Touch → Touch → Bool
share_place a b = same_user (user_of a) (user_of b) && (is_every a || is_every b || same_mailbox (mailbox_of a) (mailbox_of b))

-- ---- pairs of touches

-- whether it writes: new mail does, and what touches all places of a user
abbrev pub does_write : Touch → Bool
does_write (Keys u mailbox keys writes) = writes
does_write (Tail u mailbox number) = true
does_write (Whole u mailbox writes) = writes
does_write (Names u writes) = writes
does_write (Every u) = true

abbrev pub both_read : Touch → Touch → Bool
both_read a b = not (does_write a || does_write b)

-- whether some key is one of both
abbrev pub have_common : List Key → List Key → Bool
have_common keys others = list_any (is_among others) keys

-- whether some key is of the item of a number
abbrev pub has_number : ℕ → List Key → Bool
has_number number keys = list_any (λ (key : Key). key.item == number) keys

-- whether the messages of these keys are others than those that a touch of their mailbox speaks of
abbrev pub others_than : List Key → Touch → Bool
others_than keys (Keys v name others changes) = not (have_common keys others)
others_than keys (Tail v name number) = not (has_number number keys)
others_than keys (Whole v name writes) = false
others_than keys (Names v writes) = false
others_than keys (Every v) = false

-- whether the new mail of the item of a number is none of the messages that a touch of its mailbox speaks of
abbrev pub is_none_of : ℕ → Touch → Bool
is_none_of number (Keys v name keys writes) = not (has_number number keys)
is_none_of number (Tail v name other) = false
is_none_of number (Whole v name writes) = false
is_none_of number (Names v writes) = false
is_none_of number (Every v) = false

-- whether two touches of one mailbox speak of different messages
abbrev pub different : Touch → Touch → Bool
different (Keys u mailbox keys writes) b = others_than keys b
different (Tail u mailbox number) b = is_none_of number b
different (Whole u mailbox writes) b = false
different (Names u writes) b = false
different (Every u) b = false

-- ---- items

-- independent: on each common place both only read
abbrev pub are_independent : List Touch → List Touch → Bool
are_independent xs ys = list_all (λ a. list_all (λ b. not (share_place a b) || both_read a b) ys) xs

-- commuting: on each common place both only read, or they speak of different messages
abbrev pub commute : List Touch → List Touch → Bool
commute xs ys = list_all (λ a. list_all (λ b. not (share_place a b) || both_read a b || different a b) ys) xs
