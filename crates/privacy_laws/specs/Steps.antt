-- What others do in steps: the items that they perform, one behind the other.
use Rattle.std.specs.Prelude.{◌≡◌, ◌⊎◌, ℕ, Bool, true, false, IsTrue, List, [], ◌∷◌, ◌++◌, length, drop, min, Option, None, Some}
use Rattle.std.specs.List.{AllByRecursion}
use Rattle.undo_base.specs.declared.limits.TheConstants.{LAST_MOMENT}
use Rattle.undo_base.specs.declared.keys.User.{User}
use Rattle.undo_outside.specs.declared.event.What.{What}
use Rattle.undo_outside.specs.declared.event.What.TheVariants.{Joined, Bytes, Left, Idle, End}
use Rattle.verb_core.specs.declared.conf.House.{House}
use Rattle.verb_core.specs.declared.item.Item.{Item}
use Rattle.verb_core.specs.Boxes.{same_user}
use Rattle.verb_core.specs.Items.{actor, is_own}
use Rattle.verb_core.specs.Store.{is_known}
use Rattle.store_kept.specs.Kept.{Kept, Marks, performed, snapshotted, store_of}
use Rattle.mail_loop.specs.declared.aftermath.Aftermath.TheVariants.{Quiet}
use Rattle.mail_loop.specs.Machine.{seat_at}
use Rattle.mail_loop.specs.Serving.{Step, run}
use Rattle.mail_loop.specs.State.{Seat, Smtp, Imap, Http, Pop, State}
use Rattle.mail_loop.specs.Turns.{Heard, hears_console}
use Rattle.privacy_laws.specs.Clients.{IsSeatOf, bytes_are_of}
use Rattle.privacy_laws.specs.Others.{CanFollow, IsSameMail, Spares, all_performed}
use Rattle.privacy_laws.specs.Runs.{IsSameStep, LeaveAgreement, Others, Own, Part, behind}

-- ---- whose step it is

-- bytes come on another user's connection, by IMAP or by POP3, and log in nobody else
pub record IsOfAnother (house : House) (u : User) (seat : Seat) (bytes : List ℕ) : Type 0 where
  pub who : User
  pub other : same_user u who ≡ false
  pub known : IsTrue (is_known house who)
  pub its : IsSeatOf who seat
  pub only : bytes_are_of house who seat bytes ≡ true

-- A console leaves what was kept, with a snapshot of it, or with one act more: so it does for each request but a cycle, a withdrawal and an upgrade.
abbrev pub LeavesMail : House → Kept → Kept → Type 0
LeavesMail house kept new = (new ≡ kept) ⊎ (new ≡ snapshotted kept) ⊎ ((i : Item) × CanFollow house kept i × (is_own i.deed ≡ false) × (new ≡ performed kept i))

-- what is heard of a console's bytes in a step
abbrev pub console_in : Step → State → List ℕ → Heard
console_in step s bytes = hears_console step.hindrances.turns step.hindrances.stage (min step.event.at LAST_MOMENT) s bytes

-- bytes on a connection are of others: an SMTP client's, another user's, or a console's that leave the mail and close no connection
abbrev pub AreOfOthers : House → User → Step → State → Seat → List ℕ → Type 0
AreOfOthers house u step s (Smtp unserved d) bytes = Unit {0}
AreOfOthers house u step s (Imap stream d) bytes = IsOfAnother house u (Imap stream d) bytes
AreOfOthers house u step s (Http came) bytes = LeavesMail house s.kept (console_in step s (came ++ bytes)).state.kept × ((console_in step s (came ++ bytes)).aftermath ≡ Quiet)
AreOfOthers house u step s (Pop unserved d) bytes = IsOfAnother house u (Pop unserved d) bytes

-- the same of bytes on a connection that may be open or not
abbrev pub ComeOfOthers : House → User → Step → State → Option Seat → List ℕ → Type 0
ComeOfOthers house u step s None bytes = Unit {0}
ComeOfOthers house u step s (Some seat) bytes = AreOfOthers house u step s seat bytes

-- what happens is of others
abbrev pub IsOfOthers : House → User → Step → State → What → Type 0
IsOfOthers house u step s (Joined role) = Unit {0}
IsOfOthers house u step s (Bytes bytes) = ComeOfOthers house u step s (seat_at step.event.conn s.seats) bytes
IsOfOthers house u step s Left = Unit {0}
IsOfOthers house u step s Idle = Unit {0}
IsOfOthers house u step s End = Unit {0}

-- a step on a connection that is not the user's, and of others
pub record IsOthersStep (house : House) (u : User) (own : ℕ → Bool) (s : State) (step : Step) : Type 0 where
  pub apart : own step.event.conn ≡ false
  pub does : IsOfOthers house u step s step.event.what

abbrev pub AreOthersSteps : House → User → (ℕ → Bool) → State → List Step → Type 0
AreOthersSteps house u own s [] = Unit {0}
AreOthersSteps house u own s (step ∷ steps) = IsOthersStep house u own s step × AreOthersSteps house u own (behind step s) steps

-- ---- what they do

-- the items that entered the timeline in steps
abbrev pub items_in : List Step → State → List Item
items_in steps s = drop (length s.kept.timeline) (run steps s).state.kept.timeline

-- each item can follow those before it
abbrev pub AreFollowing : House → Kept → List Item → Type 0
AreFollowing house kept [] = Unit {0}
AreFollowing house kept (i ∷ is) = CanFollow house kept i × AreFollowing house (performed kept i) is

-- where an item is some user's own, it is not this user's
abbrev pub IsNotOf : User → Item → Type 0
IsNotOf u i = is_own i.deed ≡ true → same_user u (actor i.by i.deed) ≡ false

-- Steps do nothing to what is kept but perform the items that entered the timeline, each behind those before it, none of them the user's own. Only the
-- marks of snapshots may be others.
pub record Perform (house : House) (u : User) (steps : List Step) (s : State) : Type 0 where
  pub marks : Marks
  pub kept_is : (run steps s).state.kept ≡ record (all_performed s.kept (items_in steps s)) { marks = marks }
  pub follow : AreFollowing house s.kept (items_in steps s)
  pub others : AllByRecursion (IsNotOf u) (items_in steps s)

-- ---- what they do in two runs

-- an item of others is away from a user: it is another user's own, or a mail or an act that touches none of the user's mailboxes
abbrev pub IsAway : User → Kept → Item → Type 0
IsAway u kept i = (is_own i.deed ≡ true) ⊎ Spares u (store_of kept) i

-- Items of others match for a user: there are as many in both runs, each mail that comes to the user and each act on the user's mail stands in both, and
-- all others are away from the user.
abbrev pub AreMatched : User → Kept → Kept → List Item → List Item → Type 0
AreMatched u k l [] [] = Unit {0}
AreMatched u k l [] (j ∷ js) = ⊥
AreMatched u k l (i ∷ is) [] = ⊥
AreMatched u k l (i ∷ is) (j ∷ js) = (IsSameMail u k l i j ⊎ (IsAway u k i × IsAway u l j)) × AreMatched u (performed k i) (performed l j) is js

-- Steps of others in each run, however many: their items match for the user.
pub record DoTheSame (house : House) (u : User) (own : ℕ → Bool) (s t : State) (is js : List Step) : Type 0 where
  pub ones : AreOthersSteps house u own s is
  pub others : AreOthersSteps house u own t js
  pub items : AreMatched u s.kept t.kept (items_in is s) (items_in js t)

-- Two runs bring a user the same: on the user's connections the same happens in both, and between, what others do matches for the user. Of steps such as
-- a cycle, which may change everybody's mail, it is asked that they leave the agreement.
abbrev pub BringTheSame : House → User → (ℕ → Bool) → State → State → List Part → Type 0
BringTheSame house u own s t [] = Unit {0}
BringTheSame house u own s t (Own i j ∷ parts) = IsSameStep house u own s t i j × BringTheSame house u own (behind i s) (behind j t) parts
BringTheSame house u own s t (Others is js ∷ parts) =
    (DoTheSame house u own s t is js ⊎ LeaveAgreement house u own s t is js) × BringTheSame house u own (run is s).state (run js t).state parts
