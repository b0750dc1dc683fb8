-- How many items an event of a mail program performs.
use Rattle.std.specs.Prelude.{◌≡◌, ℕ, ◌*◌, ◌≤◌, List, [], ◌∷◌, length}
use Rattle.verb_core.specs.declared.item.Item.{Item}
use Rattle.store_kept.specs.Kept.{Kept, performed}
use Rattle.mail_loop.specs.State.{Seat, Smtp, Imap, Http, Pop}
use Rattle.cost_laws.specs.Units.{EndIn}

-- items are performed, one after the other
abbrev pub all_performed : Kept → List Item → Kept
all_performed kept [] = kept
all_performed kept (item ∷ items) = all_performed (performed kept item) items

-- from one to the other nothing changed but that items were performed, so many at most
pub record Performs (most : ℕ) (old new : Kept) : Type 0 where
  pub items : List Item
  pub kept : new ≡ all_performed old items
  pub few : length items ≤ most

-- How many items a unit of a mail program's stream performs at most. A POP3 client's QUIT performs two: what it marked is flagged, and then removed.
abbrev pub items_a_unit : Seat → ℕ
items_a_unit (Smtp unserved d) = 1
items_a_unit (Imap stream d) = 1
items_a_unit (Http came) = 0
items_a_unit (Pop unserved d) = 2

-- an event of these octets performs no more items than the units that it may end
pub record PerformsFew (seat : Seat) (bytes : List ℕ) (old new : Kept) : Type 0 where
  pub units : ℕ
  pub end_in : EndIn units bytes
  pub performs : Performs (units * items_a_unit seat) old new
