-- An item that can be entered with no memory taken.
use Rattle.std.specs.Prelude.{◌≡◌, ◌<◌, length}
use Rattle.undo_base.specs.declared.limits.TheConstants.{END_OF_NUMBERS}
use Rattle.verb_core.specs.declared.item.Item.{Item}
use Rattle.verb_core.specs.Items.{IsWellFormed}
use Rattle.verb_core.specs.Step.{step}
use Rattle.verb_core.specs.Stamps.{stamps_after}
use Rattle.box_store.specs.Effects.{IsReady, applied}
use Rattle.mail_desk.specs.declared.ready.Made.{Made}
use Rattle.mail_desk.specs.declared.ready.Ready.{Ready}
use Rattle.store_kept.specs.Kept.{store_of}
use Rattle.mail_desk.specs.Held.{Held}
use Rattle.mail_desk.specs.Stamping.{HasSpare, restamped}

-- The item has the next number and is made ready to be stored; the effect is what it does and has what it shows. The stamps with the changes
-- are those after it, and there is room for all of it.
pub record CanEnter (ready : Ready) (held : Held) : Type 0 where
  pub formed : IsWellFormed held.kept.house ready.item
  pub stored : ready.stored ≡ ready.item
  pub number : ready.item.number ≡ held.kept.next
  pub left : held.kept.next < END_OF_NUMBERS
  pub does : applied ready.made.effect (store_of held.kept) ≡ (step (store_of held.kept) ready.item).0
  pub shows : ready.made.effect.shown ≡ (step (store_of held.kept) ready.item).1
  pub spare : HasSpare ready.made.stamps (length held.kept.stamps)
  pub stamps : restamped ready.made.stamps held.kept.stamps ≡ stamps_after ready.item.number (step (store_of held.kept) ready.item).0.boxes held.kept.stamps
  pub effect : IsReady ready.made.effect held.room.store
  pub items : 0 < held.room.items
  pub notes : 0 < held.room.notes

-- an item as it is stored and what was made for it, as one that is ready with its text
abbrev pub ready_of : Item → Made → Ready
ready_of item made = record { item = item; stored = item; made = made }
