-- What it means that two items may come in either order.
use Rattle.std.specs.Prelude.{◌≡◌, Bool, true, false, []}
use Rattle.verb_core.specs.declared.item.Item.{Item}
use Rattle.verb_core.specs.declared.item.Resolved.{Resolved}
use Rattle.verb_core.specs.declared.item.Deed.{Deed}
use Rattle.verb_core.specs.declared.item.Deed.TheVariants.{Deliver, Append, Copy, Act as Acts, Notice}
use Rattle.verb_core.specs.declared.item.Act.TheVariants.{SetAlias, DropAlias, SetFilter, DropFilter, Give}
use Rattle.verb_core.specs.Store.{MailStore}
use Rattle.verb_core.specs.Aims.{Sought}
use Rattle.verb_core.specs.Step.{step, step_with}

-- whether a deed brings new mail
abbrev pub brings_mail : Deed → Bool
brings_mail (Deliver from to text) = true
brings_mail (Append mailbox flags moment text) = true
brings_mail (Copy mailbox keys target) = true
brings_mail (Acts (Give u mailbox text)) = true
brings_mail (Notice u text) = true
brings_mail _ = false

-- whether a deed is an act on aliases or filters
abbrev pub sets_conf : Deed → Bool
sets_conf (Acts (SetAlias local users)) = true
sets_conf (Acts (DropAlias local)) = true
sets_conf (Acts (SetFilter filter)) = true
sets_conf (Acts (DropFilter id)) = true
sets_conf _ = false

-- an item with these aims
abbrev pub resolved : Sought → Item → Resolved
resolved to i = record { item = i; aims = to.aims; missed = to.missed }

-- aims that an item can have: none where it brings no mail
abbrev pub CanHave : Sought → Item → Type 0
CanHave to i = brings_mail i.deed ≡ false → to ≡ record { aims = []; missed = [] }

-- two items with these aims may come in either order: they leave the same store, and each gets the same answer
pub record Swap (to from : Sought) (s : MailStore) (i j : Item) : Type 0 where
  pub store : (step_with from (step_with to s i).0 j).0 ≡ (step_with to (step_with from s j).0 i).0
  pub first : (step_with to (step_with from s j).0 i).1 ≡ (step_with to s i).1
  pub second : (step_with from (step_with to s i).0 j).1 ≡ (step_with from s j).1

-- the same, where each finds its aims on the store of its turn
pub record SwapAnew (s : MailStore) (i j : Item) : Type 0 where
  pub store : (step (step s i).0 j).0 ≡ (step (step s j).0 i).0
  pub first : (step (step s j).0 i).1 ≡ (step s i).1
  pub second : (step (step s i).0 j).1 ≡ (step s j).1
