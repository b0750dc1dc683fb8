-- What holds of what a cycle left to be withdrawn, beside the items in force since: all that stood behind its point can come back.
--
-- Texts that went and come back had them before. So that a body has one text over all that happens is said of the items in force
-- and of those that can come back together.
use Rattle.std.specs.Prelude.{◌≡◌, ◌<◌, ◌≤◌, List, [], drop, length}
use Rattle.std.specs.List.{AllByRecursion}
use Rattle.verb_core.specs.declared.conf.House.{House}
use Rattle.verb_core.specs.declared.item.Item.{Item}
use Rattle.verb_core.specs.Deeds.{with_text}
use Rattle.verb_core.specs.Items.{IsTimeline}
use Rattle.withdraw.specs.declared.undone.UndoneBehind.{UndoneBehind}
use Rattle.withdraw.specs.Unediting.{before_of}

-- ---- the items

-- an item and the same at present, which may show something else and have another text
pub record IsSame (i now : Item) : Type 0 where
  pub by : now.by ≡ i.by
  pub but_text : with_text [] now.deed ≡ with_text [] i.deed

-- an item, where it has the number of another, is the same at present
abbrev pub IsSameIf : Item → Item → Type 0
IsSameIf i now = now.number ≡ i.number → IsSame i now

-- each of the present items that has the number of one of these is the same
abbrev pub AreSame : List Item → List Item → Type 0
AreSame before present = AllByRecursion (λ (i : Item). AllByRecursion (IsSameIf i) present) before

-- What a cycle left can come back among the items in force. The timeline before it was one; its items are older than the cycle, and
-- those behind the first `placed` are not. Those that are there still are the same.
pub record CanComeBack (house : House) (present : List Item) (last : UndoneBehind) : Type 0 where
  pub position : last.position ≤ last.placed
  pub placed : last.placed ≤ length present
  pub before : IsTimeline house (before_of present last)
  pub older : AllByRecursion (λ (i : Item). i.number < last.cycle) last.later
  pub newer : AllByRecursion (λ (i : Item). last.cycle < i.number) (drop last.placed present)
  pub same : AreSame last.later (drop last.position present)

-- ---- their texts

-- an item that has the number and the rev of another has its text
abbrev pub IsSameText : Item → Item → Type 0
IsSameText i now = now.number ≡ i.number → now.rev ≡ i.rev → now.deed ≡ i.deed

abbrev pub AreSameTexts : List Item → List Item → Type 0
AreSameTexts before present = AllByRecursion (λ (i : Item). AllByRecursion (IsSameText i) present) before

-- the texts of what a cycle left are older than the cycle, and those that are in force still are the same
pub record TextsComeBack (present : List Item) (last : UndoneBehind) : Type 0 where
  pub older : AllByRecursion (λ (i : Item). i.rev < last.cycle) last.later
  pub same : AreSameTexts last.later (drop last.position present)
