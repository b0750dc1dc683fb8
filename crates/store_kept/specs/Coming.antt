-- What holds of what the last cycle left to be withdrawn.
use Rattle.std.specs.Prelude.{ℕ, ◌<◌, List, Option, Some, None}
use Rattle.std.specs.List.{AllByRecursion}
use Rattle.verb_core.specs.declared.item.Item.{Item}
use Rattle.withdraw.specs.declared.undone.UndoneBehind.{UndoneBehind}
use Rattle.withdraw.specs.Coming.{CanComeBack, TextsComeBack}
use Rattle.store_kept.specs.Bases.{IsNew}
use Rattle.store_kept.specs.Kept.{Kept, Origin, origin_of}

-- It can come back among these items in force, and its cycle has a number that was drawn. The number of each of its items is new to
-- what the store in use begins with.
pub record Comes (origin : Origin) (timeline : List Item) (next : ℕ) (last : UndoneBehind) : Type 0 where
  pub cycle : last.cycle < next
  pub back : CanComeBack origin.house timeline last
  pub new : AllByRecursion (λ (i : Item). IsNew origin i.number) last.later

-- the same, where there is something to be withdrawn
abbrev pub ComesIf : Origin → List Item → ℕ → Option UndoneBehind → Type 0
ComesIf origin timeline next None = Unit {0}
ComesIf origin timeline next (Some last) = Comes origin timeline next last

-- of what is kept
abbrev pub HasUndone : Kept → Type 0
HasUndone kept = ComesIf (origin_of kept) kept.timeline kept.next kept.undone

-- and its texts can
abbrev pub TextsComeIf : List Item → Option UndoneBehind → Type 0
TextsComeIf timeline None = Unit {0}
TextsComeIf timeline (Some last) = TextsComeBack timeline last

abbrev pub HasUndoneTexts : Kept → Type 0
HasUndoneTexts kept = TextsComeIf kept.timeline kept.undone
