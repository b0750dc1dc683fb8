-- Why a timeline is not repaired.
use Rattle.std.specs.Prelude.{◌≡◌, List, None}
use Rattle.verb_core.specs.declared.item.Item.{Item}
use Rattle.verb_bytes.specs.declared.journal.CycleAsk.{CycleAsk}
use Rattle.repair_desk.specs.declared.editing.EditRefused.{EditRefused}
use Rattle.repair_desk.specs.declared.editing.EditRefused.TheVariants.{Point, NoMemory}
use Rattle.repair_desk.specs.Repairs.{position}

-- the timeline does not have the given point; want of memory is free
abbrev pub IsRefusalOf : List Item → CycleAsk → EditRefused → Type 0
IsRefusalOf t ask (Point given) = (given ≡ ask.point) × (position t ask.point ≡ None)
IsRefusalOf t ask NoMemory = Unit {0}
