-- Items whose texts nothing looks at: no filter is in force where they are performed.
use Rattle.std.specs.Prelude.{Bool, true, false, ◌&&◌, List, None}
use Rattle.std.specs.List.{list_all}
use Rattle.verb_core.specs.declared.item.Act.TheVariants.{SetFilter}
use Rattle.verb_core.specs.declared.item.Deed.{Deed}
use Rattle.verb_core.specs.declared.item.Deed.TheVariants.{Act as Acts}
use Rattle.verb_core.specs.declared.item.Item.{Item}
use Rattle.verb_core.specs.Names.{is_empty}
use Rattle.verb_core.specs.Store.{MailStore}
use Rattle.verb_core.specs.Texts.{BodiesTold}

-- whether a deed brings no filter
abbrev pub brings_no_filter : Deed → Bool
brings_no_filter (Acts (SetFilter filter)) = false
brings_no_filter _ = true

-- whether nothing looks at the text of an item that is performed on a store: no filter is in force, and none comes
abbrev pub are_unfiltered : MailStore → List Item → Bool
are_unfiltered s items = is_empty s.conf.filters && list_all (λ (i : Item). brings_no_filter i.deed) items

-- ---- texts that are all empty

-- each body is held, what is given is not what was stored, and no read fails
abbrev pub all_empty : BodiesTold
all_empty = record { holds = λ _. true; texts = λ _. None; honest = ⊥; faults = 0 }

-- nothing is read
abbrev pub LeadsAnywhere : {X : Type 0} → X → X → Type 0
LeadsAnywhere old new = Unit {0}

pub to_itself : {X : Type 0} (x : X) → LeadsAnywhere x x
to_itself x = tt

pub goes_on : {X : Type 0} (old mid new : X) → LeadsAnywhere old mid → LeadsAnywhere mid new → LeadsAnywhere old new
goes_on old mid new one other = tt
