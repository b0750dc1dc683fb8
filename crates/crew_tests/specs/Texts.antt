-- Texts that are all empty, of which nothing is known.
use Rattle.std.specs.Prelude.{true, None}
use Rattle.verb_core.specs.Texts.{BodiesTold}

-- each body is held, what is read is not what was stored, and no read fails
abbrev pub all_empty : BodiesTold
all_empty = record { holds = λ _. true; texts = λ _. None; honest = ⊥; faults = 0 }

-- reading leaves nothing
abbrev pub LeadsAnywhere : {X : Type 0} → X → X → Type 0
LeadsAnywhere old new = Unit {0}

pub to_itself : {X : Type 0} (x : X) → LeadsAnywhere x x
to_itself x = tt

pub goes_on : {X : Type 0} (old mid new : X) → LeadsAnywhere old mid → LeadsAnywhere mid new → LeadsAnywhere old new
goes_on old mid new one other = tt
