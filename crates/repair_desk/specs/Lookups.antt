-- What is asked of a cycle, kept so that it can be looked up by number.
use Rattle.std.specs.Prelude.{◌≡◌, ℕ, List, Option, option_map, option_and_then, slice_get}
use Rattle.std.specs.BTreeMap.{BTreeMap, get}
use Rattle.std.specs.Ordering.{nat_cmp}
use Rattle.verb_bytes.specs.declared.journal.CycleAsk.{CycleAsk}
use Rattle.repair_desk.specs.Repairs.{is_among, text_asked}

-- the text at a place of the list of texts, if a place is given
abbrev pub text_at : List (ℕ × List ℕ) → Option ℕ → Option (List ℕ)
text_at replaces place = option_map (λ (r : ℕ × List ℕ). r.1) (option_and_then (slice_get replaces) place)

-- beside each number stands the place of its last text
abbrev pub LeadTo : List (ℕ × List ℕ) → BTreeMap ℕ ℕ → Type 0
LeadTo replaces places = (n : ℕ) → text_at replaces (get nat_cmp places n) ≡ text_asked replaces n

-- the numbers are those to be dropped, and the places lead to the texts
pub record IsLookup (ask : CycleAsk) (numbers : List ℕ) (places : BTreeMap ℕ ℕ) : Type 0 where
  pub drops : (n : ℕ) → is_among numbers n ≡ is_among ask.drops n
  pub leads : LeadTo ask.replaces places
